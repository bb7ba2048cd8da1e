use Rattle.tree_file.proofs.ListLemmas.{lists_sorted, lists_light}
use Rattle.tree_file.proofs.laws.a_tree_has_lists.Goals as goal

pub returns-clause-sorted : goal.returns-clause-sorted
returns-clause-sorted c = lists_sorted

pub returns-clause-light : goal.returns-clause-light
returns-clause-light c = lists_light
