use Rattle.tree_file.proofs.HoldsLemmas.{entries_changed, other_pages, as_a, as_b}
use Rattle.tree_file.proofs.laws.a_tree_stays.Goals as goal

pub returns-clause-pages : goal.returns-clause-pages
returns-clause-pages c = other_pages

pub returns-clause-lane_a : goal.returns-clause-lane_a
returns-clause-lane_a c = λ sizes tree entry old new. entries_changed as_a sizes tree _

pub returns-clause-lane_b : goal.returns-clause-lane_b
returns-clause-lane_b c = λ sizes tree entry old new. entries_changed as_b sizes tree _
