use Rattle.tree_file.proofs.OneTree.{first_holds, first_map}
use Rattle.tree_file.proofs.laws.a_first_tree.Goals as goal

pub returns-clause-holds : goal.returns-clause-holds
returns-clause-holds c = first_holds

pub returns-clause-map : goal.returns-clause-map
returns-clause-map c = first_map
