use Rattle.tree_machine.specs.Moves.{goes_to_a}
use Rattle.tree_file.specs.Tree.{lists_of}
use Rattle.tree_log.proofs.RestLemmas.{lists_joined, tables_grown}
use Rattle.tree_log.proofs.laws.entries_join.Goals as goal

pub returns-clause-tables : goal.returns-clause-tables
returns-clause-tables c = λ pass more lists log are high. tables_grown (goes_to_a pass lists.b more) more lists log are high

pub returns-clause-tree : goal.returns-clause-tree
returns-clause-tree c = λ pass more tree. lists_joined (goes_to_a pass (lists_of tree).b more) more tree
