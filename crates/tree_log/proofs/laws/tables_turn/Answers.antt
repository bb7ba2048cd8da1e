use Rattle.tree_log.proofs.RestLemmas.{tables_turned}
use Rattle.tree_log.proofs.laws.tables_turn.Goals as goal

pub returns : goal.returns
returns c = record { tables = tables_turned }
