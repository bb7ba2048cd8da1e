use Rattle.tree_session.proofs.RestLemmas.{opened_rests}
use Rattle.tree_session.proofs.laws.an_opened_core_rests.Goals as goal

pub returns : goal.returns
returns c = opened_rests
