use Rattle.tree_machine.proofs.EffectLemmas.{refusals_leave_all}
use Rattle.tree_machine.proofs.laws.steps_change_little.Goals as goal

pub returns : goal.returns
returns c = refusals_leave_all
