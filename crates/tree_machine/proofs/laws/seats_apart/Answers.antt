use Rattle.tree_machine.proofs.FrameLemmas.{step_leaves_holds}
use Rattle.tree_machine.proofs.laws.seats_apart.Goals as goal

pub returns : goal.returns
returns c = λ m step outcome ok. step_leaves_holds m step.seat step.kind outcome ok
