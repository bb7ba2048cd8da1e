use Rattle.tree_machine.proofs.PlayLemmas.{played_stands}
use Rattle.tree_machine.proofs.laws.steps_stand.Goals as goal

pub returns : goal.returns
returns c = played_stands
