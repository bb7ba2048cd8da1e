use Rattle.paced_tree.proofs.LaneLemmas.{lanes_replay}
use Rattle.paced_tree.proofs.lanes_replay.Goals as goal

pub returns : goal.returns
returns c = lanes_replay
