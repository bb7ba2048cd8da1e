use Rattle.tree_reading.proofs.FirstLemmas.{map_is_read}
use Rattle.tree_reading.proofs.first.a_map_is_read.Goals as goal

pub returns : goal.returns
returns c = map_is_read
