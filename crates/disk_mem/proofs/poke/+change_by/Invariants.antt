use Rattle.std.proofs.Common.{length}
use Rattle.disk_mem.proofs.poke.+change_by.Given as goal

abbrev pub decreases-change_by : goal.decreases-change_by
decreases-change_by l = length l.pokes.now
