use Rattle.store_serve.proofs.RunsLemmas.{left_more, left_none}
use Rattle.store_serve.proofs.serve.leave_all.Goals as goal

pub loop-seat-init : goal.loop-seat-init
loop-seat-init g c = left_none g.D.Disk.state c.args.core.now

pub loop-seat-preserved : goal.loop-seat-preserved
loop-seat-preserved g c = left_more g.D.Disk.state c.loop-seat.seat c.args.core.now c.loop-seat.core c.leave.new.self c.loop-seat.invariant c.leave.ensures
