use Rattle.store_serve.specs.Session.{LeftBy}
use Rattle.store_serve.proofs.serve.leave_all.Given as goal

abbrev pub invariant-loop-seat : goal.invariant-loop-seat
invariant-loop-seat g l = LeftBy g.D.Disk.state l.seat l.fn.core l.core
