use Rattle.std.proofs.Common.{◌≡◌, take, sum}
use Rattle.blsm_model.proofs.annals.total.Given as goal

abbrev pub invariant-loop-of_seat : goal.invariant-loop-of_seat
invariant-loop-of_seat l = l.all ≡ sum (take l.of_seat-index l.room)
