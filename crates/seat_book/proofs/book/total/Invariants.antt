use Rattle.std.proofs.Common.{◌≡◌, take, sum}
use Rattle.seat_book.proofs.book.total.Given as goal

abbrev pub invariant-loop-number : goal.invariant-loop-number
invariant-loop-number l = l.all ≡ sum (take l.number-index l.numbers)
