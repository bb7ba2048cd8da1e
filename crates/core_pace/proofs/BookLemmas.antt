-- Where the book alone changes, and none of its counts, the numbers and the geometry stay.
use Rattle.std.proofs.Common.{◌≡◌}
use Rattle.std.proofs.lemmas.Grind.{common_steps}
use Rattle.std.proofs.lemmas.Bool.Decides.{nat_tests}
use Rattle.std.proofs.Common.{arith}
use Rattle.pacing.specs.Pace.{Pace}
use Rattle.seat_book.specs.State.{BookState}
use Rattle.core_moves.specs.declared.held.Held.{Held}
use Rattle.core_moves.specs.Held.{IsOne}
use Rattle.core_moves.specs.Moves.{with_book}
use Rattle.core_pace.specs.Pacing.{HasPace}

pub rebooked : (held : Held) (b : BookState) (pace : Pace) → b.counts ≡ held.book.counts → HasPace held pace → HasPace (with_book b held) pace
rebooked held b pace counts p = grind (arith, common_steps, nat_tests)

pub one_rebooked : (held : Held) (b : BookState) → IsOne held → IsOne (with_book b held)
one_rebooked held b one = record {
  gears = one.gears;
  lanes = one.lanes;
  roles = one.roles;
  apart = one.apart;
  reserved_a = one.reserved_a;
  reserved_b = one.reserved_b;
  sorted_a = one.sorted_a;
  sorted_b = one.sorted_b;
  follows = one.follows;
}
