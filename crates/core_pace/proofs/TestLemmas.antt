-- The tests of the code are the pacing's.
use Rattle.std.proofs.Common.{◌≡◌, ℕ, ◌+◌, Bool, true, ◌&&◌, arith}
use Rattle.std.proofs.lemmas.Grind.{common_steps}
use Rattle.std.proofs.lemmas.Bool.Decides.{nat_tests}
use Rattle.std.specs.Prelude.{◌==◌}
use Rattle.pacing.specs.Pace.{Pace, with_forgiven}
use Rattle.core_moves.specs.declared.held.Held.{Held}
use Rattle.core_pace.specs.Pacing.{HasPace}
use Rattle.core_moves.specs.Moves.{with_debts_forgiven}
use Rattle.core_pace.proofs.Terms.{TestsAgree}

-- runs and done
pub done_agrees : (runs in_gears : Bool) (taken left all : ℕ) → in_gears ≡ runs → (runs ≡ true → taken + left ≡ all) → (runs && (left == 0)) ≡ (in_gears && (taken == all))
done_agrees runs in_gears taken left all h1 h2 = grind (arith, common_steps, nat_tests)

pub each_test_agrees : (held : Held) (pace : Pace) → HasPace held pace → TestsAgree held pace
each_test_agrees held pace p = grind (arith, common_steps, nat_tests)

pub forgiving_has_pace : (seat : ℕ) (old : Held) (pace : Pace) → HasPace old pace → HasPace (with_debts_forgiven seat old) (with_forgiven pace seat)
forgiving_has_pace seat old pace p = grind (arith, common_steps, nat_tests, each_test_agrees)
