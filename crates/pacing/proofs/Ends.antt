-- How long the lanes are after each move.
use Rattle.std.proofs.Common.{◌≡◌, ℕ, ◌+◌, ◌*◌, ◌≤◌, Bool, true, false, cond, arith}
use Rattle.std.proofs.lemmas.Grind.{common_steps}
use Rattle.std.proofs.lemmas.Bool.Decides.{nat_tests}
use Rattle.blsm_model.specs.Sizes.{Sizes}
use Rattle.pacing.specs.Pace.{Pace, Written, opened, with_pass_swapped, with_rotation, with_pass, with_write}
use Rattle.pacing.specs.Kept.{IsWithin}
use Rattle.pacing.specs.Steps.{Lands}
use Rattle.pacing.specs.Ends.{AreEnds, IsNoLonger}
use Rattle.pacing.proofs.Flags.{sent}
use Rattle.pacing.proofs.Terms.{HasRoom}

-- what they hang on
pub ends_as : (p q : Pace) (a b : ℕ) → q.gears.pass ≡ p.gears.pass → q.gears.pass_admitted ≡ p.gears.pass_admitted → q.gears.sizes ≡ p.gears.sizes → q.spring ≡ p.spring → AreEnds p a b → AreEnds q a b
ends_as p q a b h1 h2 h3 h4 h5 = grind (arith, common_steps, nat_tests)

-- the pass is swapped in: lane B becomes A
pub ends_turned : (p : Pace) (a b : ℕ) (test : Bool) → IsWithin p → p.gears.pass ≡ true → AreEnds p a b → AreEnds (cond test (with_rotation (with_pass_swapped p)) (with_pass_swapped p)) b 0
ends_turned p a b test h1 h2 h3 = grind (arith, common_steps, nat_tests)

pub ends_begun : (p : Pace) (a b : ℕ) → IsWithin p → p.gears.pass ≡ false → AreEnds p a b → AreEnds (with_pass p) a b
ends_begun p a b h1 h2 h3 = grind (arith, common_steps, nat_tests)

-- one record more
ends_by : (p : Pace) (ahead : Bool) (seat : ℕ) (written : Written) (n a b : ℕ) → IsNoLonger n written.weight → Lands p (sent written ahead)
    → AreEnds p a b → AreEnds (with_write p seat (sent written ahead)) (cond ahead (a + n) a) (cond ahead b (b + n))
ends_by p ahead seat written n a b h1 h2 h3 = grind (arith, common_steps, nat_tests)

pub ends_written : (p : Pace) (seat : ℕ) (written : Written) (n a b : ℕ) → IsNoLonger n written.weight → Lands p written → AreEnds p a b
    → AreEnds (with_write p seat written) (cond written.ahead (a + n) a) (cond written.ahead b (b + n))
ends_written p seat written = ends_by p written.ahead seat written

-- so a record of entries for which there is room, with the gate behind it, is within a lane's region
fits_by : (p : Pace) (ahead : Bool) (written : Written) (n a b : ℕ) → IsWithin p → AreEnds p a b → HasRoom p written.weight
    → IsNoLonger n written.weight → Lands p (sent written ahead) → cond ahead a b + n + 1 ≤ 4 * p.gears.sizes.half
fits_by p ahead written n a b h1 h2 h3 h4 h5 = grind (arith, common_steps, nat_tests)

pub record_fits : (p : Pace) (written : Written) (n a b : ℕ) → IsWithin p → AreEnds p a b → HasRoom p written.weight
    → IsNoLonger n written.weight → Lands p written → cond written.ahead a b + n + 1 ≤ 4 * p.gears.sizes.half
record_fits p written = fits_by p written.ahead written

-- an opening's lanes are empty
pub opened_ends : (sizes : Sizes) (c1 c2 a b : ℕ) → a ≡ 0 → b ≡ 0 → AreEnds (opened sizes c1 c2) a b
opened_ends sizes c1 c2 a b h1 h2 = grind (arith, common_steps, nat_tests)
