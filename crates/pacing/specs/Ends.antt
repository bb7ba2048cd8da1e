-- How long the log's lanes are: the entries as they were appended, and what stands before them in their records. They hang on no list, and meet
-- the pace in its bounds alone.
use Rattle.std.specs.Prelude.{◌≡◌, ℕ, ◌+◌, ◌*◌, ◌≤◌, true, false}
use Rattle.blsm_model.specs.Format.{least_weight}
use Rattle.pacing.specs.Pace.{Pace}

-- A record takes little beside its entries: a gate, or a gate and four bytes where it has two entries or more, of which each weighs fourteen at
-- least.
abbrev pub IsNoLonger : (length weight : ℕ) → Type 0
IsNoLonger length weight = 2 * least_weight * length ≤ (2 * least_weight + 5) * weight

-- So a lane is at most that much longer than what its entries weigh: in lane B what was admitted since the pass began, and in both that and two
-- half springs; while none runs a half spring and what came since the last swap.
pub record AreEnds (pace : Pace) (end_a end_b : ℕ) : Type 0 where
  pub behind : pace.gears.pass ≡ true → IsNoLonger end_b pace.gears.pass_admitted
  pub both : pace.gears.pass ≡ true → IsNoLonger (end_a + end_b) (2 * pace.gears.sizes.half + pace.gears.pass_admitted)
  pub none : pace.gears.pass ≡ false → end_b ≡ 0
  pub ahead : pace.gears.pass ≡ false → IsNoLonger end_a (pace.gears.sizes.half + pace.spring)
