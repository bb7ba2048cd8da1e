-- What a replay of the log's lanes meets on its way. A lane is replayed record by record, so each of its fronts must be within the opening's
-- bounds, and a front may weigh more than the whole: a put of a key and then its del fold to the del.
use Rattle.std.specs.Prelude.{◌≡◌, ℕ, ◌+◌, ◌≤◌, true, false}
use Rattle.blsm_model.specs.Geometry.{high_mark, capacity}
use Rattle.pacing.specs.Pace.{Pace}

-- the greatest weight of each lane's fronts, each front folded per key
pub record Fronts : Type 0 where
  pub lane_a : ℕ
  pub lane_b : ℕ

-- what is kept of them
pub record AreFronts (pace : Pace) (fronts : Fronts) : Type 0 where
  pub table : pace.a ≤ fronts.lane_a
  pub high : fronts.lane_a ≤ high_mark pace.gears.sizes
  pub full : pace.c1 + pace.c1x + pace.c2 + fronts.lane_a ≤ capacity pace.gears.sizes
  pub next : pace.b ≤ fronts.lane_b
  -- a front of lane B weighs no more than was admitted since the pass began, and with table A no more than the pass is charged for
  pub behind : pace.gears.pass ≡ true → fronts.lane_b ≤ pace.gears.pass_admitted
  pub both : pace.gears.pass ≡ true → pace.a + fronts.lane_b ≤ pace.gears.pass_memory + pace.gears.pass_admitted
  pub none : pace.gears.pass ≡ false → fronts.lane_b ≡ 0

-- The opening's bounds, at each record: of lane A, and then of lane B over the whole of lane A.
pub record FitAtEach (pace : Pace) (fronts : Fronts) : Type 0 where
  pub high_a : fronts.lane_a ≤ high_mark pace.gears.sizes
  pub full_a : pace.c1 + pace.c1x + pace.c2 + fronts.lane_a ≤ capacity pace.gears.sizes
  pub high_b : pace.a + fronts.lane_b ≤ high_mark pace.gears.sizes
  pub full_b : pace.c1 + pace.c1x + pace.c2 + (pace.a + fronts.lane_b) ≤ capacity pace.gears.sizes
