-- How many quanta there can be: each takes something of its merge's inputs, and merges are as few as writes.
use Rattle.std.specs.Prelude.{◌≡◌, ◌+◌, ◌*◌, ◌≤◌, false}
use Rattle.blsm_model.specs.Geometry.{capacity}
use Rattle.pacing.specs.Pace.{Pace}

-- Each quantum took something of the inputs of the merges that were swapped in, each of which weighs at most the capacity, or is one of
-- those that the merges that run have taken.
pub record IsSpent (pace : Pace) : Type 0 where
  pub inputs : pace.work ≤ (capacity pace.gears.sizes * pace.passes + capacity pace.gears.sizes * pace.deeps) + (pace.gears.pass_taken + pace.gears.deep_taken)
  pub resting : pace.gears.pass ≡ false → pace.gears.pass_taken ≡ 0
  pub unmerged : pace.gears.deep ≡ false → pace.gears.deep_taken ≡ 0
