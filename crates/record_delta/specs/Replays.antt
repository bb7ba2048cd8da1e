-- What a replay of the log's two lanes meets on its way. Weights are in bytes.
use Rattle.std.specs.Prelude.{ℕ, ◌+◌, ◌≤◌, take}
use Rattle.blsm_model.specs.Sizes.{Sizes}
use Rattle.blsm_model.specs.Geometry.{high_mark, capacity}
use Rattle.record_delta.specs.Entries.{Entries, entries_weight, replayed}

-- Before and after each record of lane A, and then of lane B over the whole of lane A, the memory table is within its high mark, and with
-- the components, which weigh so much, within the capacity.
pub record ReplaysWithin (sizes : Sizes) (components : ℕ) (lane_a lane_b : Entries) : Type 0 where
  pub high_a : (n : ℕ) → entries_weight (replayed (take n lane_a)) ≤ high_mark sizes
  pub full_a : (n : ℕ) → components + entries_weight (replayed (take n lane_a)) ≤ capacity sizes
  pub high_b : (n : ℕ) → entries_weight (replayed lane_a) + entries_weight (replayed (take n lane_b)) ≤ high_mark sizes
  pub full_b : (n : ℕ) → components + (entries_weight (replayed lane_a) + entries_weight (replayed (take n lane_b))) ≤ capacity sizes
