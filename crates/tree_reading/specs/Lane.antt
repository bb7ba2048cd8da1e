-- What is read of a lane of the log. Weights and lengths are in bytes.
use Rattle.std.specs.Prelude.{◌≡◌, ℕ, ◌+◌, ◌/◌, ◌<◌, ◌≤◌, Bool, IsTrue, List, length, take, Result, Ok, Err, ⊤}
use Rattle.blsm_model.specs.Format.{least_weight}
use Rattle.blsm_model.specs.Lanes.{region_length}
use Rattle.blsm_model.specs.Sizes.{Sizes}
use Rattle.record_delta.specs.Entries.{Entries, entries_weight, replayed}
use Rattle.gated_log.specs.Lane.{Lane, HasEntries, HasFront, IsDamaged, MayEnd}
use Rattle.gated_log.specs.declared.replay.LaneBroken.{LaneBroken}
use Rattle.gated_log.specs.declared.replay.LaneBroken.TheVariants.{Fault, Damaged}
use Rattle.tree_reading.specs.declared.lane.LaneEnd.{LaneEnd}

-- The lane doesn't replay within this room: it is damaged, or begins with records whose table weighs more.
pub data IsDamagedLane (sizes : Sizes) (lane room : ℕ) (file : List ℕ) : Type 0 where
  broken : IsDamaged sizes lane file → IsDamagedLane sizes lane room file
  heavy : (entries : Entries) → HasFront sizes lane entries file → room < entries_weight (replayed entries) → IsDamagedLane sizes lane room file

-- after each record, the table of those so far is within this room
abbrev pub StaysWithin : ℕ → Entries → Type 0
StaysWithin room entries = (n : ℕ) → entries_weight (replayed (take n entries)) ≤ room

-- What was kept of a lane: the table of its entries, where its closed gate stands in its region, and how many entries there are.
pub record IsReplayed (sizes : Sizes) (room : ℕ) (of : Lane) (table : Entries) (end : LaneEnd) : Type 0 where
  pub table_is : table ≡ replayed of.entries
  pub place_is : end.place ≡ of.end
  pub may_end : MayEnd of
  pub inside : end.place < region_length sizes
  pub records_is : end.records ≡ length of.entries
  pub within : StaysWithin room of.entries

-- how many calls a replay takes: one for each record, which has an entry's least weight and a gate, and one for the closed gate
abbrev pub lane_calls : Sizes → ℕ
lane_calls sizes = region_length sizes / (least_weight + 1) + 1

-- What an answer says of a lane: it has just what this is kept of, or is damaged. After a fault nobody knows.
abbrev pub TellsReplay : Sizes → ℕ → ℕ → Entries → Bool → List ℕ → Result LaneEnd LaneBroken → Type 0
TellsReplay sizes lane room table honest file (Ok end) =
    (of : Lane) × IsReplayed sizes room of table end × (IsTrue honest → HasEntries sizes lane of file)
TellsReplay sizes lane room table honest file (Err (Damaged named)) = (named ≡ lane) × (IsTrue honest → IsDamagedLane sizes lane room file)
TellsReplay sizes lane room table honest file (Err Fault) = ⊤
