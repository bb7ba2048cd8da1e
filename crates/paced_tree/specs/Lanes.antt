-- The log's lanes over lists: the records of a lane as they were appended, and what a replay of them meets.
use Rattle.std.specs.Prelude.{◌≡◌, ℕ, ◌≤◌, take}
use Rattle.record_delta.specs.Entries.{Entries, entries_weight, replayed}

-- The lane replays to the table, and no front of it weighs more than this.
pub record IsLane (lane table : Entries) (most : ℕ) : Type 0 where
  pub replays : replayed lane ≡ table
  pub fronts : (n : ℕ) → entries_weight (replayed (take n lane)) ≤ most
