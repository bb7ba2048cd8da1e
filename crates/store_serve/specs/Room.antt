-- The room of a session: so much for each of its callers.
use Rattle.std.specs.Prelude.{◌<◌, ◌≤◌, ◌-◌, ◌/◌, ◌++◌, ℕ, List, replicate, slice_index}
use Rattle.blsm_model.specs.Format.{callers, most_lines, most_rows_asked}
use Rattle.blsm_model.specs.Scripts.{rows_of}
use Rattle.blsm_model.specs.declared.history.Line.{Line}
use Rattle.blsm_model.specs.declared.room.Room.{Room}

-- so many are dealt out evenly among the first callers, rounded down, and the others have none
abbrev pub dealt : ℕ → ℕ → List ℕ
dealt count most = replicate count (most / count) ++ replicate (callers - count) 0

-- the room of a session of so many callers
abbrev pub room_for : ℕ → Room
room_for count = record { entries = dealt count most_lines; rows = dealt count most_rows_asked }

-- the line's caller has room for an entry, and for the rows that it asks
abbrev pub HasRoomForLine : Room → Line → Type 0
HasRoomForLine room line = (0 < slice_index room.entries line.seat) × (rows_of line.op ≤ slice_index room.rows line.seat)
