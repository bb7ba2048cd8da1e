-- What the annals' own fields stand for.
use Rattle.std.specs.Prelude.{◌≡◌, ℕ, ◌+◌, ◌≤◌, ⊤, List, length, sum, slice_range}
use Rattle.std.specs.List.{AllByRecursion}
use Rattle.blsm_model.specs.Format.{most_rows, most_entries}
use Rattle.blsm_model.specs.declared.row.Row.{Row}
use Rattle.blsm_model.specs.declared.room.Room.{Room}
use Rattle.blsm_model.specs.declared.annals.StoredReply.{StoredReply}
use Rattle.blsm_model.specs.declared.annals.StoredReply.TheVariants as stored
use Rattle.blsm_model.specs.declared.annals.StoredEntry.{StoredEntry}
use Rattle.blsm_model.specs.declared.history.ShortReply.{ShortReply}
use Rattle.blsm_model.specs.declared.history.ShortReply.TheVariants as short
use Rattle.blsm_model.specs.declared.history.Reply.{Reply}
use Rattle.blsm_model.specs.declared.history.Reply.TheVariants.{
  Done,
  Is,
  Absent,
  Kept,
  Held,
  Rows,
  NoHold,
  Did,
  Full,
  NoMemory,
  FaultLost,
  FaultUnsure,
  Fault,
  Damaged,
  Stopped,
}
use Rattle.blsm_model.specs.declared.history.Entry.{Entry}

-- the reply that a short one is
abbrev pub as_reply : ShortReply → Reply
as_reply short.Done = Done
as_reply (short.Is value) = Is value
as_reply short.Absent = Absent
as_reply (short.Kept value) = Kept value
as_reply short.Held = Held
as_reply short.NoHold = NoHold
as_reply (short.Did turns) = Did turns
as_reply (short.Full charge) = Full charge
as_reply short.NoMemory = NoMemory
as_reply short.FaultLost = FaultLost
as_reply short.FaultUnsure = FaultUnsure
as_reply short.Fault = Fault
as_reply (short.Damaged page) = Damaged page
as_reply (short.Stopped why) = Stopped why

-- the reply, whose rows lie in the list of all rows
abbrev pub stored_reply : List Row → StoredReply → Reply
stored_reply rows (stored.Rows first end) = Rows (slice_range rows first end)
stored_reply rows (stored.Short reply) = as_reply reply

abbrev pub stored_entry : List Row → StoredEntry → Entry
stored_entry rows entry = record { seat = entry.seat; op = entry.op; reply = stored_reply rows entry.reply }

-- the places of the reply's rows are among the list's, and no more than a reply may give
abbrev pub FitsRows : List Row → StoredReply → Type 0
FitsRows rows (stored.Rows first end) = (first ≤ end) × (end ≤ length rows) × (end ≤ first + most_rows)
FitsRows rows _ = ⊤

-- the annals' fields agree, and their lists have room for all that the seats may still note
pub record IsStored (entries : List StoredEntry) (rows : List Row) (quanta : List ℕ) (room : Room) (entries_capacity rows_capacity quanta_capacity : ℕ) : Type 0 where
  pub within : AllByRecursion (λ e. FitsRows rows e.reply) entries
  pub as_long : length quanta ≡ length entries
  pub few : length entries + sum room.entries ≤ most_entries
  pub entries_room : length entries + sum room.entries ≤ entries_capacity
  pub rows_room : length rows + sum room.rows ≤ rows_capacity
  pub quanta_room : length quanta + sum room.entries ≤ quanta_capacity
