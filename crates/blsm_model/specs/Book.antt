-- What annals hold: the history, the quanta of each entry, and the room left at each seat.
use Rattle.std.specs.Prelude.{ℕ, ◌+◌, ◌-◌, ◌<◌, ◌≤◌, List, [], ◌∷◌, ◌++◌, length, slice_index, slice_index_or, slice_set}
use Rattle.blsm_model.specs.Format.{callers}
use Rattle.blsm_model.specs.declared.row.Row.{Row}
use Rattle.blsm_model.specs.declared.room.Room.{Room}
use Rattle.blsm_model.specs.declared.op.Op.TheVariants.{Release}
use Rattle.blsm_model.specs.declared.history.Reply.{Reply}
use Rattle.blsm_model.specs.declared.history.Reply.TheVariants.{Rows, NoHold}
use Rattle.blsm_model.specs.declared.history.Entry.{Entry}

-- The lists are of one length: an entry's quanta stand at its place.
pub record Book : Type 0 where
  pub entries : List Entry
  pub quanta : List ℕ
  pub room : Room

-- what stands past the end
abbrev pub no_entry : Entry
no_entry = record { seat = 0; op = Release; reply = NoHold }

-- the entry at a place, counted from 0
abbrev pub entry_at : Book → ℕ → Entry
entry_at book place = slice_index_or book.entries place no_entry

-- the rows that a reply gives
abbrev pub rows_given : Reply → List Row
rows_given (Rows rows) = rows
rows_given _ = []

-- the seat of the entry has room for it
pub record HasRoom (room : Room) (entry : Entry) : Type 0 where
  pub seat : entry.seat < callers
  pub entries : 0 < slice_index room.entries entry.seat
  pub rows : length (rows_given entry.reply) ≤ slice_index room.rows entry.seat

-- the room after it: one entry less, and fewer rows, at its seat alone
abbrev pub room_after : Room → Entry → Room
room_after room entry = record {
  entries = slice_set room.entries entry.seat (slice_index room.entries entry.seat - 1);
  rows = slice_set room.rows entry.seat (slice_index room.rows entry.seat - length (rows_given entry.reply));
}

-- with one entry more, which has no quanta yet
abbrev pub noted : Book → Entry → Book
noted book entry = record { entries = book.entries ++ entry ∷ []; quanta = book.quanta ++ 0 ∷ []; room = room_after book.room entry }

-- with n quanta more at one place
abbrev pub counted_up : Book → ℕ → ℕ → Book
counted_up book place n = record book { quanta = slice_set book.quanta place (slice_index book.quanta place + n) }
