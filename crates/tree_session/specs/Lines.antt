-- Which lines a session does, the room that they need, and when it may do one.
use Rattle.std.specs.Prelude.{◌≡◌, ℕ, ◌<◌, ◌≤◌, None, List, All, length, slice_index}
use Rattle.blsm_model.specs.Format.{callers, most_rows, most_turns}
use Rattle.blsm_model.specs.Legal.{TailsFit}
use Rattle.blsm_model.specs.Scripts.{lines_of, rows_asked}
use Rattle.blsm_model.specs.declared.history.Line.{Line}
use Rattle.blsm_model.specs.declared.op.Op.{Op}
use Rattle.blsm_model.specs.declared.op.Op.TheVariants.{Next, Work}
use Rattle.blsm_model.specs.declared.room.Room.{Room}
use Rattle.seat_book.specs.State.{work_in}
use Rattle.tree_machine.specs.Machine.{no_work}
use Rattle.core_moves.specs.declared.held.Held.{Held}
use Rattle.tree_core.specs.Notes.{OwesNothing}

-- a write, whose tail has 1 to 64 bytes if it is one, a get, a hold of any range, a next of 1 to 32 rows, a drop of a hold, or a work of one turn to a hundred thousand
abbrev pub IsCommand : Op → Type 0
IsCommand (Next n) = (0 < n) × (n ≤ most_rows)
IsCommand (Work n) = (0 < n) × (n ≤ most_turns)
IsCommand op = TailsFit op

-- a caller's line with such a command
pub record IsRunnable (line : Line) : Type 0 where
  pub seat : line.seat < callers
  pub command : IsCommand line.op

abbrev pub AreRunnable : List Line → Type 0
AreRunnable lines = All IsRunnable lines

-- each caller has room for its lines, and for the rows that they may give
pub record HasRoomFor (room : Room) (lines : List Line) : Type 0 where
  pub entries : (seat : ℕ) → seat < callers → length (lines_of seat lines) ≤ slice_index room.entries seat
  pub rows : (seat : ℕ) → seat < callers → rows_asked seat lines ≤ slice_index room.rows seat

-- Between two commands no work is open, and nobody owes, unless the store is stopped.
pub record Rests (held : Held) : Type 0 where
  pub idle : (seat : ℕ) → work_in seat held.book ≡ no_work
  pub even : held.book.stopped ≡ None → (seat : ℕ) → OwesNothing seat held
