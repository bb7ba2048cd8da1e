-- What a reading on in a hold gave, with the rows. The call answers how many they are, and the history has them.
use Rattle.std.specs.Prelude.{◌≡◌, ⊤, ℕ, ◌-◌, List, length}
use Rattle.blsm_model.specs.Book.{Book, entry_at, rows_given}
use Rattle.blsm_model.specs.declared.history.Why.{Why}
use Rattle.blsm_model.specs.declared.row.Row.{Row}
use Rattle.seat_book.specs.State.{BookState}
use Rattle.tree_core.specs.declared.answers.Scan.{Scan}
use Rattle.tree_core.specs.declared.answers.Scan.TheVariants as scan

pub data Scanned : Type 0 where
  Rows : List Row → Scanned
  NoHold : Scanned
  Fault : Scanned
  Damaged : ℕ → Scanned
  Stopped : Why → Scanned

-- what an answer tells, where these are the rows
abbrev pub scanned_by : Scan → List Row → Scanned
scanned_by (scan.Rows count) rows = Rows rows
scanned_by scan.NoHold rows = NoHold
scanned_by scan.Fault rows = Fault
scanned_by (scan.Damaged page) rows = Damaged page
scanned_by (scan.Stopped why) rows = Stopped why

-- the rows that the last entry of the history gives
abbrev pub rows_noted : Book → List Row
rows_noted book = rows_given (entry_at book (length book.entries - 1)).reply

-- what an answer tells, by the last entry of the book
abbrev pub scanned_in : Scan → BookState → Scanned
scanned_in answer b = scanned_by answer (rows_noted b.book)

-- it tells how many rows there are
abbrev pub Counts : Scan → List Row → Type 0
Counts (scan.Rows count) rows = count ≡ length rows
Counts _ rows = ⊤
