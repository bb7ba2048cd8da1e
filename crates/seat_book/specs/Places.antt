-- The places of what the book keeps: of each caller's last write that was done, and of the seats.
use Rattle.std.specs.Prelude.{◌≡◌, ℕ, ◌-◌, ◌<◌, ◌≤◌, Bool, List, length, IsTrue, slice_index}
use Rattle.blsm_model.specs.Format.{callers, most_entries}
use Rattle.blsm_model.specs.declared.history.Entry.{Entry}
use Rattle.blsm_model.specs.Book.{Book, entry_at}
use Rattle.tree_machine.specs.Machine.{WorkSoFar, seats}
use Rattle.tree_machine.specs.Steps.{is_write_by, last_write}
use Rattle.seat_book.specs.State.{BookState}

-- a table has these places
abbrev pub AreLastWrites : List ℕ → List Entry → Type 0
AreLastWrites places entries = (seat : ℕ) → seat < callers → slice_index places seat ≡ last_write seat entries

-- the seat has such a write
abbrev pub HasWrite : ℕ → Book → Type 0
HasWrite seat book = IsTrue (is_write_by seat (entry_at book (last_write seat book.entries)))

-- each seat has its places, and each entry one for its quanta; the entries are few
pub record HasPlaces (b : BookState) : Type 0 where
  pub work : length b.seats.work ≡ callers
  pub left : length b.seats.left ≡ callers
  pub turns : length b.seats.turns ≡ seats - callers
  pub quanta : length b.seats.quanta ≡ seats
  pub as_long : length b.book.quanta ≡ length b.book.entries
  pub few : length b.book.entries ≤ most_entries

-- the book's own fields: the places of the last writes, and each seat's
pub record AreKept (places : List ℕ) (entries : List Entry) (work : List WorkSoFar) (left : List Bool) (turns quanta : List ℕ) : Type 0 where
  pub last : AreLastWrites places entries
  pub works : length work ≡ callers
  pub marks : length left ≡ callers
  pub workers : length turns ≡ seats - callers
  pub counts : length quanta ≡ seats
