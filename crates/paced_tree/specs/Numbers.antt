-- The numbers of the tree, as the pacing has them: those of its lists, and those that its book tells of the run.
use Rattle.std.specs.Prelude.{◌≡◌, ℕ, Bool, ◌+◌, ◌<◌, ◌≤◌, ⊤, IsTrue, List, length, take, sum, sum_by, map, Option, if◌then◌else◌, Some, None, is_some, slice_index}
use Rattle.std.specs.List.{range_with_len}
use Rattle.blsm_model.specs.Format.{callers}
use Rattle.blsm_model.specs.Sizes.{Sizes}
use Rattle.blsm_model.specs.Geometry.{work_bound}
use Rattle.blsm_model.specs.Book.{Book, entry_at}
use Rattle.blsm_model.specs.Histories.{is_done, writes_of, counted_writes}
use Rattle.blsm_model.specs.Legal.{is_write, total_weight}
use Rattle.pacing.specs.Pace.{Pace}
use Rattle.record_delta.specs.Entries.{Entries, entries_weight, up_to}
use Rattle.tree_machine.specs.Merges.{Merge}
use Rattle.tree_machine.specs.Machine.{Machine, WorkSoFar, seats}
use Rattle.tree_machine.specs.Moves.{output_of}
use Rattle.tree_machine.specs.Steps.{is_write_by, last_write}

-- the weight of what a merge has taken of a list
abbrev pub taken_of : Option Merge → Entries → ℕ
taken_of None entries = 0
taken_of (Some merge) entries = entries_weight (up_to merge.cursor entries)

-- a pass whose cursor stands at a key has taken something
abbrev pub HasTaken : Option Merge → ℕ → Type 0
HasTaken None taken = ⊤
HasTaken (Some pass) taken = IsTrue (is_some pass.cursor) → 0 < taken

-- the weight and the quanta of a seat's last write that was done, or 0 where it has none
abbrev pub is_last : Book → ℕ → Bool
is_last book seat = is_write_by seat (entry_at book (last_write seat book.entries))

abbrev pub last_weight : Book → ℕ → ℕ
last_weight book seat = if is_last book seat then total_weight (writes_of (entry_at book (last_write seat book.entries)).op) else 0

abbrev pub last_quanta : Book → ℕ → ℕ
last_quanta book seat = if is_last book seat then slice_index book.quanta (last_write seat book.entries) else 0

-- of each caller
abbrev pub by_caller : (ℕ → ℕ) → List ℕ
by_caller f = map f (range_with_len 0 callers)

-- the pace of this machine
abbrev pub pace_of : Machine → Pace
pace_of m = record {
  gears = m.gears;
  a = entries_weight m.lists.a;
  taken = taken_of m.merges.pass m.lists.a;
  b = entries_weight m.lists.b;
  c1 = entries_weight m.lists.c1;
  c1x = entries_weight m.lists.c1x;
  c2 = entries_weight m.lists.c2;
  made1 = entries_weight (output_of m.merges.pass);
  made2 = entries_weight (output_of m.merges.deep);
  spring = m.spring;
  weights = by_caller (last_weight m.book);
  quanta = by_caller (last_quanta m.book);
  opening = m.counts.charge;
  admitted = total_weight (counted_writes m.book.entries);
  work = sum m.seats.quanta;
  peak = m.counts.peak;
  writes = length (counted_writes m.book.entries);
  passes = m.counts.passes;
  deeps = m.counts.deeps;
}

-- so much the pace has of it
abbrev pub HasLast : Book → ℕ → (weight quanta : ℕ) → Type 0
HasLast book seat weight quanta = (weight ≡ last_weight book seat) × (quanta ≡ last_quanta book seat)

-- the entry at this place is a write that was done
abbrev pub IsWritten : Book → ℕ → Type 0
IsWritten book place = IsTrue (is_done (entry_at book place).reply) × IsTrue (is_write (entry_at book place).op)

-- What the book and the seats tell of the quanta that were worked.
pub record IsBooked (sizes : Sizes) (book : Book) (counted : List ℕ) (works : List WorkSoFar) (work admitted writes : ℕ) (weights quanta : List ℕ) : Type 0 where
  pub places : length book.quanta ≡ length book.entries
  pub seats : length counted ≡ seats
  -- each quantum is counted for a seat, and a caller's in an entry or in its open work
  pub worked : work ≡ sum counted
  pub by_callers : sum (take callers counted) ≡ sum book.quanta + sum_by (λ w. w.quanta) works
  -- the counted writes are those that were admitted
  pub by_weight : admitted ≡ total_weight (counted_writes book.entries)
  pub by_number : writes ≡ length (counted_writes book.entries)
  pub last : (seat : ℕ) → HasLast book seat (slice_index weights seat) (slice_index quanta seat)
  -- the quanta of each write that was done are at most its work bound
  pub bound : (place : ℕ) → IsWritten book place → slice_index book.quanta place ≤ work_bound sizes (total_weight (writes_of (entry_at book place).op))
