-- What calls for one seat leave in the book to the others, and to a lock that guards it.
use Rattle.std.specs.Prelude.{◌≡◌, ◌≢◌, ℕ, ◌+◌, ◌-◌, ◌≤◌, true, false, List, ◌++◌, length, sum, is_some, slice_index, slice_index_or, if◌then◌else◌}
use Rattle.std.specs.List.{AllByRecursion}
use Rattle.blsm_model.specs.Format.{callers}
use Rattle.blsm_model.specs.Facts.{Facts, Part}
use Rattle.blsm_model.specs.declared.history.Entry.{Entry}
use Rattle.tree_machine.specs.Machine.{is_worked, is_caller}
use Rattle.seat_book.specs.Places.{HasWrite}
use Rattle.seat_book.specs.State.{BookState, work_in, is_closed_in}

-- a caller's turns are those of its open work, a worker's all of its turns
abbrev pub turns_in : ℕ → BookState → ℕ
turns_in seat b = if is_caller seat then (work_in seat b).turns else slice_index b.seats.turns (seat - callers)

-- a seat's turns, how the last one ended, its quanta, its room, and whether it left, are the same
pub record LeavesSeat (other : ℕ) (b c : BookState) : Type 0 where
  pub turns : turns_in other c ≡ turns_in other b
  pub worked : is_worked (work_in other c).last ≡ is_worked (work_in other b).last
  pub quanta : slice_index c.seats.quanta other ≡ slice_index b.seats.quanta other
  pub entries_room : slice_index c.book.room.entries other ≡ slice_index b.book.room.entries other
  pub rows_room : slice_index c.book.room.rows other ≡ slice_index b.book.room.rows other
  pub left : slice_index_or c.seats.left other false ≡ slice_index_or b.seats.left other false

-- the history gained so many entries at most, all of the seat
abbrev pub Gains : ℕ → ℕ → List Entry → List Entry → Type 0
Gains seat most h k = (es : List Entry) × (length es ≤ most) × AllByRecursion (λ e. e.seat ≡ seat) es × (k ≡ h ++ es)

-- What was done for one seat: so many entries at most were noted, all of the seat, and so many quanta at most counted. The peak didn't
-- fall, a closed book stayed closed and a stopped one stopped, what was fixed at the opening stands, a seat that
-- has a write keeps one, and each other seat is left as it was.
pub record KeepsSeats (seat entries quanta : ℕ) (b c : BookState) : Type 0 where
  pub history : Gains seat entries b.book.entries c.book.entries
  pub kept : sum b.seats.quanta ≤ sum c.seats.quanta
  pub counted : sum c.seats.quanta ≤ sum b.seats.quanta + quanta
  pub its : slice_index c.seats.quanta seat ≤ slice_index b.seats.quanta seat + quanta
  pub peak : b.counts.peak ≤ c.counts.peak
  pub closed : is_closed_in b ≡ true → is_closed_in c ≡ true
  pub stopped : is_some b.stopped ≡ true → is_some c.stopped ≡ true
  pub charge : c.counts.charge ≡ b.counts.charge
  pub faults : c.counts.faults ≡ b.counts.faults
  pub writes : (any : ℕ) → HasWrite any b.book → HasWrite any c.book
  pub others : (other : ℕ) → other ≢ seat → LeavesSeat other b c

-- ---- the facts of a lock's value

-- what each seat owes to the two merges, which is no part of the book
pub record Beside : Type 0 where
  pub first : ℕ → ℕ
  pub second : ℕ → ℕ

abbrev pub part_in : Beside → BookState → ℕ → Part
part_in beside b seat = record {
  debt1 = beside.first seat;
  debt2 = beside.second seat;
  turns = turns_in seat b;
  worked = is_worked (work_in seat b).last;
  quanta = slice_index b.seats.quanta seat;
  room = (slice_index b.book.room.entries seat, slice_index b.book.room.rows seat);
  left = slice_index_or b.seats.left seat false;
}

abbrev pub facts_in : Beside → BookState → Facts
facts_in beside b = record {
  history = b.book.entries;
  part = part_in beside b;
  quanta = sum b.seats.quanta;
  peak = b.counts.peak;
  closed = is_closed_in b;
  stopped = is_some b.stopped;
}
