-- Lists of steps, and the states that they reach.
use Rattle.std.specs.Prelude.{⊤, ℕ, Bool, true, false, ◌&&◌, ◌||◌, not, List, [], ◌∷◌, is_some, slice_index, if◌then◌else◌, nat_lt, nat_le, ◌==◌, ◌≤◌, length, fold}
use Rattle.std.specs.List.{AllByRecursion}
use Rattle.blsm_model.specs.Format.{most_rows, most_turns}
use Rattle.blsm_model.specs.declared.room.Room.{Room}
use Rattle.blsm_model.specs.Histories.{writes_of}
use Rattle.blsm_model.specs.Legal.{is_look, is_write}
use Rattle.tree_machine.specs.declared.step.Kind.{Kind}
use Rattle.tree_machine.specs.declared.step.Kind.TheVariants as kind
use Rattle.tree_machine.specs.declared.step.Step.{Step}
use Rattle.tree_machine.specs.Layers.{HasWay}
use Rattle.tree_machine.specs.Stands.{WritesFit}
use Rattle.tree_machine.specs.Machine.{Machine, WorkSoFar, is_worked, is_caller, is_worker, work_of, owes}
use Rattle.tree_machine.specs.Steps.{Outcome, Stepped, admit, pay, look, hold, next_rows, drop_hold, work_turn, work_end, worker_turn, leave}

-- ---- when a step may be made

-- the seat has room for one entry more, and for so many rows
abbrev pub has_room : Room → ℕ → ℕ → Bool
has_room room seat rows = nat_lt 0 (slice_index room.entries seat) && nat_le rows (slice_index room.rows seat)

-- the seat did no turn of work since its last entry
abbrev pub is_between : ℕ → Machine → Bool
is_between seat m = (work_of seat m).turns == 0

-- it may note an entry that gives so many rows
abbrev pub may_note : ℕ → ℕ → Machine → Bool
may_note seat rows m = is_caller seat && has_room m.book.room seat rows && is_between seat m

-- it owes nothing, or the tree is stopped
abbrev pub is_even : ℕ → Machine → Bool
is_even seat m = not (owes seat m) || is_some m.stopped

-- all turns of a work of n turns were made, or the last one wasn't worked
abbrev pub is_finished : ℕ → WorkSoFar → Bool
is_finished n work = (work.turns == n) || (nat_lt 0 work.turns && nat_lt work.turns n && not (is_worked work.last))

abbrev pub may : Machine → ℕ → Kind → Bool
may m seat (kind.Admit op) = is_write op && may_note seat 0 m && is_even seat m
may m seat kind.Pay = is_caller seat
may m seat (kind.Look op) = is_look op && may_note seat 0 m
may m seat (kind.Hold low high) = may_note seat 0 m
may m seat (kind.Next n) = may_note seat n m && nat_lt 0 n && nat_le n most_rows
may m seat kind.Release = may_note seat 0 m
may m seat kind.WorkTurn = is_caller seat && nat_lt (work_of seat m).turns most_turns && is_even seat m
may m seat (kind.WorkEnd n) = is_caller seat && has_room m.book.room seat 0 && is_finished n (work_of seat m)
may m seat kind.WorkerTurn = is_worker seat
may m seat kind.Leave = is_caller seat

-- a worker's turn
abbrev pub is_help : Kind → Bool
is_help kind.WorkerTurn = true
is_help _ = false

abbrev pub may_step : Machine → Step → Bool
may_step m step = may m step.seat step.kind

-- ---- steps, and lists of them

abbrev pub stepped_as : Machine → ℕ → Kind → Outcome → Stepped
stepped_as m seat (kind.Admit op) outcome = admit m seat op outcome
stepped_as m seat kind.Pay outcome = pay m seat outcome
stepped_as m seat (kind.Look op) outcome = look m seat op outcome
stepped_as m seat (kind.Hold low high) outcome = hold m seat low high outcome
stepped_as m seat (kind.Next n) outcome = next_rows m seat n outcome
stepped_as m seat kind.Release outcome = drop_hold m seat
stepped_as m seat kind.WorkTurn outcome = work_turn m seat outcome
stepped_as m seat (kind.WorkEnd n) outcome = work_end m seat n
stepped_as m seat kind.WorkerTurn outcome = worker_turn m seat outcome
stepped_as m seat kind.Leave outcome = leave m seat

abbrev pub stepped : Machine → Step → Outcome → Stepped
stepped m step outcome = stepped_as m step.seat step.kind outcome

-- a step is passed over where it may not be made
abbrev pub played_one : Machine → Step × Outcome → Machine
played_one m made = if may_step m made.0 then (stepped m made.0 made.1).state else m

abbrev pub played : Machine → List (Step × Outcome) → Machine
played m steps = fold played_one m steps

-- Whatever way the steps go, no deep merge is cut off, and what they write fits the format.
abbrev pub GoesWell : Machine → List (Step × Outcome) → Type 0
GoesWell m [] = ⊤
GoesWell m (made ∷ steps) = HasWay m × WritesFit made.0.kind × GoesWell (played_one m made) steps

-- the step writes once at most, and so does each of them
abbrev pub WritesOnce : Kind → Type 0
WritesOnce (kind.Admit op) = length (writes_of op) ≤ 1
WritesOnce _ = ⊤

abbrev pub AllWriteOnce : List (Step × Outcome) → Type 0
AllWriteOnce steps = AllByRecursion (λ made. WritesOnce made.0.kind) steps
