-- What a call of the core is: one step of the pacing on every disk, and one step of the machine on an honest one.
use Rattle.std.specs.Prelude.{◌≡◌, ℕ, ◌+◌, ◌≤◌, IsTrue, Bool, false, not, ◌&&◌, ◌||◌, nat_le, nat_lt, is_some, List, Option, length, map, true, filter}
use mathlib.Core.List.{IsPrefix}
use Rattle.blsm_model.specs.Legal.{is_look, is_write}
use Rattle.gear_sched.specs.Gears.{first_debt, second_debt}
use Rattle.seat_book.specs.State.{may_note_in, may_turn_in, may_end_in}
use Rattle.blsm_model.specs.declared.key.Key.{Key}
use Rattle.blsm_model.specs.declared.row.Row.{Row}
use Rattle.blsm_model.specs.declared.row.Value.{Value}
use Rattle.blsm_model.specs.declared.op.Op.{Op}
use Rattle.blsm_model.specs.declared.op.Op.TheVariants.{Tail}
use Rattle.blsm_model.specs.Format.{most_rows, most_tail}
use Rattle.blsm_model.specs.Geometry.{high_mark}
use Rattle.disk_trait.specs.Disk.{DiskState, GoesOn}
use Rattle.disk_trait.specs.Moments.{LeavesOnly}
use Rattle.pacing.specs.Pace.{Pace}
use Rattle.tree_machine.specs.declared.step.Kind.{Kind}
use Rattle.tree_machine.specs.declared.step.Kind.TheVariants as kind
use Rattle.tree_machine.specs.declared.step.Step.{Step}
use Rattle.tree_machine.specs.Machine.{Machine, is_caller, is_worker}
use Rattle.tree_machine.specs.Steps.{Outcome, Answer}
use Rattle.tree_machine.specs.Plays.{played, stepped_as}
use Rattle.tree_machine.specs.Outcomes.{AreTold, IsPossible, NoneBroken, is_broken}
use Rattle.paced_tree.specs.Made.{IsMadeBy}
use Rattle.core_moves.specs.declared.held.Held.{Held}
use Rattle.core_lists.specs.Shown.{ShowsHistory}
use Rattle.tree_core.specs.Core.{CoreState, HoldsPace}
use Rattle.tree_core.specs.Holds.{HoldRows, StandsWhole}
use Rattle.tree_core.specs.Standing.{StandsFor}

-- By numbers: what the step makes of the pace, by its answer.
pub record MovesPace (seat : ℕ) (kind : Kind) (answer : Answer) (new : Held) (after : DiskState) (pace : Pace) : Type 0 where
  pub next : Pace
  pub made : IsMadeBy seat kind answer pace next
  pub holds : HoldsPace new next after

-- By lists: the machine's own step, by an outcome that the disk's count of faults tells, with its answer. Each image of each moment since it began
-- shows the history after it, with all entries of the one before it. `Rows` holds of the rows to come then.
pub record IsStep (Rows : List (Option (List Row)) → Type 0) (opening : List (Key × Value)) (seat : ℕ) (kind : Kind) (answer : Answer) (new : Held) (before after : DiskState) (m : Machine) : Type 0 where
  pub outcome : Outcome
  pub possible : IsPossible m seat kind outcome before.faults after.faults
  -- no page is found damaged there
  pub whole : is_broken outcome ≡ false
  pub stands : StandsFor Rows opening new (stepped_as m seat kind outcome).state after
  pub answers : answer ≡ (stepped_as m seat kind outcome).answer
  pub images : LeavesOnly before after (ShowsHistory m.gears.sizes opening (stepped_as m seat kind outcome).state.book.entries (length m.book.entries))

-- A step of the whole core: its holds have the rows to give then that the machine's have.
abbrev pub IsWholeStep : {D : Type 0} → (D → DiskState) → List (Key × Value) → ℕ → Kind → Answer → CoreState D → CoreState D → Machine → Type 0
IsWholeStep state opening seat kind answer old new m =
    IsStep (HoldRows new.held new.holds (state new.disk)) opening seat kind answer new.held (state old.disk) (state new.disk) m

-- ---- when a step may be made

-- the seat owes nothing, or the store is stopped
abbrev pub is_even_in : ℕ → Held → Bool
is_even_in seat held = not (nat_lt 0 (first_debt held.gears seat + second_debt held.gears seat)) || is_some held.book.stopped

-- by what the core has in memory
abbrev pub may_in : Held → ℕ → Kind → Bool
may_in held seat (kind.Admit op) = is_write op && may_note_in seat 0 held.book && is_even_in seat held
may_in held seat kind.Pay = is_caller seat
may_in held seat (kind.Look op) = is_look op && may_note_in seat 0 held.book
may_in held seat (kind.Hold low high) = may_note_in seat 0 held.book
may_in held seat (kind.Next n) = may_note_in seat n held.book && nat_lt 0 n && nat_le n most_rows
may_in held seat kind.Release = may_note_in seat 0 held.book
may_in held seat kind.WorkTurn = may_turn_in seat held.book && is_even_in seat held
may_in held seat (kind.WorkEnd n) = may_end_in seat n held.book
may_in held seat kind.WorkerTurn = is_worker seat
may_in held seat kind.Leave = is_caller seat

-- a tail that it writes has 1 to 64 bytes
abbrev pub is_fit : Op → Bool
is_fit (Tail key tail) = nat_le 1 (length tail) && nat_le (length tail) most_tail
is_fit _ = true

abbrev pub admits_fit : Kind → Bool
admits_fit (kind.Admit op) = is_fit op
admits_fit _ = true

-- ---- lists of steps

-- these steps but those that admit a tail of another length
abbrev pub those_that_fit : List Step → List Step
those_that_fit steps = filter (λ step. admits_fit step.kind) steps

-- These steps, each by an outcome that the disk's count of faults tells, lead to the state for which the core stands then. A step whose condition
-- doesn't hold is passed over. Each image of each moment since the first shows the history then, with all entries of the one before.
pub record IsPlayed {D : Type 0} (state : D → DiskState) (opening : List (Key × Value)) (steps : List Step) (old new : CoreState D) (m : Machine) : Type 0 where
  pub made : List (Step × Outcome)
  pub steps_are : map (λ one. one.0) made ≡ steps
  pub told : AreTold m (state old.disk).faults made (state new.disk).faults
  pub whole : NoneBroken made
  pub stands : StandsWhole state opening new (played m made)
  pub grows : IsPrefix m.book.entries (played m made).book.entries
  pub images : LeavesOnly (state old.disk) (state new.disk) (ShowsHistory m.gears.sizes opening (played m made).book.entries (length m.book.entries))

-- ---- what lasts

-- From the start on, on every disk: the geometry is the same, the memory table has stayed within its high mark, and calls went on. On an honest disk,
-- for each state of the machine for which the core stood at the start, some steps have led to the state for which it stands now.
pub record StandsSince {D : Type 0} (state : D → DiskState) (start now : CoreState D) : Type 0 where
  pub sizes : now.held.runs.sizes ≡ start.held.runs.sizes
  pub peak : now.held.book.counts.peak ≤ high_mark start.held.runs.sizes
  pub goes_on : GoesOn (state start.disk) (state now.disk)
  pub come : (opening : List (Key × Value)) (m : Machine) → IsTrue (state start.disk).is_honest → StandsWhole state opening start m
      → (steps : List Step) × IsPlayed state opening steps start now m
