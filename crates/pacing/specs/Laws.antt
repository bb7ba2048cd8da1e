-- What the pacing promises, over every list of steps by any seats.
use Rattle.std.specs.Prelude.{◌≡◌, ℕ, ◌+◌, ◌<◌, ◌≤◌, ◌==◌, if◌then◌else◌, List, [], ◌∷◌}
use Rattle.blsm_model.specs.Sizes.{Sizes, IsGeometry}
use Rattle.blsm_model.specs.Geometry.{c1_mark, capacity}
use Rattle.gear_sched.specs.declared.Plan.{Plan}
use Rattle.gear_sched.specs.declared.Plan.TheVariants.{Snow, Deep, Nothing}
use Rattle.pacing.specs.Pace.{Pace, Quantum, with_forgiven, passes_begun, rotations}
use Rattle.pacing.specs.Steps.{Event, Admit, Pay, Turn, Move, TakeDeep, TakeSnow, after, plan_of, turn_of, is_worker_seat}

-- what a settled store has when it was opened
pub record IsOpening (sizes : Sizes) (c1 c2 : ℕ) : Type 0 where
  pub geometry : IsGeometry sizes
  pub mark : c1 < c1_mark sizes
  pub full : c1 + c2 ≤ capacity sizes

-- A seat's debts rise at its own admission alone.
abbrev pub RaisesDebts : ℕ → Event → Type 0
RaisesDebts seat (Admit other written) = seat ≡ other
RaisesDebts seat (Pay other quantum) = ⊥
RaisesDebts seat (Turn other quantum) = ⊥

-- The quanta that a seat's payments take in a run.
abbrev pub quanta_of_plan : Plan → ℕ
quanta_of_plan Snow = 1
quanta_of_plan Deep = 1
quanta_of_plan Nothing = 0

abbrev pub quanta_of_event : ℕ → Pace → Event → ℕ
quanta_of_event seat pace (Admit other written) = 0
quanta_of_event seat pace (Pay other quantum) = if other == seat then quanta_of_plan (plan_of (with_forgiven pace other) other) else 0
quanta_of_event seat pace (Turn other quantum) = 0

abbrev pub quanta_paid : ℕ → Pace → List Event → ℕ
quanta_paid seat pace [] = 0
quanta_paid seat pace (event ∷ events) = quanta_of_event seat pace event + quanta_paid seat (after pace event) events

-- What the quanta of a run take, whoever takes them.
abbrev pub taken_by_plan : Plan → Quantum → ℕ
taken_by_plan Nothing quantum = 0
taken_by_plan plan quantum = quantum.took

abbrev pub taken_by_move : Move → Quantum → ℕ
taken_by_move TakeDeep quantum = quantum.took
taken_by_move TakeSnow quantum = quantum.took
taken_by_move move quantum = 0

abbrev pub taken_by : Pace → Event → ℕ
taken_by pace (Admit seat written) = 0
taken_by pace (Pay seat quantum) = taken_by_plan (plan_of (with_forgiven pace seat) seat) quantum
taken_by pace (Turn seat quantum) = taken_by_move (turn_of (is_worker_seat seat) pace) quantum

abbrev pub taken_in : Pace → List Event → ℕ
taken_in pace [] = 0
taken_in pace (event ∷ events) = taken_by pace event + taken_in (after pace event) events

-- the seat admits nothing more
abbrev pub NoneAdmitted : ℕ → List Event → Type 0
NoneAdmitted seat [] = Unit {0}
NoneAdmitted seat (event ∷ events) = (RaisesDebts seat event → ⊥) × NoneAdmitted seat events

-- An admission takes no quantum, and makes at most two swaps, one rotation and one begin.
pub record IsShort (old new : Pace) : Type 0 where
  pub work : new.work ≡ old.work
  pub swaps : new.passes + new.deeps ≤ old.passes + old.deeps + 2
  pub turns : rotations new ≤ rotations old + 1
  pub begins : passes_begun new ≤ passes_begun old + 1
