-- How many quanta a chain of calls takes, and for whom, on every disk.
use Rattle.std.specs.Prelude.{◌≡◌, ℕ, ◌+◌, ◌<◌, ◌≤◌, ◌==◌, ◌&&◌, if◌then◌else◌, List, [], ◌∷◌, drop, sum, sum_by, take}
use Rattle.blsm_model.specs.Format.{callers}
use Rattle.disk_trait.specs.Disk.{DiskState}
use Rattle.seat_book.specs.Seats.{turns_in}
use Rattle.seat_book.specs.State.{work_in}
use Rattle.tree_machine.specs.Machine.{seats, turn_more}
use Rattle.tree_machine.specs.Plays.{is_help}
use Rattle.tree_machine.specs.Steps.{one_if}
use Rattle.tree_machine.specs.declared.step.Step.{Step}
use Rattle.tree_core.specs.Core.{CoreState}
use Rattle.tree_session.specs.Session.{TookFew}
use Rattle.core_chain.specs.Start.{steps_of}

-- ---- callers

-- From a core of which nothing was asked these calls led to the end.
pub record ChainTakesFew {D : Type 0} (state : D → DiskState) (calls : List (Step × CoreState D)) (start end : CoreState D) : Type 0 where
  -- each entry took no more quanta than it may: a write its work bound, a work of n turns n, and the others none
  pub few : TookFew start.held.runs.sizes end.held.book.book.entries end.held.book.book.quanta
  -- an open work has no more of them than turns
  pub works : (seat : ℕ) → (work_in seat end.held.book).quanta ≤ (work_in seat end.held.book).turns
  -- the callers' are those of the entries and of the open works, so those of the entries where no work is open
  pub by_callers : sum (take callers end.held.book.seats.quanta) ≡ sum end.held.book.book.quanta + sum_by (λ w. w.quanta) end.held.book.seats.work
  pub closed : ((seat : ℕ) → seat < callers → (work_in seat end.held.book).turns ≡ 0) → sum (take callers end.held.book.seats.quanta) ≡ sum end.held.book.book.quanta

-- ---- workers

-- how many turns of workers there are
abbrev pub helps_in : List Step → ℕ
helps_in [] = 0
helps_in (step ∷ steps) = one_if (is_help step.kind) + helps_in steps

-- a worker's count of turns after these steps
abbrev pub helped_after : ℕ → List Step → ℕ → ℕ
helped_after seat [] turns = turns
helped_after seat (step ∷ steps) turns = helped_after seat steps (if is_help step.kind && (step.seat == seat) then turn_more turns else turns)

pub record ChainHelps {D : Type 0} (state : D → DiskState) (calls : List (Step × CoreState D)) (start end : CoreState D) : Type 0 where
  -- the workers' quanta rise by one at most for each of their turns, so they stand where there is none
  pub rises : sum (drop callers end.held.book.seats.quanta) ≤ sum (drop callers start.held.book.seats.quanta) + helps_in (steps_of calls)
  pub alone : helps_in (steps_of calls) ≡ 0 → sum (drop callers end.held.book.seats.quanta) ≡ sum (drop callers start.held.book.seats.quanta)
  -- where no worker's seat has a turn none was made
  pub rests : ((seat : ℕ) → callers ≤ seat → seat < seats → turns_in seat end.held.book ≡ 0) → helps_in (steps_of calls) ≡ 0
  -- each of its turns counts
  pub counted : (seat : ℕ) → callers ≤ seat → seat < seats → turns_in seat end.held.book ≡ helped_after seat (steps_of calls) (turns_in seat start.held.book)
