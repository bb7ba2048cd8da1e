-- How calls of the core tell what went wrong below them, on every disk, and what they do to the disk.
use Rattle.std.specs.Prelude.{◌≡◌, ⊤, ℕ, ◌+◌, ◌≤◌, Bool, true, false, IsTrue, List, length, max, Option, Some, None, slice_index, sum_by}
use Rattle.refusal.specs.Count.{HasRisen, HasRisenBy}
use Rattle.blsm_model.specs.Format.{callers}
use Rattle.blsm_model.specs.Geometry.{file_length}
use Rattle.blsm_model.specs.declared.history.Entry.{Entry}
use Rattle.blsm_model.specs.declared.history.Reply.{Reply}
use Rattle.blsm_model.specs.declared.history.Reply.TheVariants.{Fault, FaultLost, FaultUnsure, Stopped}
use Rattle.blsm_model.specs.declared.history.Why.{Why}
use Rattle.blsm_model.specs.declared.op.Op.{Op}
use Rattle.blsm_model.specs.declared.history.Why.TheVariants.{Faulted}
use Rattle.blsm_model.specs.Legal.{may_look}
use Rattle.disk_trait.specs.Disk.{DiskState, GoesOn, IsSure}
use Rattle.disk_trait.specs.Moments.{SyncsLater}
use Rattle.seat_book.specs.Seats.{turns_in}
use Rattle.seat_book.specs.State.{BookState}
use Rattle.tree_machine.specs.Machine.{Turned, Failed}
use Rattle.core_moves.specs.declared.held.Held.{Held}
use Rattle.tree_core.specs.Core.{CoreState}
use Rattle.tree_core.specs.Steps.{StandsSince}

-- ---- what is told

-- how often a reply, a turn and a history tell that a call of the disk failed
abbrev pub faults_of : Reply → ℕ
faults_of FaultLost = 1
faults_of FaultUnsure = 1
faults_of Fault = 1
faults_of _ = 0

abbrev pub faults_of_turn : Turned → ℕ
faults_of_turn Failed = 1
faults_of_turn _ = 0

abbrev pub faults_told : List Entry → ℕ
faults_told history = sum_by (λ e. faults_of e.reply) history

-- the store is stopped because a call of the disk failed
abbrev pub is_by_fault : Option Why → Bool
is_by_fault (Some (Faulted faults)) = true
is_by_fault _ = false

-- a stop by a fault names the disk's count, which has risen
abbrev pub NamesCount : Option Why → DiskState → DiskState → Type 0
NamesCount (Some (Faulted faults)) before after = (faults ≡ after.faults) × HasRisen before.faults after.faults
NamesCount _ before after = ⊤

-- a reply that the store is stopped names this cause
abbrev pub NamesStop : Reply → Option Why → Type 0
NamesStop (Stopped why) stopped = stopped ≡ Some why
NamesStop _ stopped = ⊤

-- So many faults are told. The count has risen for each; it stands where none is told and no fault stopped the store. A store that is stopped
-- stays so, for the same cause, and no call of its disk fails.
pub record TellsFaults (told : ℕ) (old new : Held) (before after : DiskState) : Type 0 where
  pub risen : HasRisenBy told before.faults after.faults
  pub quiet : told ≡ 0 → is_by_fault new.book.stopped ≡ false → after.faults ≡ before.faults
  pub stops : old.book.stopped ≡ None → NamesCount new.book.stopped before after
  pub halted : (why : Why) → old.book.stopped ≡ Some why → (new.book.stopped ≡ Some why) × (after.faults ≡ before.faults)

-- Of the commands those that look, a get, a next, a new and a swap, may tell a fault without a stop.
abbrev pub TellsNone : Op → Reply → Type 0
TellsNone op reply = may_look op ≡ false → faults_of reply ≡ 0

-- ---- calls of the core, one after another

-- At most so many calls of the disk, none of which ends behind this offset, however many of them fail.
pub record Reaches (end most : ℕ) (old new : DiskState) : Type 0 where
  pub goes_on : GoesOn old new
  pub calls : new.clock ≤ old.clock + most
  pub syncs : SyncsLater old new
  pub sure : IsSure end old new
  pub no_shorter : IsTrue old.tells_bytes → length old.bytes ≤ length new.bytes
  pub no_longer : IsTrue old.tells_bytes → length new.bytes ≤ max (length old.bytes) end

-- each worker's turns and quanta are as they were
pub record LeavesWorkers (old new : BookState) : Type 0 where
  pub turns : (seat : ℕ) → callers ≤ seat → turns_in seat new ≡ turns_in seat old
  pub quanta : (seat : ℕ) → callers ≤ seat → slice_index new.seats.quanta seat ≡ slice_index old.seats.quanta seat

-- What lasts from any start on lasts, in so many calls of the disk, all within the store's file. No worker takes a turn or a quantum.
pub record Proceeds {D : Type 0} (state : D → DiskState) (told calls : ℕ) (old new : CoreState D) : Type 0 where
  pub sizes : new.held.runs.sizes ≡ old.held.runs.sizes
  pub effect : Reaches (file_length old.held.runs.sizes) calls (state old.disk) (state new.disk)
  pub tells : TellsFaults told old.held new.held (state old.disk) (state new.disk)
  pub alone : LeavesWorkers old.held.book new.held.book
  pub lasts : (start : CoreState D) → StandsSince state start old → StandsSince state start new
