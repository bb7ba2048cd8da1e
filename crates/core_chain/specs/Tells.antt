-- What a chain of calls tells, whoever made them, on every disk: of faults and of the stop, of the commands, and how it called the disk.
use Rattle.std.specs.Prelude.{◌≡◌, ⊤, ℕ, ◌+◌, ◌-◌, ◌*◌, ◌/◌, ◌<◌, ◌≤◌, false, if◌then◌else◌, List, [], ◌∷◌, ◌++◌, sum_by}
use Rattle.std.specs.List.{AllByRecursion}
use Rattle.refusal.specs.Count.{HasRisenBy}
use Rattle.blsm_model.specs.Format.{callers}
use Rattle.blsm_model.specs.Geometry.{file_length}
use Rattle.blsm_model.specs.Scripts.{asked_in}
use Rattle.blsm_model.specs.Sizes.{Sizes}
use Rattle.blsm_model.specs.declared.history.Entry.{Entry}
use Rattle.blsm_model.specs.declared.op.Op.{Op}
use Rattle.blsm_model.specs.declared.op.Op.TheVariants as op
use Rattle.disk_trait.specs.Disk.{DiskState}
use Rattle.scan_view.specs.Holds.{hold_of, pages_behind}
use Rattle.tree_machine.specs.Outcomes.{is_failed_lookup}
use Rattle.tree_machine.specs.Steps.{one_if}
use Rattle.tree_machine.specs.declared.step.Kind.{Kind}
use Rattle.tree_machine.specs.declared.step.Kind.TheVariants as kind
use Rattle.tree_machine.specs.declared.step.Step.{Step}
use Rattle.tree_runs.specs.Runs.{hold_share}
use Rattle.tree_core.specs.Causes.{pages_first, swaps_due_in}
use Rattle.tree_core.specs.Core.{CoreState}
use Rattle.tree_session.specs.Faults.{NamesStop, Reaches, TellsFaults, TellsNone, faults_told, is_by_fault}
use Rattle.core_chain.specs.Scans.{has_rows, newest_reply}
use Rattle.core_chain.specs.Start.{steps_of}

-- ---- calls of the disk

-- How many calls of the disk a step makes at most, before which so many swaps are due: an admission makes four for its append and nine for each of
-- them, behind three at most where it looks first; a payment and a turn read a quantum's pages and write its run; a command that only looks reads
-- one page of each component at most, and a next, by the sizes alone, each page that the components may have. The others are made in memory alone.
abbrev pub calls_of : Sizes → ℕ → Kind → ℕ
calls_of sizes due (kind.Admit op) = pages_first op + (4 + 9 * due)
calls_of sizes due kind.Pay = sizes.quantum / 4 + 3
calls_of sizes due (kind.Look op) = 3
calls_of sizes due (kind.Next n) = hold_share sizes
calls_of sizes due kind.WorkTurn = sizes.quantum / 4 + 9
calls_of sizes due kind.WorkerTurn = sizes.quantum / 4 + 9
calls_of sizes due _ = 0

-- Between two cores: a next calls it once at most for each page that its hold had ahead, and where it gives rows not for those that its hold has
-- ahead still, but for three of them.
abbrev pub calls_between : {D : Type 0} → CoreState D → ℕ → Kind → CoreState D → ℕ
calls_between old seat (kind.Next n) new =
    pages_behind (hold_of seat old.holds) - (if has_rows (newest_reply new) then pages_behind (hold_of seat new.holds) - 3 else 0)
calls_between old seat k new = calls_of old.held.runs.sizes (swaps_due_in old.held) k

-- and a chain of calls together
abbrev pub calls_of_all : {D : Type 0} → CoreState D → List (Step × CoreState D) → ℕ
calls_of_all core [] = 0
calls_of_all core (one ∷ calls) = calls_between core one.0.seat one.0.kind one.1 + calls_of_all one.1 calls

-- each call of a chain, by the disk's clock
abbrev pub AreCalled : {D : Type 0} → (D → DiskState) → CoreState D → List (Step × CoreState D) → Type 0
AreCalled state core [] = ⊤
AreCalled state core (one ∷ calls) =
    ((state one.1.disk).clock ≤ (state core.disk).clock + calls_between core one.0.seat one.0.kind one.1) × AreCalled state one.1 calls

-- ---- commands

-- The command whose entry a step notes, if it notes one: not a payment, a turn or a leave.
abbrev pub asked_at : ℕ → Kind → List (ℕ × Op)
asked_at seat (kind.Admit op) = (seat, op) ∷ []
asked_at seat (kind.Look op) = (seat, op) ∷ []
asked_at seat (kind.Hold low high) = (seat, op.Hold low high) ∷ []
asked_at seat (kind.Next n) = (seat, op.Next n) ∷ []
asked_at seat kind.Release = (seat, op.Release) ∷ []
asked_at seat (kind.WorkEnd n) = (seat, op.Work n) ∷ []
asked_at seat _ = []

abbrev pub asked_by : List Step → List (ℕ × Op)
asked_by [] = []
asked_by (step ∷ steps) = asked_at step.seat step.kind ++ asked_by steps

-- ---- faults

-- the lookups that failed: they tell a fault, and don't stop the store
abbrev pub lookups_failed : List Entry → ℕ
lookups_failed history = sum_by (λ e. one_if (is_failed_lookup e.op e.reply)) history

-- ---- the whole

-- From a core of which nothing was asked these calls led to the end.
pub record ChainTells {D : Type 0} (state : D → DiskState) (calls : List (Step × CoreState D)) (start end : CoreState D) : Type 0 where
  -- the geometry is the same
  pub sizes : end.held.runs.sizes ≡ start.held.runs.sizes
  -- the history has one entry for each step that notes one, in order; each is a caller's
  pub asked : asked_in end.held.book.book.entries ≡ asked_by (steps_of calls)
  pub of_callers : AllByRecursion (λ e. e.seat < callers) end.held.book.book.entries
  -- the disk's count has risen for each reply that tells a fault, and stands where none does and no fault stopped the store; such a stop names it
  pub tells : TellsFaults (faults_told end.held.book.book.entries) start.held end.held (state start.disk) (state end.disk)
  -- it has risen for each lookup that failed and once more for a stop by a fault, whoever's step that was; and replies tell of no others
  pub counted : HasRisenBy (lookups_failed end.held.book.book.entries + one_if (is_by_fault end.held.book.stopped)) (state start.disk).faults (state end.disk).faults
  pub no_others : faults_told end.held.book.book.entries ≤ lookups_failed end.held.book.book.entries + one_if (is_by_fault end.held.book.stopped)
  -- of a store that no fault has stopped a get, a next, a new and a swap alone tell one
  pub calm : is_by_fault end.held.book.stopped ≡ false → AllByRecursion (λ e. TellsNone e.op e.reply) end.held.book.book.entries
  -- a reply that the store is stopped names what stopped it
  pub names : AllByRecursion (λ e. NamesStop e.reply end.held.book.stopped) end.held.book.book.entries
  -- the disk was called no more often than the calls may, and within the store's file; and by each no more often than it may
  pub called : AreCalled state start calls
  pub effect : Reaches (file_length start.held.runs.sizes) (calls_of_all start calls) (state start.disk) (state end.disk)
