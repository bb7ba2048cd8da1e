-- Why a call ended as it did. Each cause has those of the earlier steps come through, so of two that exclude each other one holds.
use Rattle.std.specs.Prelude.{◌≡◌, ◌⊎◌, ℕ, Some, List, Result, Ok, Err}
use Rattle.disk_trait.specs.Disk.{DiskState}
use Rattle.disk_mem.specs.Faultless.{Faultless}
use Rattle.blsm_model.specs.declared.history.Line.{Line}
use Rattle.blsm_model.specs.Sizes.{Sizes}
use Rattle.program_words.specs.declared.request.Options.{Options}
use Rattle.program_words.specs.Words.{Asked, AreAccepted, asked_by, make, run, check, trial, serve, settle}
use Rattle.core_moves.specs.declared.held.Settled.{Settled}
use Rattle.tree_reading.specs.declared.found.Unreadable.{Unreadable}
use Rattle.tree_reading.specs.declared.found.Unreadable.TheVariants as unreadable
use Rattle.tree_reading.specs.declared.report.Report.{Report}
use Rattle.recover_open.specs.declared.making.NotMade.{NotMade}
use Rattle.recover_open.specs.declared.making.NotMade.TheVariants as not_made
use Rattle.store_trial.specs.Trial.{IsRoomOf, IsTrialOf}
use Rattle.blsm_run.specs.Outside.{Outside}
use Rattle.blsm_run.specs.Outcome.{Outcome, refused, made, ran, served, checked, settled, tried}
use Rattle.blsm_run.specs.Reading.{ReadsScript}
use Rattle.blsm_run.specs.Stores.{MakesOnShelf, RefusesOnShelf, ChecksOnShelf, IsRunOnShelf, IsServedOnShelf, SettlesOnShelf}
use Rattle.blsm_run.specs.declared.outcome.Refusal.{Refusal}
use Rattle.blsm_run.specs.declared.outcome.Refusal.TheVariants as refusal

-- the words are accepted, and ask for this
abbrev pub WasAsked : {D : Type 0} → Outside D → Asked → Type 0
WasAsked o asked = AreAccepted o.words × (asked_by o.words ≡ Some asked)

-- A store of these sizes was to be made on the disk of this name, and the source wasn't read.
pub record HasMade {D : Type 0} (state : D → DiskState) (o : Outside D) (result : Result ℕ NotMade) : Type 0 where
  pub name : List ℕ
  pub sizes : Sizes
  pub asked : WasAsked o (make name sizes)
  pub unread : o.source_after ≡ o.source
  pub makes : MakesOnShelf state name sizes o.shelf o.shelf_after result

-- The store on the disk of this name was to be checked, and the source wasn't read.
pub record HasChecked {D : Type 0} (state : D → DiskState) (o : Outside D) (result : Result Report Unreadable) : Type 0 where
  pub name : List ℕ
  pub asked : WasAsked o (check name)
  pub unread : o.source_after ≡ o.source
  pub checks : ChecksOnShelf state name o.shelf o.shelf_after result

-- The store on the disk of this name was to be settled, and the source wasn't read.
pub record HasSettled {D : Type 0} (state : D → DiskState) (o : Outside D) (result : Result Settled Unreadable) : Type 0 where
  pub name : List ℕ
  pub asked : WasAsked o (settle name)
  pub unread : o.source_after ≡ o.source
  pub settles : SettlesOnShelf state name o.shelf o.shelf_after result

-- A script was to be run over the store on the disk of this name as the options say, and reading the source answered this.
pub record AsksToRun {D : Type 0} (o : Outside D) (script : Result (List Line) Refusal) : Type 0 where
  pub name : List ℕ
  pub options : Options
  pub asked : WasAsked o (run name options)
  pub reads : ReadsScript o.source o.source_after script

-- A session over the store on the disk of this name was to be served, with room for so many callers, and this number for the first
-- ship.
pub record AsksToServe {D : Type 0} (o : Outside D) : Type 0 where
  pub name : List ℕ
  pub callers : ℕ
  pub ships : ℕ
  pub asked : WasAsked o (serve name callers ships)

-- the script wasn't read, for this
abbrev pub AsksInVain : {D : Type 0} → Outside D → Refusal → Type 0
AsksInVain o why = AsksToRun o (Err why) × (o.shelf_after ≡ o.shelf)

-- the store was refused for this to a session, and the source wasn't read
pub record HasNotServed {D : Type 0} (state : D → DiskState) (o : Outside D) (why : Unreadable) : Type 0 where
  pub asks : AsksToServe o
  pub unread : o.source_after ≡ o.source
  pub refuses : RefusesOnShelf state asks.name o.shelf o.shelf_after why

-- the store was refused for this to a script
abbrev pub HasNotRun : {D : Type 0} → (D → DiskState) → Outside D → Unreadable → Type 0
HasNotRun state o why = (lines : List Line) × (a : AsksToRun o (Ok lines)) × RefusesOnShelf state a.name o.shelf o.shelf_after why

-- the store was refused for this, to a script, to a session, to a check or to a settling
abbrev pub WasStopped : {D : Type 0} → (D → DiskState) → Outside D → Unreadable → Type 0
WasStopped state o why = HasNotRun state o why ⊎ HasNotServed state o why ⊎ HasChecked state o (Err why) ⊎ HasSettled state o (Err why)

abbrev pub Cause : {D : Type 0} → (D → DiskState) → Outside D → Outcome → Type 0
Cause state o (refused refusal.Usage) = (¬ AreAccepted o.words) × (o.source_after ≡ o.source) × (o.shelf_after ≡ o.shelf)
Cause state o (refused refusal.SourceFault) = AsksInVain o refusal.SourceFault
Cause state o (refused refusal.TooBig) = AsksInVain o refusal.TooBig
Cause state o (refused (refusal.BadLine n)) = AsksInVain o (refusal.BadLine n)
Cause state o (refused refusal.DiskFault) = HasMade state o (Err not_made.Fault) ⊎ WasStopped state o unreadable.Fault
Cause state o (refused refusal.NotAStore) = WasStopped state o unreadable.NotAStore
Cause state o (refused (refusal.NotEmpty n)) = HasMade state o (Err (not_made.NotEmpty n))
Cause state o (refused (refusal.Damaged place)) = WasStopped state o (unreadable.Damaged place)
Cause state o (refused (refusal.Worn version)) = WasStopped state o (unreadable.Worn version)
Cause state o (refused refusal.NoMemory) = ((o.source_after ≡ o.source) × (o.shelf_after ≡ o.shelf)) ⊎ AsksInVain o refusal.NoMemory ⊎ WasStopped state o unreadable.NoMemory
Cause state o (made length) = HasMade state o (Ok length)
Cause state o (ran options history end) =
    (lines : List Line) × (a : AsksToRun o (Ok lines)) × (options ≡ a.options)
    × IsRunOnShelf state a.name lines a.options.workers a.options.turns (λ room. IsRoomOf room lines) history end o.shelf o.shelf_after
Cause state o (served ships history end closing) =
    (a : AsksToServe o) × (ships ≡ a.ships) × IsServedOnShelf state a.name a.callers history end closing o.shelf o.shelf_after o.source o.source_after
Cause state o (checked report) = HasChecked state o (Ok report)
Cause state o (settled counts) = HasSettled state o (Ok counts)
Cause state o (tried seed count history) = WasAsked o (trial seed count) × (o.source_after ≡ o.source) × (o.shelf_after ≡ o.shelf) × (disk : Faultless) × IsTrialOf seed count history disk
