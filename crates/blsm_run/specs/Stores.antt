-- What is done to the store on the disk of a name of a shelf, and what that answers.
use Rattle.std.specs.Prelude.{◌≡◌, ◌⊎◌, ◌<◌, ◌≤◌, ◌+◌, ◌-◌, ◌^◌, ℕ, Bool, true, false, [], max, min, IsTrue, List, Some, length, Result, Ok, Err}
use Rattle.refusal.specs.Count.{HasRisenBy}
use Rattle.disk_trait.specs.Disk.{DiskState}
use Rattle.disk_trait.specs.Effects.{Affects}
use Rattle.disk_trait.specs.Moments.{IsUnwritten, LeavesOnly}
use Rattle.disk_trait.specs.Reads.{OnlyReads}
use Rattle.disk_trait.specs.Region.{span}
use Rattle.disk_trait.specs.Shelf.{IsFreshCount, ShelfState, KeepsDisks}
use Rattle.blsm_model.specs.Geometry.{file_length}
use Rattle.core_moves.specs.declared.held.Settled.{Settled}
use Rattle.blsm_model.specs.Sizes.{Sizes}
use Rattle.blsm_model.specs.declared.history.Line.{Line}
use Rattle.blsm_model.specs.declared.key.Key.{Key}
use Rattle.blsm_model.specs.declared.room.Room.{Room}
use Rattle.blsm_model.specs.declared.row.Value.{Value}
use Rattle.store_file.specs.Layout.{superblock_length}
use Rattle.store_serve.specs.Room.{room_for}
use Rattle.store_serve.specs.Taken.{TakesLines, lines_in}
use Rattle.store_serve.specs.declared.closing.Closing.{Closing}
use Rattle.store_serve.specs.declared.serve.Served.{Served}
use Rattle.store_trial.specs.Trial.{IsRoomOf}
use Rattle.text_io.specs.Text.{SourceState}
use Rattle.store_file.specs.Making.{LeavesOldOr, making_calls}
use Rattle.tree_file.specs.Tree.{ReadsAsMap}
use Rattle.tree_reading.specs.First.{IsOfFile}
use Rattle.tree_reading.specs.Reading.{HasLooked, IsWhy, reading_calls}
use Rattle.tree_reading.specs.Report.{IsReportOf}
use Rattle.tree_reading.specs.declared.found.Unreadable.{Unreadable}
use Rattle.tree_reading.specs.declared.found.Unreadable.TheVariants as unreadable
use Rattle.tree_reading.specs.declared.report.Report.{Report}
use Rattle.recover_open.specs.Making.{IsEmptyOrNone, IsMadeEmpty, WasNotEmpty}
use Rattle.recover_open.specs.declared.making.NotMade.{NotMade}
use Rattle.recover_open.specs.declared.making.NotMade.TheVariants as not_made
use Rattle.recover_open.specs.Opening.{HasLengthOf, KeepsMapOf, ReadsAsNone}
use Rattle.recover_open.specs.Settled.{ToldSettling}
use Rattle.tree_session.specs.Faults.{Reaches, faults_told}
use Rattle.store_run.specs.declared.run.Ending.{Ending}
use Rattle.store_run.specs.declared.run.Finished.{Finished}
use Rattle.store_run.specs.Headline.{Headline}
use Rattle.store_run.specs.Run.{Run, AreCounted, CameToEnd, HasCauses, IsEnding, IsRunOf, run_of}
use Rattle.blsm_run.specs.Outside.{HasFetched, HasRisenOnce, OfTheDisk}

-- The disk of the name was fetched and no call of it failed: this holds of the disk, and the shelf's count of faults stands.
pub record WasCalm {D : Type 0} (state : D → DiskState) (name : List ℕ) (fresh : Bool) (old new : ShelfState D) (P : DiskState → DiskState → Type 0) : Type 0 where
  pub fetched : HasFetched name fresh old new
  pub disk : OfTheDisk state name old new P
  pub quiet : new.faults ≤ old.faults

-- A call failed, once: the fetch, and no disk has changed, or one of the disk, of which this holds.
pub record HasFailedOnce {D : Type 0} (state : D → DiskState) (name : List ℕ) (fresh : Bool) (old new : ShelfState D) (P : DiskState → DiskState → Type 0) : Type 0 where
  pub fetched : HasFetched name fresh old new
  pub disk : (IsTrue old.tells_disks → KeepsDisks old new) ⊎ OfTheDisk state name old new P
  pub rose : HasRisenOnce old.faults new.faults

-- ---- making

-- What making leaves of a disk, whatever it answers: where it had no bytes, no store or an empty one at each moment, as `LeavesOldOr` has it, and up to
-- the first sync what it had; where it had some, it was only looked at.
pub record LeavesMade (sizes : Sizes) (first last : DiskState) : Type 0 where
  pub empty : IsTrue first.is_honest → first.bytes ≡ [] → LeavesOldOr first last (IsEmptyOrNone sizes)
  pub unsynced : IsTrue first.is_honest → IsTrue first.tells_images → IsUnwritten first last
  pub looked : IsTrue first.tells_bytes → 0 < length first.bytes → OnlyReads 0 1 first last
  pub effect : Affects (span 0 (file_length sizes)) (file_length sizes) (making_calls sizes + 1) first last

-- It had no bytes, and is an empty store now, as each image is.
pub record WasMade (sizes : Sizes) (first last : DiskState) : Type 0 where
  pub none : IsTrue first.tells_bytes → length first.bytes ≡ 0
  pub made : IsTrue first.is_honest → IsMadeEmpty sizes last
  pub long : IsTrue first.tells_bytes → length last.bytes ≡ file_length sizes
  pub leaves : LeavesMade sizes first last

abbrev pub MakesOnShelf : {D : Type 0} → (D → DiskState) → List ℕ → Sizes → ShelfState D → ShelfState D → Result ℕ NotMade → Type 0
MakesOnShelf state name sizes old new (Ok length) = (length ≡ file_length sizes) × WasCalm state name true old new (WasMade sizes)
MakesOnShelf state name sizes old new (Err (not_made.NotEmpty n)) = WasCalm state name true old new (WasNotEmpty n)
MakesOnShelf state name sizes old new (Err not_made.Fault) = HasFailedOnce state name true old new (LeavesMade sizes)

-- ---- running

-- On any disk: no call ended behind the file, or behind a superblock where the file is shorter.
abbrev pub StaysWithin : DiskState → DiskState → Type 0
StaysWithin first last = (end : ℕ) × (calls : ℕ) × (IsTrue first.tells_bytes → end ≤ max superblock_length (length first.bytes)) × Reaches end calls first last

-- What an opening that gives up leaves, also where memory is refused for the callers' lock: where the disk read as a map, each image of each moment is one from before or reads as that map, and since
-- the first sync as that map; where it read as none each is one from before.
pub record LeavesClosed (first last : DiskState) : Type 0 where
  pub keeps : (sizes : Sizes) (pairs : List (Key × Value)) → IsTrue first.is_honest → ReadsAsMap sizes pairs first.bytes → KeepsMapOf sizes pairs first last
  pub untouched : IsTrue first.is_honest → ReadsAsNone first.bytes → LeavesOnly first last first.images
  pub within : StaysWithin first last

-- it was refused for what its file is
pub record WasRefused (why : Unreadable) (first last : DiskState) : Type 0 where
  pub because : IsTrue first.is_honest → IsWhy why first.bytes
  pub leaves : LeavesClosed first last
  -- where the file is why, each image of each moment is one from before
  pub spares : IsTrue first.is_honest → IsOfFile why → LeavesOnly first last first.images

-- Lines were done over the disk, beside so many merge workers with so many turns each, with these sizes, from a state with room of which this holds. On an
-- honest one the headline holds.
pub record HasRunOn {D : Type 0} (state : D → DiskState) (sizes : Sizes) (lines : List Line) (workers turns : ℕ) (IsRoom : Room → Type 0) (run : Run) (ending : Ending) (first last : D) : Type 0 where
  pub counted : AreCounted run (state first) (state last)
  pub ended : IsEnding ending run (state last).faults
  pub within : StaysWithin (state first) (state last)
  -- the file was as long as a store of these sizes is
  pub long : HasLengthOf sizes (state first)
  pub room : Room
  pub room_is : IsRoom room
  -- why each reply is so, and what stopped the store, by the calls that led to this disk
  pub causes : HasCauses state room run first last
  pub headline : IsTrue (state first).is_honest → (sizes : Sizes) × IsRunOf sizes lines workers turns run × Headline state sizes lines workers turns run room first last

-- The disk of the name was fetched as this one, its count of faults at 0 and all else as it stood, and that one stands there again.
pub record IsDiskOf {D : Type 0} (state : D → DiskState) (name : List ℕ) (first last : D) (old new : ShelfState D) : Type 0 where
  pub stood : D
  pub was : old.disk_at name ≡ Some stood
  pub fresh : IsFreshCount (state stood) (state first)
  pub back : new.disk_at name ≡ Some last

-- Lines were done over the disk of this name of a shelf, from a state with room of which this holds.
pub record IsRunOnShelf {D : Type 0} (state : D → DiskState) (name : List ℕ) (lines : List Line) (workers turns : ℕ) (IsRoom : Room → Type 0) (run : Run) (ending : Ending) (old new : ShelfState D) : Type 0 where
  -- on every disk
  pub sizes : Sizes
  pub printed : IsRunOf sizes lines workers turns run
  -- how callers and workers ended
  pub came : CameToEnd workers turns run
  pub fetched : HasFetched name false old new
  -- the disk as it was fetched, and as it was given back, and what was done to it in between
  pub first : D
  pub last : D
  pub disk : IsTrue old.tells_disks → IsDiskOf state name first last old new
  pub ran : HasRunOn state sizes lines workers turns IsRoom run ending first last
  -- its count of faults began at 0, and the shelf's rose by it
  pub fresh : (state first).faults ≡ 0
  pub rose : new.faults ≡ min (old.faults + (state last).faults) (2 ^ 64 - 1)
  -- faults are told only as often as the shelf's count rose
  pub faults : HasRisenBy (faults_told run.entries) old.faults new.faults

-- the store wasn't opened, for this
abbrev pub RefusesOnShelf : {D : Type 0} → (D → DiskState) → List ℕ → ShelfState D → ShelfState D → Unreadable → Type 0
RefusesOnShelf state name old new unreadable.Fault = HasFailedOnce state name false old new LeavesClosed
RefusesOnShelf state name old new why = WasCalm state name false old new (WasRefused why)

-- a script was run, from a state with room for just each caller's lines
abbrev pub RunsOnShelf : {D : Type 0} → (D → DiskState) → List ℕ → List Line → ℕ → ℕ → ShelfState D → ShelfState D → Result Finished Unreadable → Type 0
RunsOnShelf state name lines workers turns old new (Ok finished) = IsRunOnShelf state name lines workers turns (λ room. IsRoomOf room lines) (run_of finished) finished.ending old new
RunsOnShelf state name lines workers turns old new (Err why) = RefusesOnShelf state name old new why

-- ---- serving

-- A session was served, with room for so many callers: a run of the lines that were done, with nobody else at work, which the source gave.
pub record IsServedOnShelf {D : Type 0} (state : D → DiskState) (name : List ℕ) (callers : ℕ) (run : Run) (ending : Ending) (closing : Closing) (old new : ShelfState D) (source source_after : SourceState) : Type 0 where
  pub runs : IsRunOnShelf state name (lines_in run.entries) 0 0 (λ room. room ≡ room_for callers) run ending old new
  pub takes : TakesLines run.entries closing (room_for callers) source source_after

-- Where the store wasn't opened the source wasn't asked.
abbrev pub ServesOnShelf : {D : Type 0} → (D → DiskState) → List ℕ → ℕ → ShelfState D → ShelfState D → SourceState → SourceState → Result Served Unreadable → Type 0
ServesOnShelf state name callers old new source source_after (Ok served) = IsServedOnShelf state name callers (run_of served.finished) served.finished.ending served.closing old new source source_after
ServesOnShelf state name callers old new source source_after (Err why) = RefusesOnShelf state name old new why × (source_after ≡ source)

-- ---- checking

-- it was looked at, and this holds of its file
pub record WasLookedAt (P : List ℕ → Type 0) (first last : DiskState) : Type 0 where
  pub is : IsTrue first.is_honest → P first.bytes
  pub looked : HasLooked reading_calls first last

-- what its numbers are, or why it doesn't read
abbrev pub ChecksOnShelf : {D : Type 0} → (D → DiskState) → List ℕ → ShelfState D → ShelfState D → Result Report Unreadable → Type 0
ChecksOnShelf state name old new (Ok report) = WasCalm state name false old new (WasLookedAt (IsReportOf report))
ChecksOnShelf state name old new (Err unreadable.Fault) = HasFailedOnce state name false old new (HasLooked reading_calls)
ChecksOnShelf state name old new (Err why) = WasCalm state name false old new (WasLookedAt (IsWhy why))

-- ---- settling

-- It was opened, which settled it by so much as an opening of what it had counts. Each image is one from before or reads as the map, as
-- `LeavesClosed` has it.
pub record WasSettled (counts : Settled) (first last : DiskState) : Type 0 where
  pub counted : ToldSettling counts first last
  pub reads : IsTrue first.is_honest → (sizes : Sizes) × (pairs : List (Key × Value)) × ReadsAsMap sizes pairs first.bytes
  pub leaves : LeavesClosed first last

-- what it took, or why the store wasn't opened
abbrev pub SettlesOnShelf : {D : Type 0} → (D → DiskState) → List ℕ → ShelfState D → ShelfState D → Result Settled Unreadable → Type 0
SettlesOnShelf state name old new (Ok counts) = WasCalm state name false old new (WasSettled counts)
SettlesOnShelf state name old new (Err why) = RefusesOnShelf state name old new why
