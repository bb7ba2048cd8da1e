-- The whole promise of the program's call.
use Rattle.std.specs.Prelude.{◌≡◌, ◌⊎◌, ◌≤◌, ⊤, ℕ, [], IsTrue, Some, List, length}
use Rattle.std.specs.List.{All}
use Rattle.disk_trait.specs.Disk.{DiskState}
use Rattle.text_io.specs.Text.{SinkState}
use Rattle.blsm_model.specs.declared.history.Line.{Line}
use Rattle.blsm_model.specs.declared.key.Key.{Key}
use Rattle.blsm_model.specs.declared.row.Value.{Value}
use Rattle.blsm_model.specs.Format.{most_script}
use Rattle.blsm_model.specs.Sizes.{Sizes}
use Rattle.script_text.specs.Grammar.{IsAllowed, IsScript, lines_text}
use Rattle.program_words.specs.Words.{Asked, make, run, check, trial, serve, settle}
use Rattle.store_run.specs.Headline.{IsStoreWith}
use Rattle.store_serve.specs.Room.{room_for}
use Rattle.tree_session.specs.Lines.{HasRoomFor}
use Rattle.blsm_run.specs.declared.status.Status.{Status}
use Rattle.blsm_run.specs.declared.status.Status.TheVariants.{Done, SinkFault, NoMemory}
use Rattle.blsm_run.specs.Outside.{Outside, IsQuietCount}
use Rattle.blsm_run.specs.Outcome.{Outcome, Tells, TellsLines}
use Rattle.blsm_run.specs.Cause.{Cause, WasAsked}

-- the source tells a script within the grammar and the limits
pub record TellsScript {D : Type 0} (o : Outside D) : Type 0 where
  pub input : List ℕ
  pub told : o.source.left ≡ Some input
  pub short : length input ≤ most_script
  pub lines : List Line
  pub script : IsScript input lines

-- the source tells lines, each with its end, for which a session of so many callers has room
pub record TellsSession {D : Type 0} (callers : ℕ) (o : Outside D) : Type 0 where
  pub lines : List Line
  pub told : o.source.left ≡ Some (lines_text lines)
  pub allowed : All IsAllowed lines
  pub room : HasRoomFor (room_for callers) lines

-- an honest disk stands under this name, of which this holds
pub record HasDisk {D : Type 0} (state : D → DiskState) (o : Outside D) (name : List ℕ) (P : List ℕ → Type 0) : Type 0 where
  pub tells : IsTrue o.shelf.tells_disks
  pub disk : D
  pub stands : o.shelf.disk_at name ≡ Some disk
  pub honest : IsTrue (state disk).is_honest
  pub is : P (state disk).bytes

-- the file is a store that reads as a map, with a version that is taken
abbrev pub IsOpenable : List ℕ → Type 0
IsOpenable file = (sizes : Sizes) × (opening : List (Key × Value)) × IsStoreWith sizes opening file

-- what is asked for can be done
abbrev pub CanBeDone : {D : Type 0} → (D → DiskState) → Outside D → Asked → Type 0
CanBeDone state o (make name sizes) = HasDisk state o name (λ file. file ≡ [])
CanBeDone state o (run name options) = HasDisk state o name IsOpenable × TellsScript o
CanBeDone state o (check name) = HasDisk state o name IsOpenable
CanBeDone state o (trial seed count) = ⊤
CanBeDone state o (serve name callers ships) = HasDisk state o name IsOpenable × TellsSession callers o
CanBeDone state o (settle name) = HasDisk state o name IsOpenable

-- Where the outside does its part: accepted words that ask for something that can be done, and no count that rose.
pub record IsGranted {D : Type 0} (state : D → DiskState) (o : Outside D) (sink sink_after : SinkState) : Type 0 where
  pub what : Asked
  pub asked : WasAsked o what
  pub can : CanBeDone state o what
  pub source_quiet : IsQuietCount o.source.faults o.source_after.faults
  pub shelf_quiet : IsQuietCount o.shelf.faults o.shelf_after.faults
  pub sink_quiet : IsQuietCount sink.faults sink_after.faults

-- The call ended in one way: the text that it wrote, its status, and the cause of both.
pub record Answers {D : Type 0} (state : D → DiskState) (o : Outside D) (sink sink_after : SinkState) (status : Status) : Type 0 where
  pub outcome : Outcome
  pub tells : Tells sink sink_after outcome status
  -- a session's lines one by one
  pub lines : TellsLines outcome sink sink_after
  pub cause : Cause state o outcome
  -- where the outside does its part, what is asked for is done without a fault, or memory runs out before its first command
  pub completes : IsGranted state o sink sink_after → (status ≡ Done) ⊎ (status ≡ NoMemory)
  -- and the words of a trial, whose disk can't fail, ask for no more than a sink that doesn't
  pub tries : (seed count : ℕ) → WasAsked o (trial seed count) → (status ≡ Done) ⊎ (status ≡ SinkFault) ⊎ (status ≡ NoMemory)
