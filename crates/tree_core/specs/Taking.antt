-- What the parts of a call leave, before the book is told.
use Rattle.std.specs.Prelude.{◌≡◌, ◌⊎◌, ◌<◌, ◌^◌, ℕ, true, false, List, [], ◌∷◌, get_or, length}
use Rattle.refusal.specs.Count.{HasRisen}
use Rattle.blsm_model.specs.declared.key.Key.{Key}
use Rattle.blsm_model.specs.declared.row.Value.{Value}
use Rattle.blsm_model.specs.declared.op.Op.{Op}
use Rattle.blsm_model.specs.declared.op.Write.{Write}
use Rattle.blsm_model.specs.declared.op.Write.TheVariants.{Del}
use Rattle.blsm_model.specs.declared.history.Reply.TheVariants.{Done, FaultUnsure}
use Rattle.blsm_model.specs.Histories.{writes_of}
use Rattle.blsm_model.specs.Legal.{total_weight}
use Rattle.blsm_model.specs.Tails.{TailFits}
use Rattle.blsm_model.specs.Values.{added_count, key_of}
use Rattle.disk_trait.specs.Disk.{DiskState}
use Rattle.disk_trait.specs.Moments.{LeavesOnly}
use Rattle.record_delta.specs.declared.record.Rec.{Rec}
use Rattle.record_delta.specs.Records.{record_of}
use Rattle.record_delta.specs.Entries.{Entries, entries_weight}
use Rattle.pacing.specs.Pace.{Pace}
use Rattle.pacing.specs.Fronts.{Fronts}
use Rattle.tree_machine.specs.Machine.{Machine, charge, deep_done, pass_done}
use Rattle.tree_machine.specs.Moves.{with_peak}
use Rattle.tree_machine.specs.Steps.{Well, admit, deep_swapped, ready_for, taken_together}
use Rattle.seat_book.specs.State.{book_of}
use Rattle.tree_file.specs.Tree.{Tree}
use Rattle.tree_runs.specs.Holding.{StandOver, IsPassSwapped}
use Rattle.core_moves.specs.declared.held.Held.{Held}
use Rattle.core_moves.specs.Held.{IsPassDone, IsDeepDone, is_run_full, charge_in}
use Rattle.core_moves.specs.Needs.{IsOn}
use Rattle.core_moves.specs.Moves.{SettlesDeep, SettlesPass, begun_in, WritesIn}
use Rattle.core_lists.specs.Standing.{HoldsMachine}
use Rattle.core_lists.specs.Shown.{CommitsAs, ShowsHistory, ShowsWhole}
use Rattle.core_lists.specs.Images.{ShowsNoted, history_with}
use Rattle.core_lists.specs.Going.{GoesOn}
use Rattle.tree_core.specs.declared.admission.Taking.{Taking}
use Rattle.tree_core.specs.declared.admission.Taking.TheVariants.{Taken, Failed}
use Rattle.tree_core.specs.Core.{IsLive}

-- the write of a write's command; any other one has none, and what stands here for it means nothing
abbrev pub written_by : Op → Write
written_by op = get_or (writes_of op) 0 (Del [])

-- A write's command writes this record of this key, whose tail and count are of the format.
pub record Spells (op : Op) (key : Key) (rec : Rec) : Type 0 where
  pub writes : writes_of op ≡ written_by op ∷ []
  pub key_is : key ≡ key_of (written_by op)
  pub rec_is : rec ≡ record_of (written_by op)
  pub tail : TailFits (written_by op)
  pub count : added_count (written_by op) < 2 ^ 64

-- it runs, and has this pace
pub record Runs (held : Held) (d : DiskState) : Type 0 where
  pub pace : Pace
  pub live : IsLive held pace d

-- The tree that the pass's swap makes, also where it fails and an image may hold it.
pub record PassMakesTree (old : Held) (tree next : Tree) : Type 0 where
  pub done : IsPassDone old → IsPassSwapped (is_run_full old) tree next
  pub rests : (IsPassDone old → ⊥) → next ≡ tree

-- What stands when what the command writes is to be appended, after the swaps that were due and the begin.
pub record IsReadied (w : ℕ) (old new : Held) : Type 0 where
  pub settled : Held
  pub ready : Held
  pub deep : SettlesDeep old settled
  pub pass : SettlesPass settled ready
  pub begun : new ≡ begun_in w ready

-- Writes that there is room for, by the answer: they were taken; a swap failed; or their append.
abbrev pub Takes : Taking → ℕ → Entries → Held → Held → DiskState → Type 0
Takes Taken seat more old new after = (begun : Held) × IsReadied (entries_weight more) old begun × WritesIn seat more begun new × IsOn new after
Takes (Failed true) seat more old new after = IsReadied (entries_weight more) old new
Takes (Failed false) seat more old new after = ((new ≡ old) × IsDeepDone old) ⊎ (SettlesDeep old new × IsPassDone new)

-- What the core has in memory is of this state of the machine.
pub record TellsOf (held : Held) (m : Machine) : Type 0 where
  pub sizes : m.gears.sizes ≡ held.runs.sizes
  pub gears : m.gears ≡ held.gears
  pub book : book_of m ≡ held.book
  pub charge_is : charge m ≡ charge_in held

-- The write is in the tree that the disk stands on then. With its entry the machine goes on from there.
pub record TakenOver (opening : List (Key × Value)) (seat : ℕ) (op : Op) (m : Machine) (new : Held) (after : DiskState) : Type 0 where
  pub tree : Tree
  pub fronts : Fronts
  pub over : StandOver new.runs tree after
  pub holds : HoldsMachine new tree (with_peak (taken_together seat (writes_of op) (ready_for (total_weight (writes_of op)) m)))
  pub goes : GoesOn opening (admit m seat op Well).state fronts tree

-- Where a swap failed, it was due: that of the deep merge, or that of the pass after it. No other commit was made.
abbrev pub HasLost : Machine → Held → DiskState → Type 0
HasLost m new after =
    (TellsOf new m × (deep_done m ≡ true) × CommitsAs m after) ⊎ (TellsOf new (deep_swapped m) × (pass_done (deep_swapped m) ≡ true) × CommitsAs (deep_swapped m) after)

-- what the images show of it, and which state of the machine is in memory
abbrev pub TakesOver : Taking → List (Key × Value) → ℕ → Op → Machine → Held → DiskState → DiskState → Type 0
TakesOver Taken opening seat op m new before after =
    TakenOver opening seat op m new after × LeavesOnly before after (ShowsHistory m.gears.sizes opening (history_with seat op Done m) (length m.book.entries))
TakesOver (Failed true) opening seat op m new before after =
    TellsOf new (ready_for (total_weight (writes_of op)) m)
    × LeavesOnly before after (ShowsHistory m.gears.sizes opening (history_with seat op FaultUnsure m) (length m.book.entries))
    × ((c : List ℕ) → after.images c → ShowsNoted opening seat op FaultUnsure m c)
    × ShowsNoted opening seat op FaultUnsure m after.bytes
    × CommitsAs (ready_for (total_weight (writes_of op)) m) after
TakesOver (Failed false) opening seat op m new before after = HasLost m new after × LeavesOnly before after (ShowsWhole opening m) × ShowsWhole opening m after.bytes

-- how it tells the disk's faults
abbrev pub TellsTaking : Taking → DiskState → DiskState → Type 0
TellsTaking Taken before after = after.faults ≡ before.faults
TellsTaking (Failed begun) before after = HasRisen before.faults after.faults
