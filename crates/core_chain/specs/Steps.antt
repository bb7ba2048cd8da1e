-- On an honest disk a chain of calls is a list of steps of the machine, one for each call, and each is timed by the disk's clock.
use Rattle.std.specs.Prelude.{◌≡◌, ⊤, ℕ, zero, suc, ◌+◌, ◌<◌, ◌≤◌, ◌^◌, Bool, true, false, not, ◌&&◌, if◌then◌else◌, is_some, IsTrue, Option, None, Some, List, [], ◌∷◌, ◌++◌, length, map, take}
use mathlib.Core.List.{IsPrefix}
use Rattle.blsm_model.specs.Legal.{is_write}
use Rattle.blsm_model.specs.declared.history.Entry.{Entry}
use Rattle.blsm_model.specs.declared.history.Reply.TheVariants.{Done}
use Rattle.blsm_model.specs.declared.key.Key.{Key}
use Rattle.blsm_model.specs.declared.op.Op.TheVariants.{Get}
use Rattle.blsm_model.specs.declared.row.Value.{Value}
use Rattle.disk_trait.specs.Disk.{DiskState}
use Rattle.disk_trait.specs.Moments.{LeavesOnly}
use Rattle.record_delta.specs.Entries.{is_above, over_any, record_of_key}
use Rattle.record_delta.specs.declared.record.Rec.{Rec}
use Rattle.record_delta.specs.declared.record.Rec.TheVariants.{Base, Delta, Tomb}
use Rattle.tree_machine.specs.Lists.{Lists}
use Rattle.tree_machine.specs.Machine.{Machine}
use Rattle.tree_machine.specs.Outcomes.{AreTold, NoneBroken, calls}
use Rattle.tree_machine.specs.Plays.{may_step, played, played_one}
use Rattle.tree_machine.specs.Steps.{Outcome, swaps_due}
use Rattle.tree_machine.specs.declared.step.Kind.{Kind}
use Rattle.tree_machine.specs.declared.step.Kind.TheVariants.{Look}
use Rattle.tree_machine.specs.declared.step.Step.{Step}
use Rattle.core_lists.specs.Shown.{ShowsHistory}
use Rattle.tree_core.specs.Causes.{pages_first}
use Rattle.tree_core.specs.Core.{CoreState}
use Rattle.tree_core.specs.Holds.{StandsWhole}
use Rattle.core_chain.specs.Start.{steps_of}
use Rattle.core_chain.specs.Tells.{calls_of}

-- ---- steps that were made, each with its outcome and the disk's clock when it had ended

abbrev pub outcomes_in : List (Step × Outcome × ℕ) → List (Step × Outcome)
outcomes_in made = map (λ one. (one.0, one.1)) made

abbrev pub clocks_in : List (Step × Outcome × ℕ) → List ℕ
clocks_in made = map (λ one. one.2) made

-- the clock when the first k of them had ended, from this one on
abbrev pub clock_after : ℕ → ℕ → List (Step × Outcome × ℕ) → ℕ
clock_after before zero made = before
clock_after before (suc k) [] = before
clock_after before (suc k) (one ∷ more) = clock_after one.2 k more

-- a record that hides all that is older: a base or a tombstone
abbrev pub hides_older : Option Rec → Bool
hides_older None = false
hides_older (Some (Base value)) = true
hides_older (Some (Delta count)) = false
hides_older (Some Tomb) = true

-- a get that the memory table answers, whose table A has of its list what is above this floor, or all where it has none
abbrev pub is_in_memory : Option Key → Lists → Kind → Bool
is_in_memory floor lists (Look (Get key)) =
    hides_older (over_any (record_of_key key lists.b) (if is_above floor key then record_of_key key lists.a else None))
is_in_memory floor lists _ = false

-- A step calls no disk where the store is stopped, where it is none that does, and where it is a lookup that is answered in memory.
abbrev pub calls_at : Option Key → Machine → ℕ → Kind → Bool
calls_at floor m seat k = not (is_some m.stopped) && (calls m seat k && not (is_in_memory floor m.lists k))

-- how often a step calls it at most where the machine stands: with the swaps that are due there, or not at all
abbrev pub most_calls_at : Option Key → Machine → ℕ → Kind → ℕ
most_calls_at floor m seat k = if calls_at floor m seat k then calls_of m.gears.sizes (swaps_due m) k else 0

-- the floors of table A before each call of a chain
abbrev pub floors_in : {D : Type 0} → CoreState D → List (Step × CoreState D) → List (Option Key)
floors_in core [] = []
floors_in core (one ∷ calls) = core.held.log.a.floor ∷ floors_in one.1 calls

-- Clocks rise, each by no more than its step may call the disk with this floor of table A, so each stands that calls none.
abbrev pub AreTimed : Machine → List (Option Key) → ℕ → List (Step × Outcome × ℕ) → ℕ → Type 0
AreTimed m floors before [] after = after ≡ before
AreTimed m [] before (one ∷ more) after = ⊥
AreTimed m (floor ∷ floors) before (one ∷ more) after =
    (before ≤ one.2) × (one.2 ≤ before + most_calls_at floor m one.0.seat one.0.kind) × AreTimed (played_one m (one.0, one.1)) floors one.2 more after

-- each of them might be made where it stands
abbrev pub AllMay : Machine → List (Step × Outcome) → Type 0
AllMay m [] = ⊤
AllMay m (made ∷ steps) = IsTrue (may_step m made.0) × AllMay (played_one m made) steps

-- ---- writes that were acknowledged

-- the machine once the first k of them were made, and the entries that are noted then
abbrev pub after_steps : Machine → ℕ → List (Step × Outcome × ℕ) → Machine
after_steps m k made = played m (take k (outcomes_in made))

abbrev pub noted_after : Machine → ℕ → List (Step × Outcome × ℕ) → List Entry
noted_after m k made = (after_steps m k made).book.entries

-- The step behind the first k noted a write with `ok`.
pub record Acknowledges (m : Machine) (k : ℕ) (made : List (Step × Outcome × ℕ)) : Type 0 where
  pub entry : Entry
  pub noted : noted_after m (suc k) made ≡ noted_after m k made ++ entry ∷ []
  pub write : is_write entry.op ≡ true
  pub ok : entry.reply ≡ Done

-- A step that the clock says began here and ended there: at its end a sync of its own had ended well, which is marked still. Where no swap was due
-- it made four calls, behind as many at most as a lookup that came first may make: none for a write that doesn't look first.
pub record HasOwnSync (looks due before after : ℕ) (last : DiskState) : Type 0 where
  pub later : IsTrue last.tells_images → before < after
  pub synced : IsTrue last.tells_images → last.synced_at after
  pub exact : due ≡ 0 → before + looks + 4 < 2 ^ 64 → (before + 4 ≤ after) × (after ≤ before + looks + 4)

-- ---- the whole

-- These calls led from the start, where the core stood for this state of the machine, to the end.
pub record ChainIsSteps {D : Type 0} (state : D → DiskState) (opening : List (Key × Value)) (calls : List (Step × CoreState D)) (start end : CoreState D) (m : Machine) : Type 0 where
  -- one step for each call, in order, with the disk's clock after it
  pub made : List (Step × Outcome × ℕ)
  pub steps_are : map (λ one. one.0) made ≡ steps_of calls
  pub clocks_are : clocks_in made ≡ map (λ one. (state one.1.disk).clock) calls
  pub timed : AreTimed m (floors_in start calls) (state start.disk).clock made (state end.disk).clock
  -- none was passed over, the disk's count of faults tells the outcomes, and no page was found damaged
  pub may : AllMay m (outcomes_in made)
  pub told : AreTold m (state start.disk).faults (outcomes_in made) (state end.disk).faults
  pub whole : NoneBroken (outcomes_in made)
  -- the core stands for the state to which they lead
  pub stands : StandsWhole state opening end (played m (outcomes_in made))
  pub grows : IsPrefix m.book.entries (played m (outcomes_in made)).book.entries
  -- each image of each moment since the start shows the history with all entries from before
  pub images : LeavesOnly (state start.disk) (state end.disk) (ShowsHistory m.gears.sizes opening (played m (outcomes_in made)).book.entries (length m.book.entries))
  -- each image of a moment not before the end of the first k steps shows it with all entries that these noted
  pub moments : (k t : ℕ) (c : List ℕ) → clock_after (state start.disk).clock k made ≤ t → (state end.disk).images_since t c
      → ShowsHistory m.gears.sizes opening end.held.book.book.entries (length (noted_after m k made)) c
  -- each write that was acknowledged has a sync of its own
  pub acknowledged : (k : ℕ) → (it : Acknowledges m k made)
      → HasOwnSync (pages_first it.entry.op) (swaps_due (after_steps m k made)) (clock_after (state start.disk).clock k made)
      (clock_after (state start.disk).clock (suc k) made) (state end.disk)
