-- Two cores that stand for one state of the machine, on each of which one list of steps is made: nothing shows how much of the memory table either
-- holds. The machine has all of its lists, and no word of what a table was dropped up to.
use Rattle.std.specs.Prelude.{◌≡◌, ◌≢◌, ℕ, ◌≤◌, Bool, true, false, IsTrue, List, ◌∷◌, ◌++◌, length, map}
use Rattle.blsm_model.specs.declared.history.Entry.{Entry}
use Rattle.blsm_model.specs.declared.history.Reply.{Reply}
use Rattle.blsm_model.specs.declared.history.Reply.TheVariants.{NoMemory}
use Rattle.blsm_model.specs.declared.key.Key.{Key}
use Rattle.blsm_model.specs.declared.row.Value.{Value}
use Rattle.disk_trait.specs.Disk.{DiskState}
use Rattle.disk_trait.specs.Moments.{LeavesOnly}
use Rattle.tree_machine.specs.Machine.{Machine}
use Rattle.tree_machine.specs.Outcomes.{last_count}
use Rattle.tree_machine.specs.Plays.{played}
use Rattle.tree_machine.specs.Steps.{Outcome, Well}
use Rattle.tree_machine.specs.declared.step.Step.{Step}
use Rattle.core_lists.specs.Shown.{ShowsHistory, ShowsWhole}
use Rattle.tree_core.specs.Calls.{AreCalls}
use Rattle.tree_core.specs.Core.{CoreState, IsCore}
use Rattle.tree_core.specs.Holds.{StandsWhole}
use Rattle.core_chain.specs.Start.{steps_of}

-- these steps, each of which goes well
abbrev pub all_well : List Step → List (Step × Outcome)
all_well steps = map (λ step. (step, Well)) steps

-- the reply says that memory was refused
abbrev pub is_refused : Reply → Bool
is_refused NoMemory = true
is_refused _ = false

-- no entry behind the first so many says that memory was refused
abbrev pub NoneRefused : ℕ → List Entry → Type 0
NoneRefused before entries =
    (front behind : List Entry) (e : Entry) → entries ≡ front ++ e ∷ behind → before ≤ length front → is_refused e.reply ≡ false

-- Calls that are these steps led from a core that stood for this state of the machine to the end, on an honest disk, and nothing failed: its count of
-- faults stands, and not at its last value, where it would tell none, and no hold was refused memory.
pub record MadeWell {D : Type 0} (state : D → DiskState) (opening : List (Key × Value)) (steps : List Step)
    (start end : CoreState D) (m : Machine) : Type 0 where
  pub calls : List (Step × CoreState D)
  pub are : AreCalls state calls start end
  pub steps_are : steps_of calls ≡ steps
  pub keeps : IsCore start.held (state start.disk)
  pub stood : StandsWhole state opening start m
  pub honest : IsTrue (state start.disk).is_honest
  pub calm : (state end.disk).faults ≡ (state start.disk).faults
  pub counts : (state start.disk).faults ≢ last_count
  pub had : NoneRefused (length start.held.book.book.entries) end.held.book.book.entries

-- The core stands for the next state of the machine, and so do its holds, with the rows to come. Each image of each moment since the start shows the
-- history then, with all entries of the state before; each image of the end shows the whole, and so does the disk as it reads.
pub record ShowsAs {D : Type 0} (state : D → DiskState) (opening : List (Key × Value)) (start end : CoreState D) (m next : Machine) : Type 0 where
  pub stands : StandsWhole state opening end next
  pub images : LeavesOnly (state start.disk) (state end.disk) (ShowsHistory m.gears.sizes opening next.book.entries (length m.book.entries))
  pub whole : (c : List ℕ) → (state end.disk).images c → ShowsWhole opening next c
  pub reads : ShowsWhole opening next (state end.disk).bytes

-- Both stand for one state again: that to which the steps lead where all goes well. So their books are one, with each reply and each quantum.
pub record AreAlike {D E : Type 0} (state : D → DiskState) (other_state : E → DiskState) (opening : List (Key × Value)) (steps : List Step)
    (start end : CoreState D) (other_start other_end : CoreState E) (m : Machine) : Type 0 where
  pub one : ShowsAs state opening start end m (played m (all_well steps))
  pub other : ShowsAs other_state opening other_start other_end m (played m (all_well steps))
  pub book : end.held.book ≡ other_end.held.book

-- Wherever two cores stand for one state of the machine, so they do after the same steps, if nothing failed on either.
abbrev pub ReleaseShowsNothing : {D E : Type 0} → (D → DiskState) → (E → DiskState) → CoreState D → CoreState E → Type 0
ReleaseShowsNothing {D} {E} state other_state end other_end =
    (opening : List (Key × Value)) (steps : List Step) (start : CoreState D) (other_start : CoreState E) (m : Machine)
    → MadeWell state opening steps start end m → MadeWell other_state opening steps other_start other_end m
    → AreAlike state other_state opening steps start end other_start other_end m
