-- What only lemmas say: no clause names these.
use Rattle.std.specs.Prelude.{◌≡◌, ◌≤◌, ◌⊎◌, ℕ, Bool, Option, Some, None, IsTrue, ◌-◌, false, sum, is_some, slice_index, slice_index_or, if◌then◌else◌, true, List, ◌+◌, ◌*◌}
use Rattle.blsm_model.specs.declared.key.Key.{Key}
use Rattle.tree_machine.specs.Lists.{Lists, value_in}
use Rattle.tree_machine.specs.Machine.{Machine, charge, pass_done, deep_done, is_worked, is_caller, work_of, is_closed, Turned, BadPage, in_deep}
use Rattle.tree_machine.specs.Layers.{AreLayered, IsSound}
use Rattle.tree_machine.specs.Merges.{Merge, begun}
use Rattle.tree_machine.specs.Moves.{count_quantum, pass_quantum, deep_quantum}
use Rattle.blsm_model.specs.Format.{callers}
use Rattle.blsm_model.specs.Facts.{Facts, Part}
use Rattle.gear_sched.specs.Gears.{first_debt, second_debt}
use Rattle.std.specs.List.{AllByRecursion}
use Rattle.tree_machine.specs.declared.step.Step.{Step}
use Rattle.tree_machine.specs.Steps.{Outcome, one_if}
use Rattle.tree_machine.specs.Plays.{played}
use Rattle.tree_machine.specs.Outcomes.{is_by_page, is_damaged, AreTold}

-- each key has the value that it had
abbrev pub KeepsValues : Lists → Lists → Type 0
KeepsValues old new = (key : Key) → value_in new key ≡ value_in old key

-- The lists keep their order and every key its value.
pub record Keeps (old new : Machine) : Type 0 where
  pub layered : AreLayered new.lists new.merges
  pub values : KeepsValues old.lists new.lists

-- What a merge's move leaves: the value of every key, the history, the holds, the callers' work. The charge doesn't rise.
pub record Carries (old new : Machine) : Type 0 where
  pub sound : IsSound new
  pub values : KeepsValues old.lists new.lists
  pub charge : charge new ≤ charge old
  pub sizes : new.gears.sizes ≡ old.gears.sizes
  pub book : new.book ≡ old.book
  pub holds : new.holds ≡ old.holds
  pub work : new.seats.work ≡ old.seats.work
  pub opening : new.counts.charge ≡ old.counts.charge
  pub stopped : new.stopped ≡ old.stopped

-- The merge stands; or, where it was done or didn't run, none runs afterwards, or one that has taken nothing.
abbrev pub MergeStands : Bool → Option Merge → Option Merge → Type 0
MergeStands done old new = (new ≡ old) ⊎ ((IsTrue done ⊎ (old ≡ None)) × ((new ≡ None) ⊎ (new ≡ Some begun)))

-- no quantum is done: both merges stand
pub record Rests (old new : Machine) : Type 0 where
  pub quanta : new.seats.quanta ≡ old.seats.quanta
  pub pass : MergeStands (pass_done old) old.merges.pass new.merges.pass
  pub deep : MergeStands (deep_done old) old.merges.deep new.merges.deep

-- one quantum is done, for the seat, of one merge; the lists and the other merge stand
pub record TakesQuantum (seat : ℕ) (old new : Machine) : Type 0 where
  pub quanta : new.seats.quanta ≡ (count_quantum seat old.seats).quanta
  pub lists : new.lists ≡ old.lists
  pub merge : (new.merges ≡ (pass_quantum seat old).merges) ⊎ (new.merges ≡ (deep_quantum seat old).merges)

-- a caller's turns are those of its work since its last entry, a worker's all of its turns
abbrev pub turns_of : ℕ → Machine → ℕ
turns_of seat m = if is_caller seat then (work_of seat m).turns else slice_index m.seats.turns (seat - callers)

abbrev pub part_of : Machine → ℕ → Part
part_of m seat = record {
  debt1 = first_debt m.gears seat;
  debt2 = second_debt m.gears seat;
  turns = turns_of seat m;
  worked = is_worked (work_of seat m).last;
  quanta = slice_index m.seats.quanta seat;
  room = (slice_index m.book.room.entries seat, slice_index m.book.room.rows seat);
  left = slice_index_or m.seats.left seat false;
}

abbrev pub facts_of : Machine → Facts
facts_of m = record {
  history = m.book.entries;
  part = part_of m;
  quanta = sum m.seats.quanta;
  peak = m.counts.peak;
  closed = is_closed m;
  stopped = is_some m.stopped;
}

-- some list of steps leads there, whose outcomes are told by the disk's count
abbrev pub IsReachedBy : Machine → ℕ → Machine → ℕ → Type 0
IsReachedBy start old m new = (steps : List (Step × Outcome)) × AreTold start old steps new × (played start steps ≡ m)

abbrev pub is_bad_page : Turned → Bool
is_bad_page (BadPage page) = true
is_bad_page _ = false

-- nothing tells of a damaged page: no reply, no stop, no open work
pub record FindsNone (m : Machine) : Type 0 where
  pub entries : AllByRecursion (λ e. is_damaged e.reply ≡ false) m.book.entries
  pub stopped : is_by_page m.stopped ≡ false
  pub works : (seat : ℕ) → is_bad_page (work_of seat m).last ≡ false

-- Each swap, and each rotation by itself, is one commit. So the version rises by no more than the passes and the deep merges that were
-- swapped in, and the rotations.
abbrev pub IsVersion : ℕ → Machine → Type 0
IsVersion first m = m.catalogue.version ≤ first + m.counts.passes + 2 * m.counts.deeps + one_if (in_deep m)
