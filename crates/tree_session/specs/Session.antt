-- What one command, and a script, make of the core of a tree, on every disk.
use Rattle.std.specs.Prelude.{◌≡◌, ◌≢◌, ⊤, ℕ, ◌+◌, ◌*◌, ◌/◌, ◌≤◌, ◌<◌, false, None, IsTrue, List, [], ◌∷◌, ◌++◌, length, slice_index}
use Rattle.std.specs.List.{AllByRecursion}
use Rattle.blsm_model.specs.Book.{noted, counted_up, rows_given}
use Rattle.blsm_model.specs.Format.{callers}
use Rattle.blsm_model.specs.Geometry.{work_bound}
use Rattle.blsm_model.specs.Histories.{writes_of}
use Rattle.blsm_model.specs.Legal.{total_weight}
use Rattle.blsm_model.specs.Scripts.{asked, asked_in, lines_of, rows_of}
use Rattle.blsm_model.specs.Sizes.{Sizes}
use Rattle.blsm_model.specs.declared.history.Entry.{Entry}
use Rattle.blsm_model.specs.declared.history.Line.{Line}
use Rattle.blsm_model.specs.declared.history.Reply.{Reply}
use Rattle.blsm_model.specs.declared.op.Op.{Op}
use Rattle.blsm_model.specs.declared.op.Op.TheVariants.{Get, Hold, Next, Release, Work}
use Rattle.disk_trait.specs.Disk.{DiskState}
use Rattle.gear_sched.specs.Gears.{first_debt, second_debt}
use Rattle.seat_book.specs.State.{work_in}
use Rattle.tree_machine.specs.Plays.{is_finished, is_help}
use Rattle.tree_machine.specs.Steps.{last_write}
use Rattle.tree_machine.specs.declared.step.Step.{Step}
use Rattle.tree_runs.specs.Runs.{hold_share}
use Rattle.core_moves.specs.declared.held.Held.{Held}
use Rattle.tree_core.specs.Calls.{AreCalls}
use Rattle.tree_core.specs.Causes.{pages_first, swaps_due_in}
use Rattle.tree_core.specs.Core.{CoreState, IsCore}
use Rattle.tree_core.specs.Notes.{OwesNothing}
use Rattle.tree_core.specs.Steps.{StandsSince}
use Rattle.tree_session.specs.Faults.{NamesStop, Proceeds, TellsNone, faults_of, faults_of_turn, faults_told, is_by_fault}
use Rattle.tree_session.specs.Lines.{Rests}

-- ---- one command

-- how many quanta its caller takes for it at most
abbrev pub most_quanta : Sizes → Op → ℕ
most_quanta sizes (Get key) = 0
most_quanta sizes (Hold low high) = 0
most_quanta sizes (Next n) = 0
most_quanta sizes Release = 0
most_quanta sizes (Work n) = n
most_quanta sizes op = work_bound sizes (total_weight (writes_of op))

-- How many calls of the disk it takes at most, where its caller takes so many quanta for it and so many swaps are due before: a get reads one page of
-- each component at most, a next reads each page of its hold at most, a turn of a work moves once, and a write is admitted, with four calls and nine
-- for each swap that is due, behind three at most where it looks first, and then paid for, in vain once at most. A hold is made, and dropped, in
-- memory alone.
abbrev pub most_calls : Sizes → Op → ℕ → ℕ → ℕ
most_calls sizes (Get key) quanta due = 3
most_calls sizes (Hold low high) quanta due = 0
most_calls sizes (Next n) quanta due = hold_share sizes
most_calls sizes Release quanta due = 0
most_calls sizes (Work n) quanta due = n * (sizes.quantum / 4 + 9)
most_calls sizes op quanta due = (pages_first op + (4 + 9 * due)) + (quanta + 1) * (sizes.quantum / 4 + 3)

-- Some calls of the core led from the one to the other, none of which is a worker's turn. Each has all that the core says of it: why it answered so, and by
-- which of the disk's bytes.
abbrev pub IsMade : {D : Type 0} → (D → DiskState) → CoreState D → CoreState D → Type 0
IsMade {D} state old new = (calls : List (Step × CoreState D)) × AreCalls state calls old new × AllByRecursion (λ one. is_help one.0.kind ≡ false) calls

-- One entry is noted for it, with few quanta and few calls of the disk, and the session rests again.
pub record Performs {D : Type 0} (state : D → DiskState) (seat : ℕ) (op : Op) (old new : CoreState D) : Type 0 where
  pub reply : Reply
  pub quanta : ℕ
  pub annals : new.held.book.book ≡ counted_up (noted old.held.book.book (record { seat = seat; op = op; reply = reply })) (length old.held.book.book.entries) quanta
  pub few : quanta ≤ most_quanta old.held.runs.sizes op
  -- no more rows than it may give
  pub rows : length (rows_given reply) ≤ rows_of op
  pub calm : is_by_fault new.held.book.stopped ≡ false → TellsNone op reply
  -- it tells of a stop with its cause
  pub names : NamesStop reply new.held.book.stopped
  pub rests : Rests new.held
  -- and what lasts begins there anew
  pub begins : StandsSince state new new
  pub proceeds : Proceeds state (faults_of reply) (most_calls old.held.runs.sizes op quanta (swaps_due_in old.held)) old new
  pub made : IsMade state old new

-- ---- a script

-- the entries took no more quanta than they may
abbrev pub TookFew : Sizes → List Entry → List ℕ → Type 0
TookFew sizes [] [] = ⊤
TookFew sizes (entry ∷ entries) (quanta ∷ more) = (quanta ≤ most_quanta sizes entry.op) × TookFew sizes entries more
TookFew sizes _ _ = ⊥

-- The commands of these lines were done, one after another, and there was a core between each two.
abbrev pub AreDone : {D : Type 0} → (D → DiskState) → List Line → CoreState D → CoreState D → Type 0
AreDone state [] old new = new ≡ old
AreDone {D} state (line ∷ lines) old new = (mid : CoreState D) × Performs state line.seat line.op old mid × AreDone state lines mid new

-- how many calls of the disk they took at most, each with the swaps that were due before it
abbrev pub calls_for : {D : Type 0} (state : D → DiskState) (lines : List Line) (old new : CoreState D) → AreDone state lines old new → ℕ
calls_for state [] old new done = 0
calls_for state (line ∷ lines) old new done = most_calls old.held.runs.sizes line.op done.1.quanta (swaps_due_in old.held) + calls_for state lines done.0 new done.2

-- Its lines are answered, in order, one entry for each; what was noted before stays.
pub record Runs {D : Type 0} (state : D → DiskState) (lines : List Line) (old new : CoreState D) : Type 0 where
  pub done : AreDone state lines old new
  pub added : List Entry
  pub counts : List ℕ
  pub entries : new.held.book.book.entries ≡ old.held.book.book.entries ++ added
  pub quanta : new.held.book.book.quanta ≡ old.held.book.book.quanta ++ counts
  pub asked_for : asked_in added ≡ asked lines
  pub few : TookFew old.held.runs.sizes added counts
  pub calm : is_by_fault new.held.book.stopped ≡ false → AllByRecursion (λ e. TellsNone e.op e.reply) added
  pub names : AllByRecursion (λ e. NamesStop e.reply new.held.book.stopped) added
  pub room : (seat : ℕ) → seat < callers → slice_index new.held.book.book.room.entries seat + length (lines_of seat lines) ≡ slice_index old.held.book.book.room.entries seat
  pub rests : Rests new.held
  pub proceeds : Proceeds state (faults_told added) (calls_for state lines old new done) old new
  pub made : IsMade state old new

-- ---- the parts of a command

-- the other seats owe no more
pub record EasesOthers (seat : ℕ) (old new : Held) : Type 0 where
  pub first : (other : ℕ) → other ≢ seat → first_debt new.gears other ≤ first_debt old.gears other
  pub second : (other : ℕ) → other ≢ seat → second_debt new.gears other ≤ second_debt old.gears other

-- A caller paid all that it owed, for its last write.
pub record PaysOff {D : Type 0} (state : D → DiskState) (seat : ℕ) (old new : CoreState D) : Type 0 where
  pub quanta : ℕ
  pub annals : new.held.book.book ≡ counted_up old.held.book.book (last_write seat old.held.book.book.entries) quanta
  pub work : new.held.book.seats.work ≡ old.held.book.seats.work
  pub even : new.held.book.stopped ≡ None → OwesNothing seat new.held
  pub others : EasesOthers seat old.held new.held
  pub keeps : IsCore new.held (state new.disk)
  pub proceeds : Proceeds state 0 ((quanta + 1) * (old.held.runs.sizes.quantum / 4 + 3)) old new
  pub made : IsMade state old new

-- A caller's work of n turns was done, and is open still.
pub record Turns {D : Type 0} (state : D → DiskState) (seat n : ℕ) (old new : CoreState D) : Type 0 where
  pub annals : new.held.book.book ≡ old.held.book.book
  pub finished : IsTrue (is_finished n (work_in seat new.held.book))
  pub few : (work_in seat new.held.book).quanta ≤ n
  pub calm : is_by_fault new.held.book.stopped ≡ false → faults_of_turn (work_in seat new.held.book).last ≡ 0
  pub works : (other : ℕ) → other ≢ seat → work_in other new.held.book ≡ work_in other old.held.book
  pub even : new.held.book.stopped ≡ None → OwesNothing seat new.held
  pub others : EasesOthers seat old.held new.held
  pub proceeds : Proceeds state (faults_of_turn (work_in seat new.held.book).last) (n * (old.held.runs.sizes.quantum / 4 + 9)) old new
  pub made : IsMade state old new
