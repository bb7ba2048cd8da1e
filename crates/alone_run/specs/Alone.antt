-- One caller alone, without a worker: what its commands make of the tree, as one function. And that whatever steps led to the end of a run
-- that only it asked, what is printed is that function's.
use Rattle.std.specs.Prelude.{◌≡◌, ℕ, zero, suc, ◌+◌, ◌<◌, Bool, true, false, not, ◌&&◌, List, [], ◌∷◌, map, None, if◌then◌else◌, nat_lt}
use Rattle.std.specs.List.{AllByRecursion}
use Rattle.blsm_model.specs.Format.{callers}
use Rattle.blsm_model.specs.declared.history.Entry.{Entry}
use Rattle.blsm_model.specs.declared.history.Reply.{Reply}
use Rattle.blsm_model.specs.declared.history.Reply.TheVariants.{Fault, Damaged, NoMemory}
use Rattle.blsm_model.specs.declared.op.Op.{Op}
use Rattle.blsm_model.specs.declared.op.Op.TheVariants.{Hold, Next, Release, Work}
use Rattle.gear_sched.specs.Gears.{first_debt, second_debt}
use Rattle.tree_machine.specs.declared.step.Step.{Step}
use Rattle.tree_machine.specs.Machine.{Machine, WorkSoFar, is_worked, owes, totals, work_of}
use Rattle.tree_machine.specs.Plays.{is_help}
use Rattle.tree_machine.specs.Steps.{Outcome, Well, admit, drop_hold, hold, next_rows, pay, work_end, work_turn, look}
use Rattle.blsm_model.specs.Legal.{is_look}

-- ---- one function

-- The seat pays until it owes nothing, but no more often than this. A `let` is computed only where it is read, so examples end early.
abbrev pub paid : ℕ → ℕ → Machine → Machine
paid zero seat m = m
paid (suc fuel) seat m = let rest = paid fuel seat (pay m seat Well).state in if owes seat m then rest else m

-- Each payment takes a byte at least off what is owed, so as many payments as bytes are enough.
abbrev pub all_paid : ℕ → Machine → Machine
all_paid seat m = paid (first_debt m.gears seat + second_debt m.gears seat) seat m

-- a work is over where its last turn found nothing to do
abbrev pub is_over : WorkSoFar → Bool
is_over work = nat_lt 0 work.turns && not (is_worked work.last)

-- so many turns of work, or until it is over
abbrev pub turned : ℕ → ℕ → Machine → Machine
turned zero seat m = m
turned (suc n) seat m = let rest = turned n seat (work_turn m seat Well).state in if is_over (work_of seat m) then m else rest

-- One command. A write is admitted, and paid for at once. A work takes its turns, and ends.
abbrev pub done_alone : ℕ → Op → Machine → Machine
done_alone seat (Hold low high) m = (hold m seat low high Well).state
done_alone seat (Next n) m = (next_rows m seat n Well).state
done_alone seat Release m = (drop_hold m seat).state
done_alone seat (Work n) m = (work_end (turned n seat m) seat n).state
done_alone seat op m = if is_look op then (look m seat op Well).state else all_paid seat (admit m seat op Well).state

-- the commands, one after another
abbrev pub alone : ℕ → Machine → List Op → Machine
alone seat m [] = m
alone seat m (op ∷ ops) = alone seat (done_alone seat op m) ops

-- ---- a run that one seat asked

-- no step is a worker's turn
abbrev pub NoneHelps : List (Step × Outcome) → Type 0
NoneHelps made = AllByRecursion (λ one. is_help one.0.kind ≡ false) made

-- the reply tells of a fault, of a damaged page or of want of memory
abbrev pub is_trouble : Reply → Bool
is_trouble Fault = true
is_trouble (Damaged page) = true
is_trouble NoMemory = true
is_trouble _ = false

-- The end as it is printed: each entry is this seat's, none tells of trouble, and nothing stopped the tree. And no caller has an open work, and the
-- seat owes nothing.
pub record EndsAlone (seat : ℕ) (end : Machine) : Type 0 where
  pub asked : AllByRecursion (λ e. e.seat ≡ seat) end.book.entries
  pub calm : AllByRecursion (λ e. is_trouble e.reply ≡ false) end.book.entries
  pub runs : end.stopped ≡ None
  pub idle : (other : ℕ) → other < callers → (work_of other end).turns ≡ 0
  pub even : first_debt end.gears seat + second_debt end.gears seat ≡ 0

abbrev pub ops_in : List Entry → List Op
ops_in entries = map (λ e. e.op) entries

-- all but which callers left
abbrev pub but_left : Machine → Machine
but_left m = record m { seats = record m.seats { left = [] } }

-- All that is printed is the same, and so is the whole state but for which callers left.
pub record IsAsAlone (end alone : Machine) : Type 0 where
  pub entries : end.book.entries ≡ alone.book.entries
  pub quanta : end.book.quanta ≡ alone.book.quanta
  pub totals_are : totals end ≡ totals alone
  pub state : but_left end ≡ but_left alone
