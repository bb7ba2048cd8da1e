-- The state of the tree, as a machine over lists.
use Rattle.std.specs.Prelude.{ℕ, ◌+◌, ◌-◌, Bool, true, false, ◌&&◌, List, [], ◌∷◌, take, drop, sum, Option, Some, None, replicate, slice_index_or, if◌then◌else◌, nat_lt, nat_le, ◌^◌, min}
use Rattle.blsm_model.specs.Format.{callers}
use Rattle.blsm_model.specs.declared.room.Room.{Room}
use Rattle.blsm_model.specs.declared.row.Row.{Row}
use Rattle.blsm_model.specs.declared.history.Why.{Why}
use Rattle.blsm_model.specs.declared.history.Totals.{Totals}
use Rattle.blsm_model.specs.Geometry.{high_mark}
use Rattle.blsm_model.specs.Sizes.{Sizes}
use Rattle.blsm_model.specs.Book.{Book}
use Rattle.record_delta.specs.Entries.{Entries, entries_weight}
use Rattle.tree_machine.specs.Lists.{Lists, memory_weight}
use Rattle.tree_machine.specs.Merges.{Merge, is_done}
use Rattle.gear_sched.specs.Gears.{GearState, at_rest, first_debt, second_debt}

-- the seats of callers and then of workers
abbrev pub seats : ℕ
seats = 24

-- The merges that run: a pass, which merges the memory table into C1, and a deep merge, of C1' into C2.
pub record Merges : Type 0 where
  pub pass : Option Merge
  pub deep : Option Merge

-- The catalogue's version, and the numbers of the log's lanes: of A, of B, and the spare one.
pub record Catalogue : Type 0 where
  pub version : ℕ
  pub lane_a : ℕ
  pub lane_b : ℕ
  pub lane_spare : ℕ

-- how a turn ended
pub data Turned : Type 0 where
  Worked : Turned
  Idle : Turned
  Closed : Turned
  Failed : Turned
  BadPage : ℕ → Turned
  Halted : Why → Turned

-- the turn did something
abbrev pub is_worked : Turned → Bool
is_worked Worked = true
is_worked _ = false

-- A caller's work so far, since its last entry: its turns, how many of them weren't idle, their quanta, and how the last
-- one ended.
pub record WorkSoFar : Type 0 where
  pub turns : ℕ
  pub worked : ℕ
  pub quanta : ℕ
  pub last : Turned

abbrev pub no_work : WorkSoFar
no_work = record { turns = 0; worked = 0; quanta = 0; last = Idle }

-- a worker's turns after one more: they stop at the end of their type, so that a seat whose turns are none never took one
abbrev pub turn_more : ℕ → ℕ
turn_more turns = min (turns + 1) (2 ^ 64 - 1)

-- What the seats did: each caller's work, and whether it left; each worker's turns; the quanta of each seat.
pub record Seats : Type 0 where
  pub work : List WorkSoFar
  pub left : List Bool
  pub turns : List ℕ
  pub quanta : List ℕ

-- no seat did anything yet
abbrev pub fresh_seats : Seats
fresh_seats = record { work = replicate callers no_work; left = replicate callers false; turns = replicate (seats - callers) 0; quanta = replicate seats 0 }

-- What a run counts: the charge and the disk's faults at the opening, the greatest weight of the memory table at the end
-- of a step, the swaps of passes and of deep merges.
pub record Counts : Type 0 where
  pub charge : ℕ
  pub faults : ℕ
  pub peak : ℕ
  pub passes : ℕ
  pub deeps : ℕ

pub record Machine : Type 0 where
  pub lists : Lists
  pub merges : Merges
  -- the sizes, which no step changes, and the numbers that pace the merges
  pub gears : GearState
  -- while no pass runs: the memory table's weight after the last pass was swapped in, and what was admitted since
  pub spring : ℕ
  pub catalogue : Catalogue
  -- the rows to come of each caller's hold
  pub holds : List (Option (List Row))
  pub book : Book
  pub seats : Seats
  pub counts : Counts
  pub stopped : Option Why

-- after the opening: the memory table and C1' are empty, no merge runs, and nothing was asked
abbrev pub opened : Sizes → Entries → Entries → Catalogue → ℕ → Room → Machine
opened sizes c1 c2 catalogue faults room = record {
  lists = record { b = []; a = []; c1 = c1; c1x = []; c2 = c2 };
  merges = record { pass = None; deep = None };
  gears = at_rest sizes;
  spring = 0;
  catalogue = catalogue;
  holds = replicate callers None;
  book = record { entries = []; quanta = []; room = room };
  seats = fresh_seats;
  counts = record { charge = entries_weight c1 + entries_weight c2; faults = faults; peak = 0; passes = 0; deeps = 0 };
  stopped = None;
}

-- ---- what is read off it

abbrev pub in_pass : Machine → Bool
in_pass m = m.gears.pass

abbrev pub in_deep : Machine → Bool
in_deep m = m.gears.deep

-- the seat owes something to a merge
abbrev pub owes : ℕ → Machine → Bool
owes seat m = nat_lt 0 (first_debt m.gears seat + second_debt m.gears seat)

abbrev pub pass_is_done : Option Merge → Lists → Bool
pass_is_done None lists = false
pass_is_done (Some pass) lists = is_done pass lists.a lists.c1

abbrev pub deep_is_done : Option Merge → Lists → Bool
deep_is_done None lists = false
deep_is_done (Some deep) lists = is_done deep lists.c1x lists.c2

-- the pass runs and is done
abbrev pub pass_done : Machine → Bool
pass_done m = pass_is_done m.merges.pass m.lists

abbrev pub deep_done : Machine → Bool
deep_done m = deep_is_done m.merges.deep m.lists

-- what the memory table may weigh in C1 at most: its weight, or while a pass runs that at the begin and what came since
abbrev pub memory_charge : Machine → ℕ
memory_charge m = if in_pass m then m.gears.pass_memory + m.gears.pass_admitted else memory_weight m.lists

-- what all components and the memory table weigh at most
abbrev pub charge : Machine → ℕ
charge m = (entries_weight m.lists.c1 + entries_weight m.lists.c1x + entries_weight m.lists.c2) + memory_charge m

abbrev pub is_caller : ℕ → Bool
is_caller seat = nat_lt seat callers

abbrev pub is_worker : ℕ → Bool
is_worker seat = nat_le callers seat && nat_lt seat seats

abbrev pub work_of : ℕ → Machine → WorkSoFar
work_of seat m = slice_index_or m.seats.work seat no_work

abbrev pub all_true : List Bool → Bool
all_true [] = true
all_true (b ∷ bs) = b && all_true bs

-- all callers left
abbrev pub is_closed : Machine → Bool
is_closed m = all_true m.seats.left

-- the numbers of the run so far
abbrev pub totals : Machine → Totals
totals m = record {
  peak = m.counts.peak;
  high = high_mark m.gears.sizes;
  callers = sum (take callers m.seats.quanta);
  workers = sum (drop callers m.seats.quanta);
  passes = m.counts.passes;
  deeps = m.counts.deeps;
  charge = charge m;
  stopped = m.stopped;
}

abbrev pub held_by : ℕ → Machine → Option (List Row)
held_by seat m = slice_index_or m.holds seat None
