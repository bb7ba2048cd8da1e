-- What only lemmas say: no clause names these.
use Rattle.std.specs.Prelude.{◌≡◌, ℕ, ◌+◌, ◌-◌, Bool, List, [], ◌∷◌, length, max, ◌++◌, Option, Some, None, if◌then◌else◌, slice_index, slice_set}
use Rattle.blsm_model.specs.Format.{callers}
use Rattle.blsm_model.specs.Legal.{is_del, total_weight}
use Rattle.blsm_model.specs.declared.op.Op.{Op}
use Rattle.blsm_model.specs.declared.op.Write.{Write}
use Rattle.pacing.specs.Pace.{Pace, Quantum, Written}
use Rattle.pacing.specs.Steps.{Move, TakeDeep, TakeSnow, turn_of, is_worker_seat}
use Rattle.record_delta.specs.Entries.{Entries, entries_weight, settled_entries, up_to, with_record}
use Rattle.record_delta.specs.Several.{entries_of}
use Rattle.tree_machine.specs.declared.step.Kind.{Kind}
use Rattle.tree_machine.specs.Lists.{Lists}
use Rattle.tree_machine.specs.Merges.{Merge, cursor_after, quantum_of}
use Rattle.tree_machine.specs.Machine.{Machine, Seats, WorkSoFar}
use Rattle.tree_machine.specs.Moves.{goes_to_a, output_of, with_writes}
use Rattle.tree_machine.specs.Steps.{Answer}
use Rattle.paced_tree.specs.Numbers.{taken_of, HasTaken, pace_of}
use Rattle.paced_tree.specs.Booking.{IsBookOf, quanta_of_move}
use Rattle.paced_tree.specs.Made.{IsMadeBy}

-- ---- the one pace of a machine

-- a pace with the numbers of the machine's lists
abbrev pub with_numbers_of : Machine → Pace → Pace
with_numbers_of m pace = record pace {
  gears = m.gears;
  a = entries_weight m.lists.a;
  taken = taken_of m.merges.pass m.lists.a;
  b = entries_weight m.lists.b;
  c1 = entries_weight m.lists.c1;
  c1x = entries_weight m.lists.c1x;
  c2 = entries_weight m.lists.c2;
  made1 = entries_weight (output_of m.merges.pass);
  made2 = entries_weight (output_of m.merges.deep);
  spring = m.spring;
  opening = m.counts.charge;
  peak = m.counts.peak;
  passes = m.counts.passes;
  deeps = m.counts.deeps;
}

-- It has them, and the book tells its others, so it is the machine's.
pub record IsPace (m : Machine) (pace : Pace) : Type 0 where
  pub numbers : with_numbers_of m pace ≡ pace
  pub booked : IsBookOf m.book m.seats pace
  pub weights : length pace.weights ≡ callers
  pub quanta : length pace.quanta ≡ callers

-- what is told of its numbers beside their laws
pub record IsToldOf (m : Machine) : Type 0 where
  pub booked : IsBookOf m.book m.seats (pace_of m)
  pub started : HasTaken m.merges.pass m.gears.pass_taken

-- A step of this kind with this answer led from one machine to another.
pub record Makes (seat : ℕ) (kind : Kind) (answer : Answer) (m n : Machine) : Type 0 where
  pub made : IsMadeBy seat kind answer (pace_of m) (pace_of n)
  pub told : IsToldOf n

-- ---- quanta

abbrev pub no_quantum : Quantum
no_quantum = record { took = 0; of_table = 0; made = 0 }

-- the quantum that the pass, or the deep merge, takes next
abbrev pub snow_of : Option Merge → Machine → Quantum
snow_of None m = no_quantum
snow_of (Some pass) m =
    let taken = quantum_of m.gears.sizes.quantum pass m.lists.a m.lists.c1 in
    record {
      took = taken.weight;
      of_table = entries_weight (up_to (cursor_after pass.cursor taken.groups) m.lists.a) - entries_weight (up_to pass.cursor m.lists.a);
      made = entries_weight (pass.output ++ taken.groups);
    }

abbrev pub deep_of : Option Merge → Machine → Quantum
deep_of None m = no_quantum
deep_of (Some deep) m =
    let taken = quantum_of m.gears.sizes.quantum deep m.lists.c1x m.lists.c2 in
    record { took = taken.weight; of_table = 0; made = entries_weight (deep.output ++ settled_entries taken.groups) }

abbrev pub quantum_for_move : Move → Machine → Quantum
quantum_for_move TakeSnow m = snow_of m.merges.pass m
quantum_for_move TakeDeep m = deep_of m.merges.deep m
quantum_for_move _ m = no_quantum

-- what the table that writes go to weighs then
abbrev pub weight_after : Bool → Lists → ℕ
weight_after ahead new = if ahead then entries_weight new.a else entries_weight new.b

-- the most that a table weighs after each of these entries, which are put into it one after the other
abbrev pub most_on_way : Entries → Entries → ℕ
most_on_way [] table = entries_weight table
most_on_way (e ∷ more) table = max (entries_weight (with_record e.0 e.1 table)) (most_on_way more (with_record e.0 e.1 table))

-- what the pacing has of a command's writes that are taken here
abbrev pub written_in : Machine → Op → List Write → Written
written_in m op ws = record {
  weight = total_weight ws;
  writes = length ws;
  is_del = is_del op;
  ahead = goes_to_a m.merges.pass m.lists.b (entries_of ws);
  after = weight_after (goes_to_a m.merges.pass m.lists.b (entries_of ws)) (with_writes m.merges.pass (entries_of ws) m.lists);
  most = most_on_way (entries_of ws) (if goes_to_a m.merges.pass m.lists.b (entries_of ws) then m.lists.a else m.lists.b);
}

abbrev pub quanta_of_turn : ℕ → Pace → ℕ
quanta_of_turn seat pace = quanta_of_move (turn_of (is_worker_seat seat) pace)

-- a turn of a caller's work counts for its work so far, and a worker's for the worker
abbrev pub with_turn_of : ℕ → ℕ → WorkSoFar → Seats → Seats
with_turn_of seat more now s = record s { work = slice_set s.work seat now; quanta = slice_set s.quanta seat (slice_index s.quanta seat + more) }
