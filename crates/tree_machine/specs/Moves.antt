-- What a step is made of: a merge begins, takes a quantum, or is swapped in; C1 is rotated; a command's writes are taken.
use Rattle.std.specs.Prelude.{ℕ, ◌+◌, Bool, true, false, ◌&&◌, not, List, [], ◌∷◌, max, Option, Some, None, is_some, slice_index, slice_set, if◌then◌else◌, nat_le}
use Rattle.blsm_model.specs.declared.key.Key.{Key}
use Rattle.blsm_model.specs.declared.op.Op.{Op}
use Rattle.blsm_model.specs.declared.history.Reply.{Reply}
use Rattle.blsm_model.specs.declared.history.Why.{Why}
use Rattle.blsm_model.specs.Geometry.{c1_mark}
use Rattle.blsm_model.specs.Book.{noted}
use Rattle.blsm_model.specs.Legal.{total_weight}
use Rattle.blsm_model.specs.declared.op.Write.{Write}
use Rattle.record_delta.specs.Entries.{Entries, entries_weight, is_above, record_of_key, settled_entries}
use Rattle.record_delta.specs.Several.{entries_of, with_records}
use Rattle.tree_machine.specs.Lists.{Lists, memory_weight}
use Rattle.tree_machine.specs.Merges.{Merge, Taken, begun, quantum_of, moved_on}
use Rattle.gear_sched.specs.Gears.{passing, pass_ended, rotated, deep_ended, entered, took_first, took_second}
use Rattle.tree_machine.specs.Machine.{Machine, Catalogue, Seats, in_pass}

-- ---- merges begin, and are swapped in

-- a pass begins
abbrev pub begin_pass : Machine → Machine
begin_pass m = record m {
  merges = record { pass = Some begun; deep = m.merges.deep };
  gears = passing m.gears (entries_weight m.lists.c1) (memory_weight m.lists);
}

-- C1 becomes C1', and a deep merge begins
abbrev pub rotate : Machine → Machine
rotate m = record m {
  lists = record { b = m.lists.b; a = m.lists.a; c1 = []; c1x = m.lists.c1; c2 = m.lists.c2 };
  merges = record { pass = m.merges.pass; deep = Some begun };
  gears = rotated m.gears (entries_weight m.lists.c1 + entries_weight m.lists.c2);
}

-- the catalogue is committed, with these lanes or with them turned
abbrev pub committed : Catalogue → Catalogue
committed c = record c { version = c.version + 1 }

abbrev pub turned : Catalogue → Catalogue
turned c = record { version = c.version; lane_a = c.lane_b; lane_b = c.lane_spare; lane_spare = c.lane_a }

abbrev pub output_of : Option Merge → Entries
output_of None = []
output_of (Some merge) = merge.output

-- the deep merge's output becomes C2, and C1' is empty
abbrev pub swap_deep : Machine → Machine
swap_deep m = record m {
  lists = record { b = m.lists.b; a = m.lists.a; c1 = m.lists.c1; c1x = []; c2 = output_of m.merges.deep };
  merges = record { pass = m.merges.pass; deep = None };
  gears = deep_ended m.gears;
  catalogue = committed m.catalogue;
  counts = record m.counts { deeps = m.counts.deeps + 1 };
}

-- The pass's output becomes C1, table A is dropped, B becomes A, and the lanes turn.
abbrev pub end_pass : Machine → Machine
end_pass m = record m {
  lists = record { b = []; a = m.lists.b; c1 = output_of m.merges.pass; c1x = m.lists.c1x; c2 = m.lists.c2 };
  merges = record { pass = None; deep = m.merges.deep };
  gears = pass_ended m.gears;
  spring = entries_weight m.lists.b;
  catalogue = turned (committed m.catalogue);
  counts = record m.counts { passes = m.counts.passes + 1 };
}

-- a C1 that weighs as much as its mark is rotated, in the same commit
abbrev pub rotate_if_full : Machine → Machine
rotate_if_full m = if nat_le (c1_mark m.gears.sizes) (entries_weight m.lists.c1) then rotate m else m

abbrev pub swap_pass : Machine → Machine
swap_pass m = rotate_if_full (end_pass m)

-- C1 is rotated by itself, in a commit of its own
abbrev pub rotate_alone : Machine → Machine
rotate_alone m = record (rotate m) { catalogue = committed m.catalogue }

-- ---- quanta

-- one quantum more for the seat
abbrev pub count_quantum : ℕ → Seats → Seats
count_quantum seat s = record s { quanta = slice_set s.quanta seat (slice_index s.quanta seat + 1) }

abbrev pub pass_moved : ℕ → Merge → Taken → Machine → Machine
pass_moved seat pass taken m = record m {
  merges = record { pass = Some (moved_on pass taken.groups taken.groups); deep = m.merges.deep };
  gears = took_first m.gears seat taken.weight;
  seats = count_quantum seat m.seats;
}

abbrev pub deep_moved : ℕ → Merge → Taken → Machine → Machine
deep_moved seat deep taken m = record m {
  merges = record { pass = m.merges.pass; deep = Some (moved_on deep taken.groups (settled_entries taken.groups)) };
  gears = took_second m.gears seat taken.weight;
  seats = count_quantum seat m.seats;
}

abbrev pub pass_quantum_of : Option Merge → ℕ → Machine → Machine
pass_quantum_of None seat m = m
pass_quantum_of (Some pass) seat m = pass_moved seat pass (quantum_of m.gears.sizes.quantum pass m.lists.a m.lists.c1) m

abbrev pub deep_quantum_of : Option Merge → ℕ → Machine → Machine
deep_quantum_of None seat m = m
deep_quantum_of (Some deep) seat m = deep_moved seat deep (quantum_of m.gears.sizes.quantum deep m.lists.c1x m.lists.c2) m

-- the seat does a quantum of the pass: table A and C1, folded
abbrev pub pass_quantum : ℕ → Machine → Machine
pass_quantum seat m = pass_quantum_of m.merges.pass seat m

-- the seat does a quantum of the deep merge: C1' and C2, folded and settled
abbrev pub deep_quantum : ℕ → Machine → Machine
deep_quantum seat m = deep_quantum_of m.merges.deep seat m

-- ---- writes

-- A pass that runs takes a write with it where that is alone, the pass's cursor hasn't come to its key, and table B hasn't the key.
abbrev pub joins_pass : Option Key → Entries → Entries → Bool
joins_pass cursor b (e ∷ []) = is_above cursor e.0 && not (is_some (record_of_key e.0 b))
joins_pass cursor b more = false

-- The writes of a command go to table A: no pass runs, or it takes them with it. Otherwise they all go to table B.
abbrev pub goes_to_a : Option Merge → Entries → Entries → Bool
goes_to_a None b more = true
goes_to_a (Some pass) b more = joins_pass pass.cursor b more

abbrev pub with_writes : Option Merge → Entries → Lists → Lists
with_writes pass more lists =
    if goes_to_a pass lists.b more
    then record { b = lists.b; a = with_records more lists.a; c1 = lists.c1; c1x = lists.c1x; c2 = lists.c2 }
    else record { b = with_records more lists.b; a = lists.a; c1 = lists.c1; c1x = lists.c1x; c2 = lists.c2 }

-- the writes are taken, and the seat owes for all of them
abbrev pub take_writes : ℕ → List Write → Machine → Machine
take_writes seat writes m = record m {
  lists = with_writes m.merges.pass (entries_of writes) m.lists;
  gears = entered m.gears seat (total_weight writes);
  spring = if in_pass m then m.spring else m.spring + total_weight writes;
}

-- the peak of the memory table after it
abbrev pub with_peak : Machine → Machine
with_peak m = record m { counts = record m.counts { peak = max m.counts.peak (memory_weight m.lists) } }

-- ---- the history

-- an entry is noted
abbrev pub note : ℕ → Op → Reply → Machine → Machine
note seat op reply m = record m { book = noted m.book (record { seat = seat; op = op; reply = reply }) }

-- it stops for this cause
abbrev pub stop : Why → Machine → Machine
stop why m = record m { stopped = Some why }
