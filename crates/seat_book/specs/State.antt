-- The machine's book: what its seats did, the history, the counts and the stop. Each word here is the machine's own, on these four
-- parts alone.
use Rattle.std.specs.Prelude.{ℕ, ◌+◌, ◌-◌, Bool, true, ◌&&◌, length, take, drop, sum, max, Option, Some, None, slice_index, slice_index_or, slice_set, if◌then◌else◌, nat_lt, ◌==◌}
use Rattle.blsm_model.specs.Format.{callers, most_turns}
use Rattle.blsm_model.specs.declared.op.Op.{Op}
use Rattle.blsm_model.specs.declared.op.Op.TheVariants.{Work}
use Rattle.blsm_model.specs.declared.history.Why.{Why}
use Rattle.blsm_model.specs.declared.history.Reply.{Reply}
use Rattle.blsm_model.specs.declared.history.Totals.{Totals}
use Rattle.blsm_model.specs.Book.{Book, noted, counted_up}
use Rattle.tree_machine.specs.Machine.{Machine, Seats, Counts, WorkSoFar, Turned, no_work, fresh_seats, all_true, is_caller, turn_more}
use Rattle.tree_machine.specs.Moves.{count_quantum}
use Rattle.tree_machine.specs.Steps.{is_idle, last_write, work_reply}
use Rattle.tree_machine.specs.Plays.{has_room, is_finished}

pub record BookState : Type 0 where
  pub book : Book
  pub seats : Seats
  pub counts : Counts
  pub stopped : Option Why

-- the book of the machine
abbrev pub book_of : Machine → BookState
book_of m = record { book = m.book; seats = m.seats; counts = m.counts; stopped = m.stopped }

-- after the opening: no seat did anything
abbrev pub opened_in : Book → ℕ → ℕ → BookState
opened_in book charge faults = record {
  book = book;
  seats = fresh_seats;
  counts = record { charge = charge; faults = faults; peak = 0; passes = 0; deeps = 0 };
  stopped = None;
}

-- ---- what is read off it

abbrev pub work_in : ℕ → BookState → WorkSoFar
work_in seat b = slice_index_or b.seats.work seat no_work

-- all callers left
abbrev pub is_closed_in : BookState → Bool
is_closed_in b = all_true b.seats.left

-- the seat is a caller's, has room for an entry that gives so many rows, and has no open work
abbrev pub may_note_in : ℕ → ℕ → BookState → Bool
may_note_in seat rows b = is_caller seat && has_room b.book.room seat rows && ((work_in seat b).turns == 0)

-- a caller may do one turn of work more
abbrev pub may_turn_in : ℕ → BookState → Bool
may_turn_in seat b = is_caller seat && nat_lt (work_in seat b).turns most_turns

-- a caller's work of n turns is finished, and its entry has room
abbrev pub may_end_in : ℕ → ℕ → BookState → Bool
may_end_in seat n b = is_caller seat && has_room b.book.room seat 0 && is_finished n (work_in seat b)

-- the numbers of the run so far, where the memory table may weigh so much and the charge is so much
abbrev pub totals_in : ℕ → ℕ → BookState → Totals
totals_in high charge b = record {
  peak = b.counts.peak;
  high = high;
  callers = sum (take callers b.seats.quanta);
  workers = sum (drop callers b.seats.quanta);
  passes = b.counts.passes;
  deeps = b.counts.deeps;
  charge = charge;
  stopped = b.stopped;
}

-- ---- what is done to it

-- an entry is noted
abbrev pub noted_in : ℕ → Op → Reply → BookState → BookState
noted_in seat op reply b = record b { book = noted b.book (record { seat = seat; op = op; reply = reply }) }

-- the tree stops for this cause
abbrev pub stopped_in : Why → BookState → BookState
stopped_in why b = record b { stopped = Some why }

-- the memory table weighs so much at the end of a step
abbrev pub peaked_in : ℕ → BookState → BookState
peaked_in weight b = record b { counts = record b.counts { peak = max b.counts.peak weight } }

-- a pass, or a deep merge, is swapped in
abbrev pub pass_counted_in : BookState → BookState
pass_counted_in b = record b { counts = record b.counts { passes = b.counts.passes + 1 } }

abbrev pub deep_counted_in : BookState → BookState
deep_counted_in b = record b { counts = record b.counts { deeps = b.counts.deeps + 1 } }

-- one quantum more for the seat
abbrev pub quantum_counted_in : ℕ → BookState → BookState
quantum_counted_in seat b = record b { seats = count_quantum seat b.seats }

-- one quantum more for the entry of the seat's last write that was done
abbrev pub paid_in : ℕ → BookState → BookState
paid_in seat b = record b { book = counted_up b.book (last_write seat b.book.entries) 1 }

-- a work with a turn more, which ended so and took so many quanta
abbrev pub with_ended : WorkSoFar → Turned → ℕ → WorkSoFar
with_ended work ended quanta = record {
  turns = work.turns + 1;
  worked = if is_idle ended then work.worked else work.worked + 1;
  quanta = work.quanta + quanta;
  last = ended;
}

-- a turn of a caller's work counts
abbrev pub turned_in : ℕ → Turned → ℕ → BookState → BookState
turned_in seat ended quanta b = record b { seats = record b.seats { work = slice_set b.seats.work seat (with_ended (work_in seat b) ended quanta) } }

-- a turn of a worker counts, modulo 2 ^ 64
abbrev pub helped_in : ℕ → BookState → BookState
helped_in seat b =
    record b { seats = record b.seats { turns = slice_set b.seats.turns (seat - callers) (turn_more (slice_index b.seats.turns (seat - callers))) } }

-- A caller's work of n turns ends: its entry has the quanta of its turns, and the work is empty again.
abbrev pub ended_in : ℕ → ℕ → BookState → BookState
ended_in seat n b =
    let work = work_in seat b in
    let noted = noted_in seat (Work n) (work_reply work b.stopped) b in
    record noted {
      book = counted_up noted.book (length b.book.entries) work.quanta;
      seats = record b.seats { work = slice_set b.seats.work seat no_work };
    }

-- a caller leaves
abbrev pub left_in : ℕ → BookState → BookState
left_in seat b = record b { seats = record b.seats { left = slice_set b.seats.left seat true } }
