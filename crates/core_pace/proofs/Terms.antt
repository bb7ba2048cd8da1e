-- What only lemmas say: no clause names these.
use Rattle.std.specs.Prelude.{◌≡◌, ◌↔◌, ℕ, ◌-◌, Bool, IsTrue, ◌&&◌, ◌<◌, is_some, ◌+◌, ◌≤◌, true, false, None, length}
use Rattle.record_delta.specs.Entries.{Entries, entries_weight}
use Rattle.pacing.specs.Ends.{AreEnds}
use Rattle.pacing.specs.Pace.{Pace, Written, rotations, Quantum, pass_done, deep_done, pass_over, deep_over, with_forgiven}
use Rattle.tree_log.specs.Log.{LogState, listed_for, end_of_a, end_of_b, with_entries}
use Rattle.tree_runs.specs.Runs.{made_by_pass, made_by_deep, left_for_pass, left_for_deep, Fits}
use Rattle.core_moves.specs.declared.held.Held.{Held}
use Rattle.core_moves.specs.Held.{IsOne, IsPassDone, IsDeepDone, is_pass_over, is_deep_over, goes_ahead}
use Rattle.core_moves.specs.Moves.{SwapsDeepIn, SwapsPassIn, RotatesIn, with_pass_begun, TakesOfPass, TakesOfDeep, WritesIn, with_debts_forgiven, SettlesDeep, SettlesPass, begun_in, with_book}
use Rattle.core_pace.specs.Pacing.{table_left, HasPace, IsRunBook, most_opened}
use Rattle.gear_sched.specs.declared.Plan.TheVariants.{Snow, Deep}
use Rattle.pacing.specs.Steps.{plan_of}
use Rattle.blsm_model.specs.Format.{callers}
use Rattle.blsm_model.specs.Legal.{is_del}
use Rattle.blsm_model.specs.declared.op.Op.{Op}
use Rattle.blsm_model.specs.declared.history.Entry.{Entry}
use Rattle.blsm_model.specs.declared.history.Reply.TheVariants.{Done}
use Rattle.gear_sched.specs.Gears.{Owes, first_debt, second_debt}
use Rattle.seat_book.specs.State.{noted_in, paid_in, BookState, turned_in, helped_in}
use Rattle.core_pace.specs.Events.{plan_in, TakesByPlan}
use Rattle.blsm_model.specs.Lanes.{AreRoles}
use Rattle.core_moves.specs.Needs.{AreSmall, WriteFits}
use Rattle.paced_tree.specs.Booking.{quanta_of_move}
use Rattle.tree_machine.specs.Machine.{seats}
use Rattle.core_pace.specs.Turns.{TurnsBy, end_of_move, move_in}

pub record TestsAgree (held : Held) (pace : Pace) : Type 0 where
  pub pass_done : IsPassDone held ↔ IsTrue (pace.gears.pass && pass_done pace)
  pub deep_done : IsDeepDone held ↔ IsTrue (pace.gears.deep && deep_done pace)
  pub pass_over : is_pass_over held ≡ pass_over pace
  pub deep_over : is_deep_over held ≡ deep_over pace

-- what the quantum of the pass, or of the deep merge, was, which took so much
abbrev pub snow_quantum : ℕ → Held → Held → Quantum
snow_quantum n old new = record {
  took = n;
  of_table = table_left old.runs.pass old.log.a.entries - table_left new.runs.pass old.log.a.entries;
  made = (made_by_pass new.runs.pass).weight;
}

abbrev pub deep_quantum : ℕ → Held → Quantum
deep_quantum n new = record { took = n; of_table = 0; made = (made_by_deep new.runs.deep).weight }

-- What the pacing has of entries that go to this table. What it weighed on the way only the lists tell.
abbrev pub entries_in : Entries → Op → Bool → LogState → Written
entries_in more op ahead log = record {
  weight = entries_weight more;
  writes = length more;
  is_del = is_del op;
  ahead = ahead;
  after = listed_for ahead log;
  most = listed_for ahead log;
}

abbrev pub written_in : Entries → Op → Held → Held → Written
written_in more op old new = entries_in more op (goes_ahead more old) new.log

-- and of those that would go there
abbrev pub entries_to : Bool → Entries → Op → Held → Written
entries_to ahead more op held = entries_in more op ahead (with_entries ahead more held.log)

pub record MovesKeepOne (old new : Held) : Type 0 where
  pub deep_swap : SwapsDeepIn old new → IsOne new
  pub pass_swap : SwapsPassIn old new → IsOne new
  pub rotation : old.runs.pass ≡ None → RotatesIn old new → IsOne new
  pub begin : old.runs.pass ≡ None → IsOne (with_pass_begun old)
  pub forgiving : (seat : ℕ) → IsOne (with_debts_forgiven seat old)
  pub snow : (seat n : ℕ) → TakesOfPass seat n old new → IsOne new
  pub deep : (seat n : ℕ) → TakesOfDeep seat n old new → IsOne new
  pub write : (seat : ℕ) (more : Entries) → WritesIn seat more old new → IsOne new

-- The merge that a payment goes to, once what may be forgiven is, runs and isn't done.
pub record PlansRun (held : Held) (pace : Pace) (seat : ℕ) : Type 0 where
  pub pass : plan_of (with_forgiven pace seat) seat ≡ Snow → IsTrue (is_some held.runs.pass) × (0 < left_for_pass held.runs.pass held.log.a.entries)
  pub deep : plan_of (with_forgiven pace seat) seat ≡ Deep → IsTrue (is_some held.runs.deep) × (0 < left_for_deep held.runs.deep)

abbrev pub done_entry : ℕ → Op → Entry
done_entry seat op = record { seat = seat; op = op; reply = Done }

-- The swaps that are due, a begin where it is due, the writes, and then the command's entry.
pub record Admits (seat : ℕ) (op : Op) (more : Entries) (old settled ready written new : Held) : Type 0 where
  pub deep : SettlesDeep old settled
  pub pass : SettlesPass settled ready
  pub write : WritesIn seat more (begun_in (entries_weight more) ready) written
  pub entry : new ≡ with_book (noted_in seat op Done written.book) written

-- the numbers, the geometry and what is told, also where a pass has begun whose write is still to come
pub record IsBetween (held : Held) (pace : Pace) : Type 0 where
  pub numbers : HasPace held pace
  pub told : IsRunBook held.book pace
  pub one : IsOne held
  pub ends : AreEnds pace (end_of_a held.log) (end_of_b held.log)
  pub version : held.runs.catalogue.version ≤ most_opened + (pace.passes + pace.deeps + rotations pace)

pub record MayPayIn (seat : ℕ) (held : Held) : Type 0 where
  pub caller : seat < callers
  pub owes : Owes held.gears seat

-- It is counted for the seat, and for the entry of its last write.
pub record Pays (seat n : ℕ) (old taken new : Held) : Type 0 where
  pub takes : TakesByPlan (plan_in seat old) seat n (with_debts_forgiven seat old) taken
  pub counted : new ≡ with_book (paid_in seat taken.book) taken

-- What each move that calls a disk requires beside merges that are in order there: the pages hold them, and all numbers fit.
pub record CallsFit (held : Held) : Type 0 where
  pub fits : Fits held.runs held.log.a.entries
  pub small : AreSmall held
  pub lanes : AreRoles held.runs.catalogue.lanes

-- The swaps and the begin leave the history, what the seats did, and the stop.
pub record KeepsBook (old new : BookState) : Type 0 where
  pub book : new.book ≡ old.book
  pub seats : new.seats ≡ old.seats
  pub stopped : new.stopped ≡ old.stopped

-- After them the seat owes nothing still, and what it writes fits.
pub record IsWritable (seat : ℕ) (more : Entries) (held : Held) : Type 0 where
  pub settled : first_debt held.gears seat + second_debt held.gears seat ≡ 0
  pub fits : WriteFits more held

pub record MayWorkIn (seat : ℕ) (held : Held) : Type 0 where
  pub caller : seat < callers
  pub settled : first_debt held.gears seat + second_debt held.gears seat ≡ 0
  pub works : length held.book.seats.work ≡ callers

-- Its move, and then the turn counts for the work.
pub record Works (seat n : ℕ) (old moved new : Held) : Type 0 where
  pub moves : TurnsBy (move_in false old) seat n old moved
  pub counted : new ≡ with_book (turned_in seat (end_of_move (move_in false old)) (quanta_of_move (move_in false old)) moved.book) moved

pub record MayHelpIn (seat : ℕ) : Type 0 where
  pub worker : callers ≤ seat
  pub there : seat < seats

-- Its move, and then the turn counts for the worker.
pub record Helps (seat n : ℕ) (old moved new : Held) : Type 0 where
  pub moves : TurnsBy (move_in true old) seat n old moved
  pub counted : new ≡ with_book (helped_in seat moved.book) moved
