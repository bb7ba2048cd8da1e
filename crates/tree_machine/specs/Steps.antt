-- The steps of the tree. Each is one function of the state, the seat, what is asked, and the step's outcome, which says
-- whether a call of the disk failed and where, whether a page was found damaged, or whether memory was refused.
use Rattle.std.specs.Prelude.{ℕ, ◌+◌, ◌-◌, Bool, true, false, ◌&&◌, ◌||◌, not, List, [], ◌∷◌, length, take, drop, Option, Some, None, option_map, unwrap_or, slice_index, slice_set, if◌then◌else◌, nat_lt, ◌==◌}
use Rattle.std.specs.List.{before_last}
use Rattle.blsm_model.specs.Format.{callers}
use Rattle.blsm_model.specs.declared.key.Key.{Key}
use Rattle.blsm_model.specs.declared.row.Row.{Row}
use Rattle.blsm_model.specs.declared.row.Value.{Value}
use Rattle.blsm_model.specs.declared.op.Write.{Write}
use Rattle.blsm_model.specs.declared.op.Op.{Op}
use Rattle.blsm_model.specs.declared.op.Op.TheVariants.{Hold, Next, Release, Work}
use Rattle.blsm_model.specs.declared.history.Why.{Why}
use Rattle.blsm_model.specs.declared.history.Why.TheVariants as why
use Rattle.blsm_model.specs.declared.history.Reply.{Reply}
use Rattle.blsm_model.specs.declared.history.Reply.TheVariants.{
  Done,
  Kept,
  Held,
  Rows,
  NoHold,
  Did,
  Full,
  NoMemory,
  FaultLost,
  FaultUnsure,
  Fault,
  Damaged,
  Stopped,
}
use Rattle.blsm_model.specs.declared.history.Entry.{Entry}
use Rattle.blsm_model.specs.Book.{counted_up}
use Rattle.blsm_model.specs.Geometry.{charge_limit}
use Rattle.blsm_model.specs.Histories.{is_done, is_met, looked_at, looks_first, writes_of, answer_to_look, answer_to_release}
use Rattle.blsm_model.specs.Legal.{is_write, total_weight, is_del}
use Rattle.record_delta.specs.Entries.{entries_weight}
use Rattle.tree_machine.specs.Lists.{contents_in, memory_weight, rows_in, value_in}
use Rattle.gear_sched.specs.Gears.{forgiven, deep_is_behind, plan_for, first_debt, second_debt}
use Rattle.gear_sched.specs.declared.Plan.{Plan}
use Rattle.gear_sched.specs.declared.Plan.TheVariants.{Snow, Deep, Nothing}
use Rattle.tree_machine.specs.Machine.{Machine, WorkSoFar, Turned, Worked, Idle, Closed, Failed, BadPage, Halted, no_work, in_pass, in_deep, pass_done, deep_done, charge, work_of, held_by, is_closed, turn_more}
use Rattle.tree_machine.specs.Moves.{begin_pass, rotate_alone, swap_deep, swap_pass, pass_quantum, deep_quantum, take_writes, with_peak, note, stop}

-- ---- outcomes and answers

pub data Outcome : Type 0 where
  -- every call of the disk ended well, and memory was had
  Well : Outcome
  -- a call of the disk failed, after this many commits of the step; so many faults the disk counts then
  FailedAfter : (commits faults : ℕ) → Outcome
  -- the lookup failed that a write makes first, before it does anything else; so many faults the disk counts then
  FailedLooking : (faults : ℕ) → Outcome
  -- the page was found damaged
  Broken : (page : ℕ) → Outcome
  NoRoom : Outcome

-- what a step answers: the reply that it notes, how a payment or a turn ended, or nothing
pub data Answer : Type 0 where
  Replied : Reply → Answer
  Paid : Answer
  Settled : Answer
  Turn : Turned → Answer
  Left : Answer

pub record Stepped : Type 0 where
  pub state : Machine
  pub answer : Answer

-- a reply is noted, and is the answer
abbrev pub replied : ℕ → Op → Reply → Machine → Stepped
replied seat op reply m = record { state = note seat op reply m; answer = Replied reply }

-- a stopped tree replies that it is, and does nothing else
abbrev pub unless_stopped : Option Why → ℕ → Op → Machine → Stepped → Stepped
unless_stopped (Some why) seat op m otherwise = replied seat op (Stopped why) m
unless_stopped None seat op m otherwise = otherwise

-- ---- admission

-- what the merges have swapped in that are done: first the deep merge, then the pass
abbrev pub deep_swapped : Machine → Machine
deep_swapped m = if deep_done m then swap_deep m else m

abbrev pub pass_swapped : Machine → Machine
pass_swapped m = if pass_done m then swap_pass m else m

abbrev pub swapped : Machine → Machine
swapped m = pass_swapped (deep_swapped m)

-- how many commits that takes
abbrev pub one_if : Bool → ℕ
one_if true = 1
one_if false = 0

abbrev pub swaps_due : Machine → ℕ
swaps_due m = one_if (deep_done m) + one_if (pass_done m)

-- a pass begins where a write of this weight would bring the spring past its low mark
abbrev pub pass_begun_for : ℕ → Machine → Machine
pass_begun_for weight m = if not (in_pass m) && nat_lt m.gears.sizes.low (m.spring + weight) then begin_pass m else m

-- what stands when the write is appended to the log
abbrev pub ready_for : ℕ → Machine → Machine
ready_for weight m = pass_begun_for weight (swapped m)

-- a command's writes are taken, if it has any
abbrev pub taken_together : ℕ → List Write → Machine → Machine
taken_together seat [] m = m
taken_together seat (w ∷ ws) m = take_writes seat (w ∷ ws) m

-- The write fits. Where the disk failed, it was lost if fewer commits ended well than were due, and else it is unsure.
abbrev pub admit_fitting : Machine → ℕ → Op → ℕ → Outcome → Stepped
admit_fitting m seat op weight (FailedAfter commits faults) =
    if nat_lt commits (swaps_due m)
    then replied seat op FaultLost (stop (why.Faulted faults) (if commits == 0 then m else deep_swapped m))
    else replied seat op FaultUnsure (stop (why.Faulted faults) (ready_for weight m))
admit_fitting m seat op weight _ = replied seat op Done (with_peak (taken_together seat (writes_of op) (ready_for weight m)))

-- the write would bring the charge past its limit
abbrev pub is_full : Machine → Op → Bool
is_full m op = nat_lt (charge_limit m.gears.sizes (is_del op)) (charge m + total_weight (writes_of op))

-- a write whose condition holds is admitted, or refused as full
abbrev pub admit_met : Machine → ℕ → Op → Outcome → Stepped
admit_met m seat op outcome =
    if is_full m op
    then replied seat op (Full (charge m)) m
    else admit_fitting m seat op (total_weight (writes_of op)) outcome

-- What a lookup that comes first tells in place of that: that it failed or met a damaged page, or the value that shows that
-- the condition doesn't hold.
abbrev pub told_by_look : Outcome → Bool → Option Value → Option Reply
told_by_look (FailedLooking faults) met found = Some Fault
told_by_look (Broken page) met found = Some (Damaged page)
told_by_look _ met found = if met then None else Some (Kept found)

-- the reply to a write that looks first, where it is refused by what it looked at
abbrev pub refused_first : Machine → Op → Outcome → Option Reply
refused_first m op outcome =
    if looks_first op then told_by_look outcome (is_met op (value_in m.lists)) (looked_at op (value_in m.lists)) else None

-- one that is refused leaves all but the entry
abbrev pub unless_refused : Option Reply → ℕ → Op → Machine → Stepped → Stepped
unless_refused (Some reply) seat op m otherwise = replied seat op reply m
unless_refused None seat op m otherwise = otherwise

-- a write looks first, if it does, and is then admitted or refused for its size
abbrev pub admit : Machine → ℕ → Op → Outcome → Stepped
admit m seat op outcome =
    unless_stopped m.stopped seat op m (unless_refused (refused_first m op outcome) seat op m (admit_met m seat op outcome))

-- ---- payment

-- the place of the last write of the seat that was done
abbrev pub is_write_by : ℕ → Entry → Bool
is_write_by seat entry = (entry.seat == seat) && is_done entry.reply && is_write entry.op

abbrev pub last_write : ℕ → List Entry → ℕ
last_write seat entries = length (before_last (is_write_by seat) entries)

-- one quantum more for the entry of the seat's last write
abbrev pub count_for_write : ℕ → Machine → Machine
count_for_write seat m = record m { book = counted_up m.book (last_write seat m.book.entries) 1 }

-- the debts that may be forgiven are
abbrev pub forgive : ℕ → Machine → Machine
forgive seat m = record m { gears = forgiven m.gears seat (not (in_pass m) || pass_done m) (not (in_deep m) || deep_done m) }

-- the quantum that was asked for, or a stop
abbrev pub do_pay : Machine → (Machine → Machine) → ℕ → Outcome → Stepped
do_pay m quantum seat (FailedAfter commits faults) = record { state = stop (why.Faulted faults) m; answer = Turn Failed }
do_pay m quantum seat (Broken page) = record { state = stop (why.BadPage page) m; answer = Turn (BadPage page) }
do_pay m quantum seat _ = record { state = count_for_write seat (quantum m); answer = Paid }

-- a quantum of the merge that the seat pays, if it owes anything then
abbrev pub pay_planned : Plan → Machine → ℕ → Outcome → Stepped
pay_planned Snow m seat outcome = do_pay m (pass_quantum seat) seat outcome
pay_planned Deep m seat outcome = do_pay m (deep_quantum seat) seat outcome
pay_planned Nothing m seat outcome = record { state = m; answer = Settled }

abbrev pub pay_forgiven : Machine → ℕ → Outcome → Stepped
pay_forgiven m seat outcome = pay_planned (plan_for (first_debt m.gears seat) (second_debt m.gears seat)) m seat outcome

abbrev pub pay_running : Option Why → Machine → ℕ → Outcome → Stepped
pay_running (Some why) m seat outcome = record { state = m; answer = Turn (Halted why) }
pay_running None m seat outcome = pay_forgiven (forgive seat m) seat outcome

abbrev pub pay : Machine → ℕ → Outcome → Stepped
pay m seat outcome = pay_running m.stopped m seat outcome

-- ---- lookups and holds

-- a lookup may fail, and changes nothing then but for the entry
abbrev pub reply_unless : Outcome → Reply → Reply
reply_unless (FailedAfter commits faults) reply = Fault
reply_unless (Broken page) reply = Damaged page
reply_unless _ reply = reply

abbrev pub look : Machine → ℕ → Op → Outcome → Stepped
look m seat op outcome =
    unless_stopped m.stopped seat op m (replied seat op (reply_unless outcome (answer_to_look op (contents_in m.lists))) m)

-- the seat's rows to come
abbrev pub holding : ℕ → Option (List Row) → Machine → Machine
holding seat rows m = record m { holds = slice_set m.holds seat rows }

abbrev pub do_hold : Machine → ℕ → Key → Key → Outcome → Stepped
do_hold m seat low high NoRoom = replied seat (Hold low high) NoMemory m
do_hold m seat low high _ = replied seat (Hold low high) Held (holding seat (Some (rows_in m.lists low high)) m)

abbrev pub hold : Machine → ℕ → Key → Key → Outcome → Stepped
hold m seat low high outcome = unless_stopped m.stopped seat (Hold low high) m (do_hold m seat low high outcome)

-- without a hold no page is read
abbrev pub do_next : Machine → ℕ → ℕ → Outcome → Option (List Row) → Stepped
do_next m seat n outcome None = replied seat (Next n) NoHold m
do_next m seat n (FailedAfter commits faults) (Some rows) = replied seat (Next n) Fault m
do_next m seat n (Broken page) (Some rows) = replied seat (Next n) (Damaged page) m
do_next m seat n _ (Some rows) = replied seat (Next n) (Rows (take n rows)) (holding seat (Some (drop n rows)) m)

abbrev pub next_rows : Machine → ℕ → ℕ → Outcome → Stepped
next_rows m seat n outcome = unless_stopped m.stopped seat (Next n) m (do_next m seat n outcome (held_by seat m))

abbrev pub drop_hold : Machine → ℕ → Stepped
drop_hold m seat = unless_stopped m.stopped seat Release m (replied seat Release (answer_to_release (held_by seat m)) (holding seat None m))

-- ---- turns

pub data Choice : Type 0 where
  SwapDeep : Choice
  SwapPass : Choice
  DeepQuantum : Choice
  PassQuantum : Choice
  Begin : Choice
  Rotate : Choice
  Rest : Choice

-- which turn it is: the first that applies
abbrev pub choice : Bool → Bool → Machine → Choice
choice may_begin may_rotate m =
    if deep_done m then SwapDeep
    else (if pass_done m then SwapPass
    else (if in_deep m && (not (in_pass m) || deep_is_behind m.gears) then DeepQuantum
    else (if in_pass m then PassQuantum
    else (if may_begin then Begin
    else (if may_rotate then Rotate
    else Rest)))))

abbrev pub chosen : Choice → ℕ → Machine → Machine
chosen SwapDeep seat m = swap_deep m
chosen SwapPass seat m = swap_pass m
chosen DeepQuantum seat m = deep_quantum seat m
chosen PassQuantum seat m = pass_quantum seat m
chosen Begin seat m = begin_pass m
chosen Rotate seat m = rotate_alone m
chosen Rest seat m = m

-- how many quanta a turn takes
abbrev pub quanta_of : Choice → ℕ
quanta_of DeepQuantum = 1
quanta_of PassQuantum = 1
quanta_of _ = 0

abbrev pub ended_as : Choice → Turned
ended_as Rest = Idle
ended_as _ = Worked

-- a turn as it ended
pub record Turning : Type 0 where
  pub state : Machine
  pub ended : Turned
  pub quanta : ℕ

abbrev pub do_turn : Choice → Outcome → ℕ → Machine → Turning
do_turn choice (FailedAfter commits faults) seat m = record { state = stop (why.Faulted faults) m; ended = Failed; quanta = 0 }
do_turn choice (Broken page) seat m = record { state = stop (why.BadPage page) m; ended = BadPage page; quanta = 0 }
do_turn choice _ seat m = record { state = chosen choice seat m; ended = ended_as choice; quanta = quanta_of choice }

-- a turn of work, which may also empty the memory table and C1
abbrev pub work_turning : Option Why → Machine → ℕ → Outcome → Turning
work_turning (Some why) m seat outcome = record { state = m; ended = Halted why; quanta = 0 }
work_turning None m seat outcome =
    do_turn (choice (not (memory_weight m.lists == 0)) (not (entries_weight m.lists.c1 == 0)) m) outcome seat m

-- a turn of a worker, which begins a pass past the low mark only
abbrev pub worker_turning : Option Why → Bool → Machine → ℕ → Outcome → Turning
worker_turning (Some why) closed m seat outcome = record { state = m; ended = Halted why; quanta = 0 }
worker_turning None true m seat outcome = record { state = m; ended = Closed; quanta = 0 }
worker_turning None false m seat outcome = do_turn (choice (nat_lt m.gears.sizes.low m.spring) false m) outcome seat m

-- a turn more of the caller's work
abbrev pub is_idle : Turned → Bool
is_idle Idle = true
is_idle _ = false

abbrev pub with_turn : WorkSoFar → Turning → WorkSoFar
with_turn work turning = record {
  turns = work.turns + 1;
  worked = if is_idle turning.ended then work.worked else work.worked + 1;
  quanta = work.quanta + turning.quanta;
  last = turning.ended;
}

abbrev pub work_noted : ℕ → WorkSoFar → Machine → Machine
work_noted seat work m = record m { seats = record m.seats { work = slice_set m.seats.work seat work } }

abbrev pub work_turn : Machine → ℕ → Outcome → Stepped
work_turn m seat outcome =
    let turning = work_turning m.stopped m seat outcome in
    record { state = work_noted seat (with_turn (work_of seat m) turning) turning.state; answer = Turn turning.ended }

-- each turn of a worker counts, modulo 2 ^ 64
abbrev pub worker_turn : Machine → ℕ → Outcome → Stepped
worker_turn m seat outcome =
    let turning = worker_turning m.stopped (is_closed m) m seat outcome in
    let place = seat - callers in
    let s = turning.state.seats in
    record {
      state = record turning.state { seats = record s { turns = slice_set s.turns place (turn_more (slice_index s.turns place)) } };
      answer = Turn turning.ended;
    }

abbrev pub reply_by : Turned → Reply → Reply
reply_by Failed otherwise = Fault
reply_by (BadPage page) otherwise = Damaged page
reply_by _ otherwise = otherwise

-- a work whose own last turn failed replies that, also after the stop
abbrev pub work_reply : WorkSoFar → Option Why → Reply
work_reply work stopped = reply_by work.last (unwrap_or (option_map (λ why. Stopped why) stopped) (Did work.worked))

-- the entry of a work has the quanta of its turns
abbrev pub work_end : Machine → ℕ → ℕ → Stepped
work_end m seat n =
    let reply = work_reply (work_of seat m) m.stopped in
    let noted = note seat (Work n) reply m in
    record {
      state = work_noted seat no_work (record noted { book = counted_up noted.book (length m.book.entries) (work_of seat m).quanta });
      answer = Replied reply;
    }

abbrev pub leave : Machine → ℕ → Stepped
leave m seat = record { state = record m { seats = record m.seats { left = slice_set m.seats.left seat true } }; answer = Left }
