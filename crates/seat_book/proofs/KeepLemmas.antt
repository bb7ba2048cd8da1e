-- What the calls of the book leave to the other seats.
use Rattle.std.proofs.Common.{◌≡◌, ◌≢◌, ℕ, zero, suc, ◌+◌, ◌-◌, ◌≤◌, ◌⊎◌, inl, inr, Bool, cond, true, false, List, [], ◌∷◌, ◌++◌, length, sum, Option, Some, refl, ap, sym, ◌∙◌, arith, append_assoc, length-append}
use Rattle.std.proofs.lemmas.Grind.{common_steps}
use Rattle.std.proofs.lemmas.Bool.Decides.{nat_tests}
use Rattle.std.specs.Prelude.{nat_lt, is_some, slice_index, slice_index_or, slice_set}
use Rattle.std.specs.List.{AllByRecursion}
use Rattle.std.proofs.lemmas.List.{get_or-set_other, append-nil}
use Rattle.blsm_model.specs.Format.{callers}
use Rattle.blsm_model.specs.Facts.{Follows, Notes}
use Rattle.blsm_model.specs.Book.{rows_given}
use Rattle.blsm_model.specs.declared.op.Op.{Op}
use Rattle.blsm_model.specs.declared.op.Op.TheVariants.{Work}
use Rattle.blsm_model.specs.declared.history.Why.{Why}
use Rattle.blsm_model.specs.declared.history.Reply.{Reply}
use Rattle.blsm_model.specs.declared.history.Entry.{Entry}
use Rattle.tree_machine.specs.Machine.{WorkSoFar, Counts, Turned, no_work, is_worked, is_caller, all_true, turn_more}
use Rattle.tree_machine.specs.Steps.{work_reply}
use Rattle.tree_machine.proofs.FoldLemmas.{both_hold, both}
use Rattle.seat_book.specs.State.{BookState, work_in, noted_in, stopped_in, peaked_in, pass_counted_in, deep_counted_in, quantum_counted_in, paid_in, with_ended, turned_in, helped_in, ended_in, left_in}
use Rattle.seat_book.specs.Seats.{turns_in, LeavesSeat, Gains, KeepsSeats, Beside, facts_in}
use Rattle.seat_book.specs.Laws.{CallsKeep}
use Rattle.seat_book.proofs.PlaceLemmas.{write_stays}
use Rattle.seat_book.proofs.Terms.{LeavesBeside}

-- ---- entries

gains_none : (seat : ℕ) (h : List Entry) → Gains seat 0 h h
gains_none seat h = ([], omega arith, tt, sym (append-nil h))

gains_one : (seat : ℕ) (h : List Entry) (e : Entry) → e.seat ≡ seat → Gains seat 1 h (h ++ e ∷ [])
gains_one seat h e is = (e ∷ [], omega arith, (is, tt), refl)

all_both : (seat : ℕ) (es fs : List Entry) → AllByRecursion (λ e. e.seat ≡ seat) es → AllByRecursion (λ e. e.seat ≡ seat) fs → AllByRecursion (λ e. e.seat ≡ seat) (es ++ fs)
all_both seat [] fs first second = second
all_both seat (e ∷ es) fs first second = (first.0, all_both seat es fs first.1 second)

gains_both : (seat m n : ℕ) (h k l : List Entry) → Gains seat m h k → Gains seat n k l → Gains seat (m + n) h l
gains_both seat m n h k l first second = (
  first.0 ++ second.0,
  omega (arith, first.1, second.1, length-append first.0 second.0),
  all_both seat first.0 second.0 first.2 second.2,
  second.3 ∙ ap (λ xs. xs ++ second.0) first.3 ∙ append_assoc h first.0 second.0,
)

gains_notes : (seat : ℕ) (h k : List Entry) → Gains seat 1 h k → Notes seat h k
gains_notes seat h k gains = by gains.0 gains.1 gains.2 gains.3
  where
    by : (es : List Entry) → length es ≤ 1 → AllByRecursion (λ e. e.seat ≡ seat) es → k ≡ h ++ es → Notes seat h k
    by [] few all is = inl (is ∙ append-nil h)
    by (e ∷ []) few all is = inr (e, all.0, is)
    by (e ∷ f ∷ es) few all is = absurd (omega (arith, few))

-- ---- seats

seat_itself : (other : ℕ) (b : BookState) → LeavesSeat other b b
seat_itself other b = record { turns = refl; worked = refl; quanta = refl; entries_room = refl; rows_room = refl; left = refl }

seat_both : (other : ℕ) (b c d : BookState) → LeavesSeat other b c → LeavesSeat other c d → LeavesSeat other b d
seat_both other b c d first second = record {
  turns = second.turns ∙ first.turns;
  worked = second.worked ∙ first.worked;
  quanta = second.quanta ∙ first.quanta;
  entries_room = second.entries_room ∙ first.entries_room;
  rows_room = second.rows_room ∙ first.rows_room;
  left = second.left ∙ first.left;
}

-- ---- several calls

-- no call keeps all, one after another keeps both, and less is kept within more
pub keeps_itself : (seat : ℕ) (b : BookState) → KeepsSeats seat 0 0 b b
keeps_itself seat b = record {
  history = gains_none seat b.book.entries;
  kept = omega arith;
  counted = omega arith;
  its = omega arith;
  peak = omega arith;
  closed = λ is. is;
  stopped = λ is. is;
  charge = refl;
  faults = refl;
  writes = λ any is. is;
  others = λ other apart. seat_itself other b;
}

pub keeps_both : (seat entries more_entries quanta more_quanta : ℕ) (b c d : BookState) → KeepsSeats seat entries quanta b c → KeepsSeats seat more_entries more_quanta c d
    → KeepsSeats seat (entries + more_entries) (quanta + more_quanta) b d
keeps_both seat entries more_entries quanta more_quanta b c d first second = record {
  history = gains_both seat entries more_entries b.book.entries c.book.entries d.book.entries first.history second.history;
  kept = omega (arith, first.kept, second.kept);
  counted = omega (arith, first.counted, second.counted);
  its = omega (arith, first.its, second.its);
  peak = omega (arith, first.peak, second.peak);
  closed = λ is. second.closed (first.closed is);
  stopped = λ is. second.stopped (first.stopped is);
  charge = second.charge ∙ first.charge;
  faults = second.faults ∙ first.faults;
  writes = λ any is. second.writes any (first.writes any is);
  others = λ other apart. seat_both other b c d (first.others other apart) (second.others other apart);
}

pub keeps_less : (seat entries more_entries quanta more_quanta : ℕ) (b c : BookState) → entries ≤ more_entries → quanta ≤ more_quanta → KeepsSeats seat entries quanta b c
    → KeepsSeats seat more_entries more_quanta b c
keeps_less seat entries more_entries quanta more_quanta b c fewer less kept = record {
  history = (kept.history.0, omega (arith, kept.history.1, fewer), kept.history.2, kept.history.3);
  kept = kept.kept;
  counted = omega (arith, kept.counted, less);
  its = omega (arith, kept.its, less);
  peak = kept.peak;
  closed = kept.closed;
  stopped = kept.stopped;
  charge = kept.charge;
  faults = kept.faults;
  writes = kept.writes;
  others = kept.others;
}

-- ---- each call

pub note_keeps : (seat : ℕ) (op : Op) (reply : Reply) (b : BookState) → KeepsSeats seat 1 0 b (noted_in seat op reply b)
note_keeps seat op reply b = record {
  history = gains_one seat b.book.entries (record { seat = seat; op = op; reply = reply }) refl;
  kept = omega arith;
  counted = omega arith;
  its = omega arith;
  peak = omega arith;
  closed = λ is. is;
  stopped = λ is. is;
  charge = refl;
  faults = refl;
  writes = λ any is. write_stays any b.book.entries (record { seat = seat; op = op; reply = reply }) is;
  others = λ other apart. record {
    turns = refl;
    worked = refl;
    quanta = refl;
    entries_room = get_or-set_other b.book.room.entries seat other (slice_index b.book.room.entries seat - 1) 0 apart;
    rows_room = get_or-set_other b.book.room.rows seat other (slice_index b.book.room.rows seat - length (rows_given reply)) 0 apart;
    left = refl;
  };
}

-- the number of a seat rises by so many at most, and those of the others stay
record Rises (seat more : ℕ) (xs ys : List ℕ) : Type 0 where
  kept : sum xs ≤ sum ys
  counted : sum ys ≤ sum xs + more
  its : slice_index ys seat ≤ slice_index xs seat + more
  others : (other : ℕ) → other ≢ seat → slice_index ys other ≡ slice_index xs other

still : (seat : ℕ) (xs : List ℕ) → Rises seat 0 xs xs
still seat xs = record { kept = omega arith; counted = omega arith; its = omega arith; others = λ other apart. refl }

-- one number of a list is raised by one
raised : (seat : ℕ) (xs : List ℕ) → Rises seat 1 xs (slice_set xs seat (slice_index xs seat + 1))
raised seat xs = record {
  kept = (sums (nat_lt seat (length xs)) refl).0;
  counted = (sums (nat_lt seat (length xs)) refl).1;
  its = once xs seat;
  others = λ other apart. get_or-set_other xs seat other (slice_index xs seat + 1) 0 apart;
}
  where
    sums : (b : Bool) → nat_lt seat (length xs) ≡ b → (sum xs ≤ sum (slice_set xs seat (slice_index xs seat + 1))) × (sum (slice_set xs seat (slice_index xs seat + 1)) ≤ sum xs + 1)
    sums b h1 = grind (arith, common_steps, nat_tests)

    once : (ys : List ℕ) (i : ℕ) → slice_index (slice_set ys i (slice_index ys i + 1)) i ≤ slice_index ys i + 1
    once [] i = omega arith
    once (y ∷ ys) zero = omega arith
    once (y ∷ ys) (suc i) = once ys i

-- the quanta, the counts and the stop alone change
counts_keep : (seat more : ℕ) (b : BookState) (quanta counted : List ℕ) (counts : Counts) (stopped : Option Why) → Rises seat more b.seats.quanta counted
    → b.counts.peak ≤ counts.peak → counts.charge ≡ b.counts.charge → counts.faults ≡ b.counts.faults → (is_some b.stopped ≡ true → is_some stopped ≡ true)
    → KeepsSeats seat 0 more b (record { book = record b.book { quanta = quanta }; seats = record b.seats { quanta = counted }; counts = counts; stopped = stopped })
counts_keep seat more b quanta counted counts stopped rises peak charge faults stays = record {
  history = gains_none seat b.book.entries;
  kept = rises.kept;
  counted = rises.counted;
  its = rises.its;
  peak = peak;
  closed = λ is. is;
  stopped = stays;
  charge = charge;
  faults = faults;
  writes = λ any is. is;
  others = λ other apart. record { turns = refl; worked = refl; quanta = rises.others other apart; entries_room = refl; rows_room = refl; left = refl };
}

pub stop_keeps : (seat : ℕ) (why : Why) (b : BookState) → KeepsSeats seat 0 0 b (stopped_in why b)
stop_keeps seat why b = counts_keep seat 0 b b.book.quanta b.seats.quanta b.counts (Some why) (still seat b.seats.quanta) (omega arith) refl refl (λ is. refl)

pub peak_keeps : (seat weight : ℕ) (b : BookState) → KeepsSeats seat 0 0 b (peaked_in weight b)
peak_keeps seat weight b =
    counts_keep seat 0 b b.book.quanta b.seats.quanta (peaked_in weight b).counts b.stopped (still seat b.seats.quanta) (omega arith) refl refl (λ is. is)

pub pass_keeps : (seat : ℕ) (b : BookState) → KeepsSeats seat 0 0 b (pass_counted_in b)
pass_keeps seat b = counts_keep seat 0 b b.book.quanta b.seats.quanta (pass_counted_in b).counts b.stopped (still seat b.seats.quanta) (omega arith) refl refl (λ is. is)

pub deep_keeps : (seat : ℕ) (b : BookState) → KeepsSeats seat 0 0 b (deep_counted_in b)
deep_keeps seat b = counts_keep seat 0 b b.book.quanta b.seats.quanta (deep_counted_in b).counts b.stopped (still seat b.seats.quanta) (omega arith) refl refl (λ is. is)

pub quantum_keeps : (seat : ℕ) (b : BookState) → KeepsSeats seat 0 1 b (quantum_counted_in seat b)
quantum_keeps seat b =
    counts_keep seat 1 b b.book.quanta (quantum_counted_in seat b).seats.quanta b.counts b.stopped (raised seat b.seats.quanta) (omega arith) refl refl (λ is. is)

pub payment_keeps : (seat : ℕ) (b : BookState) → KeepsSeats seat 0 0 b (paid_in seat b)
payment_keeps seat b = counts_keep seat 0 b (paid_in seat b).book.quanta b.seats.quanta b.counts b.stopped (still seat b.seats.quanta) (omega arith) refl refl (λ is. is)

-- ---- turns

-- another work of the seat
worked_keeps : (seat : ℕ) (work : WorkSoFar) (b : BookState) → KeepsSeats seat 0 0 b (record b { seats = record b.seats { work = slice_set b.seats.work seat work } })
worked_keeps seat work b = record {
  history = gains_none seat b.book.entries;
  kept = omega arith;
  counted = omega arith;
  its = omega arith;
  peak = omega arith;
  closed = λ is. is;
  stopped = λ is. is;
  charge = refl;
  faults = refl;
  writes = λ any is. is;
  others = λ other apart.
      let same : slice_index_or (slice_set b.seats.work seat work) other no_work ≡ work_in other b = get_or-set_other b.seats.work seat other work no_work apart in
      record {
        turns = ap (λ (w : WorkSoFar). cond (is_caller other) w.turns (slice_index b.seats.turns (other - callers))) same;
        worked = ap (λ (w : WorkSoFar). is_worked w.last) same;
        quanta = refl;
        entries_room = refl;
        rows_room = refl;
        left = refl;
      };
}

pub turn_keeps : (seat : ℕ) (ended : Turned) (quanta : ℕ) (b : BookState) → KeepsSeats seat 0 0 b (turned_in seat ended quanta b)
turn_keeps seat ended quanta b = worked_keeps seat (with_ended (work_in seat b) ended quanta) b

-- other turns of a worker
helped_turns : (seat other turns : ℕ) (b : BookState) → callers ≤ seat → other ≢ seat
    → cond (is_caller other) (work_in other b).turns (slice_index (slice_set b.seats.turns (seat - callers) turns) (other - callers)) ≡ turns_in other b
helped_turns seat other turns b worker apart = grind (arith, common_steps, nat_tests)

pub worker_keeps : (seat : ℕ) (b : BookState) → callers ≤ seat → KeepsSeats seat 0 0 b (helped_in seat b)
worker_keeps seat b worker = record {
  history = gains_none seat b.book.entries;
  kept = omega arith;
  counted = omega arith;
  its = omega arith;
  peak = omega arith;
  closed = λ is. is;
  stopped = λ is. is;
  charge = refl;
  faults = refl;
  writes = λ any is. is;
  others = λ other apart. record {
    turns = helped_turns seat other (turn_more (slice_index b.seats.turns (seat - callers))) b worker apart;
    worked = refl;
    quanta = refl;
    entries_room = refl;
    rows_room = refl;
    left = refl;
  };
}

pub ending_keeps : (seat n : ℕ) (b : BookState) → KeepsSeats seat 1 0 b (ended_in seat n b)
ending_keeps seat n b =
    let noted = noted_in seat (Work n) (work_reply (work_in seat b) b.stopped) b in
    let counted = (ended_in seat n b).book.quanta in
    let more : BookState = record noted { book = record noted.book { quanta = counted } } in
    keeps_both seat 1 0 0 0 b noted (ended_in seat n b) (note_keeps seat (Work n) (work_reply (work_in seat b) b.stopped) b)
    (keeps_both seat 0 0 0 0 noted more (ended_in seat n b) (counts_keep seat 0 noted counted b.seats.quanta b.counts b.stopped (still seat b.seats.quanta) (omega arith) refl refl (λ is. is)) (worked_keeps seat no_work more))

-- ---- callers that leave

still_all : (bs : List Bool) (seat : ℕ) → all_true bs ≡ true → all_true (slice_set bs seat true) ≡ true
still_all [] seat all = all
still_all (b ∷ bs) zero all = (both_hold b (all_true bs) all).1
still_all (b ∷ bs) (suc seat) all =
    let parts = both_hold b (all_true bs) all in both b (all_true (slice_set bs seat true)) parts.0 (still_all bs seat parts.1)

pub leave_keeps : (seat : ℕ) (b : BookState) → KeepsSeats seat 0 0 b (left_in seat b)
leave_keeps seat b = record {
  history = gains_none seat b.book.entries;
  kept = omega arith;
  counted = omega arith;
  its = omega arith;
  peak = omega arith;
  closed = λ is. still_all b.seats.left seat is;
  stopped = λ is. is;
  charge = refl;
  faults = refl;
  writes = λ any is. is;
  others = λ other apart. record {
    turns = refl;
    worked = refl;
    quanta = refl;
    entries_room = refl;
    rows_room = refl;
    left = get_or-set_other b.seats.left seat other true false apart;
  };
}

pub calls_keep : (seat : ℕ) (b : BookState) → CallsKeep seat b
calls_keep seat b = record {
  note = λ op reply. note_keeps seat op reply b;
  stop = λ why. stop_keeps seat why b;
  peak = λ weight. peak_keeps seat weight b;
  pass = pass_keeps seat b;
  deep = deep_keeps seat b;
  quantum = quantum_keeps seat b;
  payment = payment_keeps seat b;
  turn = λ ended quanta. turn_keeps seat ended quanta b;
  worker = λ worker. worker_keeps seat b worker;
  ending = λ n. ending_keeps seat n b;
  leave = leave_keeps seat b;
}

-- ---- what a lock allows

same_or_more : (m n : ℕ) → m ≤ n → n ≤ m + 1 → (n ≡ m) ⊎ (n ≡ m + 1)
same_or_more m n le more = grind (arith, le, more)

-- What is done in one hold of a lock, with one entry and one quantum at most, is what a lock allows, where the rest of the tree doesn't raise
-- what the others owe.
pub holds_follow : (seat : ℕ) (b c : BookState) (old new : Beside) → KeepsSeats seat 1 1 b c → LeavesBeside seat old new → Follows seat (facts_in old b) (facts_in new c)
holds_follow seat b c old new kept beside = record {
  history = gains_notes seat b.book.entries c.book.entries kept.history;
  quanta = same_or_more (sum b.seats.quanta) (sum c.seats.quanta) kept.kept kept.counted;
  its = kept.its;
  peak = kept.peak;
  closed = kept.closed;
  stopped = kept.stopped;
  others = λ other apart. record {
    debt1 = beside.first other apart;
    debt2 = beside.second other apart;
    turns = (kept.others other apart).turns;
    worked = (kept.others other apart).worked;
    quanta = (kept.others other apart).quanta;
    room = λ i. ((kept.others other apart).entries_room i, (kept.others other apart).rows_room i);
    left = (kept.others other apart).left;
  };
}
