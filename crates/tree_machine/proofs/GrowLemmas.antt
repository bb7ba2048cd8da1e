-- A step notes one entry of its seat, or none.
use Rattle.std.proofs.Common.{
  ◌≡◌,
  ◌<◌,
  ◌⊎◌,
  ℕ,
  ◌+◌,
  length,
  arith,
  inl,
  inr,
  Bool,
  cond,
  true,
  false,
  ◌&&◌,
  List,
  [],
  ◌∷◌,
  ◌++◌,
  Some,
  None,
  Option,
  refl,
  ap,
  ◌∙◌,
}
use Rattle.std.proofs.lemmas.Grind.{common_steps}
use Rattle.std.proofs.lemmas.Bool.Decides.{nat_tests}
use Rattle.std.specs.Prelude.{◌==◌, nat_lt, nat_le, sum, slice_index}
use Rattle.std.proofs.lemmas.Bool.{ltb-true}
use Rattle.blsm_model.specs.Format.{most_rows}
use Rattle.blsm_model.specs.Legal.{is_write, is_look}
use Rattle.blsm_model.specs.declared.room.Room.{Room}
use Rattle.blsm_model.specs.declared.history.Entry.{Entry}
use Rattle.tree_machine.specs.Plays.{has_room, is_between, may_note, is_even, is_finished, may}
use Rattle.tree_machine.proofs.FoldLemmas.{both_hold}
use Rattle.blsm_model.specs.declared.key.Key.{Key}
use Rattle.blsm_model.specs.declared.row.Row.{Row}
use Rattle.blsm_model.specs.declared.op.Op.{Op}
use Rattle.blsm_model.specs.declared.op.Op.TheVariants.{Hold, Next, Release, Work}
use Rattle.blsm_model.specs.declared.history.Why.TheVariants.{Faulted}
use Rattle.blsm_model.specs.declared.history.Reply.{Reply}
use Rattle.blsm_model.specs.declared.history.Reply.TheVariants.{Done, Full, FaultLost, FaultUnsure}
use Rattle.blsm_model.specs.Book.{Book, room_after}
use Rattle.blsm_model.specs.Histories.{writes_of, answer_to_release, answer_to_look}
use Rattle.blsm_model.specs.Legal.{total_weight}
use Rattle.tree_machine.specs.declared.step.Kind.{Kind}
use Rattle.tree_machine.specs.declared.step.Kind.TheVariants as kind
use Rattle.tree_machine.specs.Lists.{contents_in}
use Rattle.tree_machine.specs.Machine.{Machine, is_caller, is_closed, charge, held_by, work_of}
use Rattle.tree_machine.specs.Moves.{pass_quantum, deep_quantum, with_peak, note, stop}
use Rattle.tree_machine.specs.Steps.{
  Choice,
  deep_swapped,
  ready_for,
  taken_together,
  holding,
  Outcome,
  Well,
  FailedAfter,
  FailedLooking,
  Broken,
  NoRoom,
  Stepped,
  replied,
  unless_stopped,
  unless_refused,
  refused_first,
  swaps_due,
  admit,
  admit_met,
  admit_fitting,
  is_full,
  forgive,
  pay,
  pay_planned,
  pay_running,
  do_pay,
  choice,
  reply_unless,
  do_hold,
  do_next,
  do_turn,
  work_turning,
  worker_turning,
  work_reply,
}
use Rattle.tree_machine.specs.Plays.{stepped_as}
use Rattle.blsm_model.specs.declared.history.Why.{Why}
use Rattle.gear_sched.specs.Gears.{plan_for, first_debt, second_debt}
use Rattle.gear_sched.specs.declared.Plan.{Plan}
use Rattle.gear_sched.specs.declared.Plan.TheVariants.{Snow, Deep, Nothing}
use Rattle.blsm_model.specs.Facts.{Notes}
use Rattle.blsm_model.specs.declared.op.Write.{Write}

-- ---- the merges note nothing

pub ready_book : (weight : ℕ) (m : Machine) → (ready_for weight m).book ≡ m.book
ready_book weight m = grind (arith, common_steps, nat_tests)

pub pass_quantum_book : (seat : ℕ) (m : Machine) → (pass_quantum seat m).book ≡ m.book
pass_quantum_book seat m = grind (arith, common_steps, nat_tests)

pub deep_quantum_book : (seat : ℕ) (m : Machine) → (deep_quantum seat m).book ≡ m.book
deep_quantum_book seat m = grind (arith, common_steps, nat_tests)

-- ---- each step

-- the history and the room stay
abbrev pub Keeps : Machine → Machine → Type 0
Keeps old new = (new.book.entries ≡ old.book.entries) × (new.book.room ≡ old.book.room)

-- or the history gains one entry of the seat, which takes its room
abbrev pub Grows : ℕ → Machine → Machine → Type 0
Grows seat old new = Keeps old new ⊎ ((entry : Entry) × (entry.seat ≡ seat) × (new.book.entries ≡ old.book.entries ++ entry ∷ []) × (new.book.room ≡ room_after old.book.room entry))

pub notes : (seat : ℕ) (old new : Machine) → Grows seat old new → Notes seat old.book.entries new.book.entries
notes seat old new h1 = grind (arith, common_steps, nat_tests)

noted_grows : (seat : ℕ) (op : Op) (reply : Reply) (m n : Machine) → n.book ≡ m.book → Grows seat m (note seat op reply n)
noted_grows seat op reply m n same = inr (record { seat = seat; op = op; reply = reply }, refl, ap (λ (b : Book). b.entries ++ record { seat = seat; op = op; reply = reply } ∷ []) same, ap (λ (b : Book). room_after b.room (record { seat = seat; op = op; reply = reply })) same)

keeps : (m n : Machine) → n.book ≡ m.book → Keeps m n
keeps m n same = (ap (λ (b : Book). b.entries) same, ap (λ (b : Book). b.room) same)

unless_grows : (seat : ℕ) (op : Op) (m : Machine) (otherwise : Stepped) → Grows seat m otherwise.state → Grows seat m (unless_stopped m.stopped seat op m otherwise).state
unless_grows seat op m otherwise grows = grind (arith, common_steps, nat_tests)

pub taken_book : (seat : ℕ) (ws : List Write) (m : Machine) → (taken_together seat ws m).book ≡ m.book
taken_book seat ws m = grind (arith, common_steps, nat_tests)

admit_grows : (m : Machine) (seat : ℕ) (op : Op) (outcome : Outcome) → Grows seat m (admit m seat op outcome).state
admit_grows m seat op outcome =
    unless_grows seat op m (unless_refused (refused_first m op outcome) seat op m (admit_met m seat op outcome))
    (refused (refused_first m op outcome))
  where
    lost : (faults : ℕ) (b : Bool) → (stop (Faulted faults) (cond b m (deep_swapped m))).book ≡ m.book
    lost faults b = grind (arith, common_steps, nat_tests)

    failed : (commits faults : ℕ) (b : Bool)
        → Grows seat m (cond b (replied seat op FaultLost (stop (Faulted faults) (cond (commits == 0) m (deep_swapped m)))) (replied seat op FaultUnsure (stop (Faulted faults) (ready_for (total_weight (writes_of op)) m)))).state
    failed commits faults true = noted_grows seat op FaultLost m (stop (Faulted faults) (cond (commits == 0) m (deep_swapped m))) (lost faults (commits == 0))
    failed commits faults false = noted_grows seat op FaultUnsure m (stop (Faulted faults) (ready_for (total_weight (writes_of op)) m)) (ready_book (total_weight (writes_of op)) m)

    done : Grows seat m (note seat op Done (with_peak (taken_together seat (writes_of op) (ready_for (total_weight (writes_of op)) m))))
    done = noted_grows seat op Done m (with_peak (taken_together seat (writes_of op) (ready_for (total_weight (writes_of op)) m)))
        (taken_book seat (writes_of op) (ready_for (total_weight (writes_of op)) m) ∙ ready_book (total_weight (writes_of op)) m)

    fitting : (o : Outcome) → Grows seat m (admit_fitting m seat op (total_weight (writes_of op)) o).state
    fitting (FailedAfter commits faults) = failed commits faults (nat_lt commits (swaps_due m))
    fitting Well = done
    fitting (FailedLooking faults) = done
    fitting (Broken page) = done
    fitting NoRoom = done

    by : (b : Bool) → Grows seat m (cond b (replied seat op (Full (charge m)) m) (admit_fitting m seat op (total_weight (writes_of op)) outcome)).state
    by true = noted_grows seat op (Full (charge m)) m m refl
    by false = fitting outcome

    refused : (o : Option Reply) → Grows seat m (unless_refused o seat op m (admit_met m seat op outcome)).state
    refused (Some reply) = noted_grows seat op reply m m refl
    refused None = by (is_full m op)

pub pay_keeps : (m : Machine) (seat : ℕ) (outcome : Outcome) → Keeps m (pay m seat outcome).state
pay_keeps m seat outcome = by m.stopped
  where
    owing : (quantum : Machine → Machine) → (quantum (forgive seat m)).book ≡ m.book → (e : Outcome) → Keeps m
        (do_pay (forgive seat m) quantum seat e).state
    owing quantum same (FailedAfter commits faults) = (refl, refl)
    owing quantum same (Broken page) = (refl, refl)
    owing quantum same _ = (ap (λ (b : Book). b.entries) same, ap (λ (b : Book). b.room) same)

    planned : (plan : Plan) → Keeps m (pay_planned plan (forgive seat m) seat outcome).state
    planned Snow = owing (pass_quantum seat) (pass_quantum_book seat (forgive seat m)) outcome
    planned Deep = owing (deep_quantum seat) (deep_quantum_book seat (forgive seat m)) outcome
    planned Nothing = (refl, refl)

    by : (o : Option Why) → Keeps m (pay_running o m seat outcome).state
    by (Some cause) = (refl, refl)
    by None = planned (plan_for (first_debt (forgive seat m).gears seat) (second_debt (forgive seat m).gears seat))

hold_grows : (m : Machine) (seat : ℕ) (low high : Key) (outcome : Outcome) → Grows seat m (do_hold m seat low high outcome).state
hold_grows m seat low high outcome = grind (arith, common_steps, nat_tests)

next_grows : (m : Machine) (seat n : ℕ) (outcome : Outcome) (held : Option (List Row)) → Grows seat m (do_next m seat n outcome held).state
next_grows m seat n outcome held = grind (arith, common_steps, nat_tests)

pub turn_book : (c : Choice) (outcome : Outcome) (seat : ℕ) (m : Machine) → (do_turn c outcome seat m).state.book ≡ m.book
turn_book c outcome seat m = grind (arith, common_steps, nat_tests)

work_book : (m : Machine) (seat : ℕ) (outcome : Outcome) → (work_turning m.stopped m seat outcome).state.book ≡ m.book
work_book m seat outcome = grind (arith, common_steps, nat_tests, turn_book)

worker_book : (m : Machine) (seat : ℕ) (outcome : Outcome) → (worker_turning m.stopped (is_closed m) m seat outcome).state.book ≡ m.book
worker_book m seat outcome = by m.stopped (is_closed m)
  where
    by : (o : Option Why) (closed : Bool) → (worker_turning o closed m seat outcome).state.book ≡ m.book
    by (Some cause) closed = refl
    by None true = refl
    by None false = turn_book (choice (nat_lt m.gears.sizes.low m.spring) false m) outcome seat m

pub step_grows : (m : Machine) (seat : ℕ) (k : Kind) (outcome : Outcome) → Grows seat m (stepped_as m seat k outcome).state
step_grows m seat (kind.Admit op) outcome = admit_grows m seat op outcome
step_grows m seat kind.Pay outcome = inl (pay_keeps m seat outcome)
step_grows m seat (kind.Look op) outcome =
    unless_grows seat op m (replied seat op (reply_unless outcome (answer_to_look op (contents_in m.lists))) m)
    (noted_grows seat op (reply_unless outcome (answer_to_look op (contents_in m.lists))) m m refl)
step_grows m seat (kind.Hold low high) outcome = unless_grows seat (Hold low high) m (do_hold m seat low high outcome) (hold_grows m seat low high outcome)
step_grows m seat (kind.Next n) outcome = unless_grows seat (Next n) m (do_next m seat n outcome (held_by seat m)) (next_grows m seat n outcome (held_by seat m))
step_grows m seat kind.Release outcome =
    unless_grows seat Release m (replied seat Release (answer_to_release (held_by seat m)) (holding seat None m))
    (noted_grows seat Release (answer_to_release (held_by seat m)) m (holding seat None m) refl)
step_grows m seat kind.WorkTurn outcome = inl (keeps m (work_turning m.stopped m seat outcome).state (work_book m seat outcome))
step_grows m seat (kind.WorkEnd n) outcome = inr (record { seat = seat; op = Work n; reply = work_reply (work_of seat m) m.stopped }, refl, refl, refl)
step_grows m seat kind.WorkerTurn outcome = inl (keeps m (worker_turning m.stopped (is_closed m) m seat outcome).state (worker_book m seat outcome))
step_grows m seat kind.Leave outcome = inl (refl, refl)

-- ---- room

grown : (seat : ℕ) (m n : Machine) → 0 < slice_index m.book.room.entries seat → Grows seat m n → length n.book.entries + sum n.book.room.entries ≡ length m.book.entries + sum m.book.room.entries
grown seat m n h1 h2 = grind (arith, common_steps, nat_tests)

kept : (m n : Machine) → Keeps m n → length n.book.entries + sum n.book.room.entries ≡ length m.book.entries + sum m.book.room.entries
kept m n same = omega (arith, ap (λ (es : List Entry). length es) same.0, ap (λ (r : Room). sum r.entries) same.1)

of_room : (room : Room) (seat rows : ℕ) → has_room room seat rows ≡ true → 0 < slice_index room.entries seat
of_room room seat rows ok = ltb-true 0 (slice_index room.entries seat) (both_hold (nat_lt 0 (slice_index room.entries seat)) (nat_le rows (slice_index room.rows seat)) ok).0

noting : (m : Machine) (seat rows : ℕ) → may_note seat rows m ≡ true → 0 < slice_index m.book.room.entries seat
noting m seat rows ok = of_room m.book.room seat rows (both_hold (is_caller seat) (has_room m.book.room seat rows) (both_hold (is_caller seat && has_room m.book.room seat rows) (is_between seat m) ok).0).1

-- an entry takes its room: the entries and the room for more are always as many
pub step_room : (m : Machine) (seat : ℕ) (k : Kind) (outcome : Outcome) → may m seat k ≡ true
    → length (stepped_as m seat k outcome).state.book.entries + sum (stepped_as m seat k outcome).state.book.room.entries ≡ length m.book.entries + sum m.book.room.entries
step_room m seat (kind.Admit op) outcome ok =
    grown seat m (stepped_as m seat (kind.Admit op) outcome).state (noting m seat 0 (both_hold (is_write op) (may_note seat 0 m) (both_hold (is_write op && may_note seat 0 m) (is_even seat m) ok).0).1) (step_grows m seat (kind.Admit op) outcome)
step_room m seat kind.Pay outcome ok = kept m (pay m seat outcome).state (pay_keeps m seat outcome)
step_room m seat (kind.Look op) outcome ok = grown seat m (stepped_as m seat (kind.Look op) outcome).state (noting m seat 0 (both_hold (is_look op) (may_note seat 0 m) ok).1) (step_grows m seat (kind.Look op) outcome)
step_room m seat (kind.Hold low high) outcome ok = grown seat m (stepped_as m seat (kind.Hold low high) outcome).state (noting m seat 0 ok) (step_grows m seat (kind.Hold low high) outcome)
step_room m seat (kind.Next n) outcome ok =
    grown seat m (stepped_as m seat (kind.Next n) outcome).state (noting m seat n (both_hold (may_note seat n m) (nat_lt 0 n) (both_hold (may_note seat n m && nat_lt 0 n) (nat_le n most_rows) ok).0).0) (step_grows m seat (kind.Next n) outcome)
step_room m seat kind.Release outcome ok = grown seat m (stepped_as m seat kind.Release outcome).state (noting m seat 0 ok) (step_grows m seat kind.Release outcome)
step_room m seat kind.WorkTurn outcome ok = kept m (work_turning m.stopped m seat outcome).state (keeps m (work_turning m.stopped m seat outcome).state (work_book m seat outcome))
step_room m seat (kind.WorkEnd n) outcome ok =
    grown seat m (stepped_as m seat (kind.WorkEnd n) outcome).state (of_room m.book.room seat 0 (both_hold (is_caller seat) (has_room m.book.room seat 0) (both_hold (is_caller seat && has_room m.book.room seat 0) (is_finished n (work_of seat m)) ok).0).1) (step_grows m seat (kind.WorkEnd n) outcome)
step_room m seat kind.WorkerTurn outcome ok = kept m (worker_turning m.stopped (is_closed m) m seat outcome).state (keeps m (worker_turning m.stopped (is_closed m) m seat outcome).state (worker_book m seat outcome))
step_room m seat kind.Leave outcome ok = refl
