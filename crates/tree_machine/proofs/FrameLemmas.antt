-- What each part of a step leaves to the other seats.
use Rattle.std.proofs.Common.{◌≡◌, ◌≢◌, ℕ, zero, suc, ◌+◌, ◌-◌, ◌≤◌, ◌⊎◌, Bool, cond, true, false, not, List, [], ◌∷◌, Some, None, Option, refl, ap, ◌∙◌, arith}
use Rattle.std.proofs.lemmas.Grind.{common_steps}
use Rattle.std.proofs.lemmas.Bool.Decides.{nat_tests}
use Rattle.std.specs.Prelude.{◌==◌, sum, nat_lt, slice_index, slice_index_or, slice_set, is_some}
use Rattle.std.proofs.lemmas.List.{get_or-set_other}
use Rattle.blsm_model.specs.declared.key.Key.{Key}
use Rattle.blsm_model.specs.declared.row.Row.{Row}
use Rattle.blsm_model.specs.declared.op.Op.{Op}
use Rattle.blsm_model.specs.declared.op.Write.{Write}
use Rattle.blsm_model.specs.declared.history.Why.{Why}
use Rattle.blsm_model.specs.declared.history.Why.TheVariants as why
use Rattle.blsm_model.specs.declared.history.Why.TheVariants.{Faulted}
use Rattle.blsm_model.specs.declared.op.Op.TheVariants.{Hold, Release}
use Rattle.blsm_model.specs.declared.history.Reply.TheVariants.{Done, Held, Full, FaultLost, FaultUnsure}
use Rattle.blsm_model.specs.Format.{callers}
use Rattle.blsm_model.specs.Histories.{writes_of, answer_to_release, answer_to_look}
use Rattle.blsm_model.specs.Legal.{total_weight}
use Rattle.tree_machine.specs.declared.step.Kind.{Kind}
use Rattle.tree_machine.specs.declared.step.Kind.TheVariants as kind
use Rattle.blsm_model.specs.declared.history.Reply.{Reply}
use Rattle.record_delta.specs.Entries.{entries_weight}
use Rattle.tree_machine.specs.Lists.{memory_weight, rows_in, contents_in}
use Rattle.gear_sched.specs.Gears.{plan_for, first_debt, second_debt}
use Rattle.gear_sched.specs.declared.Plan.{Plan}
use Rattle.gear_sched.specs.declared.Plan.TheVariants.{Snow, Deep, Nothing}
use Rattle.tree_machine.specs.Machine.{Machine, WorkSoFar, is_worked, is_closed, all_true, charge, held_by, work_of, turn_more}
use Rattle.tree_machine.specs.Moves.{begin_pass, rotate_alone, swap_pass, swap_deep, pass_quantum, deep_quantum, with_peak, note, stop}
use Rattle.tree_machine.specs.Steps.{
  Choice,
  SwapDeep,
  SwapPass,
  DeepQuantum,
  PassQuantum,
  Begin,
  Rotate,
  Rest,
  chosen,
  deep_swapped,
  pass_swapped,
  swapped,
  pass_begun_for,
  ready_for,
  taken_together,
  forgive,
  count_for_write,
  holding,
  work_noted,
  Outcome,
  Well,
  FailedAfter,
  FailedLooking,
  Broken,
  NoRoom,
  Stepped,
  replied,
  unless_stopped,
  unless_refused,
  refused_first,
  swaps_due,
  admit,
  admit_met,
  admit_fitting,
  is_full,
  do_pay,
  pay_planned,
  pay,
  pay_running,
  reply_unless,
  hold,
  do_hold,
  next_rows,
  choice,
  do_turn,
  work_turning,
  worker_turning,
  with_turn,
  work_turn,
  worker_turn,
  work_end,
  leave,
}
use Rattle.tree_machine.specs.Plays.{stepped_as, may, is_help}
use Rattle.tree_machine.proofs.FoldLemmas.{both_hold, both}
use Rattle.blsm_model.specs.Facts.{Follows}
use Rattle.tree_machine.proofs.GrowLemmas.{notes, step_grows}
use Rattle.tree_machine.proofs.Terms.{facts_of, turns_of}

-- What a step of one seat leaves to the others, with at most so many quanta more.
pub record Apart (seat more : ℕ) (old new : Machine) : Type 0 where
  pub fixed : (new.gears.sizes ≡ old.gears.sizes) × (new.counts.charge ≡ old.counts.charge) × (new.counts.faults ≡ old.counts.faults)
  pub peak : old.counts.peak ≤ new.counts.peak
  pub stopped : (why : Why) → old.stopped ≡ Some why → new.stopped ≡ Some why
  pub closed : is_closed old ≡ true → is_closed new ≡ true
  pub kept : sum old.seats.quanta ≤ sum new.seats.quanta
  pub quanta : sum new.seats.quanta ≤ sum old.seats.quanta + more
  pub its : slice_index new.seats.quanta seat ≤ slice_index old.seats.quanta seat + more
  pub counts : (other : ℕ) → other ≢ seat → slice_index new.seats.quanta other ≡ slice_index old.seats.quanta other
  pub held : (other : ℕ) → other ≢ seat → held_by other new ≡ held_by other old
  pub work : (other : ℕ) → other ≢ seat → work_of other new ≡ work_of other old
  pub turns : (other : ℕ) → callers ≤ other → other ≢ seat → slice_index new.seats.turns (other - callers) ≡ slice_index old.seats.turns (other - callers)
  pub left : (other : ℕ) → other ≢ seat → slice_index_or new.seats.left other false ≡ slice_index_or old.seats.left other false
  pub entries_room : (other : ℕ) → other ≢ seat → slice_index new.book.room.entries other ≡ slice_index old.book.room.entries other
  pub rows_room : (other : ℕ) → other ≢ seat → slice_index new.book.room.rows other ≡ slice_index old.book.room.rows other
  pub first : (other : ℕ) → other ≢ seat → slice_index new.gears.first_debts other ≤ slice_index old.gears.first_debts other
  pub second : (other : ℕ) → other ≢ seat → slice_index new.gears.second_debts other ≤ slice_index old.gears.second_debts other

-- A move that changes nothing of the seats, of what they hold and of their room, stops nothing, and raises no debt of the others.
record IsAlike (old new : Machine) : Type 0 where
  pub fixed : (new.gears.sizes ≡ old.gears.sizes) × (new.counts.charge ≡ old.counts.charge) × (new.counts.faults ≡ old.counts.faults)
  pub peak : old.counts.peak ≤ new.counts.peak
  pub stopped : new.stopped ≡ old.stopped
  pub seats : new.seats ≡ old.seats
  pub holds : new.holds ≡ old.holds
  pub room : new.book.room ≡ old.book.room

same_apart : (seat : ℕ) (m n : Machine) → IsAlike m n → ((other : ℕ) → other ≢ seat → slice_index n.gears.first_debts other ≤ slice_index m.gears.first_debts other)
    → ((other : ℕ) → other ≢ seat → slice_index n.gears.second_debts other ≤ slice_index m.gears.second_debts other) → Apart seat 0 m n
same_apart seat m n same first second = grind (arith, common_steps, nat_tests)

pub apart_itself : (seat : ℕ) (m : Machine) → Apart seat 0 m m
apart_itself seat m = same_apart seat m m (record { fixed = (refl, refl, refl); peak = omega arith; stopped = refl; seats = refl; holds = refl; room = refl }) (λ other apart. omega arith) (λ other apart. omega arith)

pub apart_on : {a b c : Machine} (seat j k : ℕ) → Apart seat j a b → Apart seat k b c → Apart seat (j + k) a c
apart_on {a} {b} {c} seat j k p q = grind (arith, common_steps, nat_tests)

-- with more quanta allowed
pub apart_more : {a b : Machine} (seat j k : ℕ) → j ≤ k → Apart seat j a b → Apart seat k a b
apart_more {a} {b} seat j k le p = grind (arith, common_steps, nat_tests)

-- ---- the merges

begin_apart : (seat : ℕ) (m : Machine) → Apart seat 0 m (begin_pass m)
begin_apart seat m = grind (arith, common_steps, nat_tests)

rotate_alone_apart : (seat : ℕ) (m : Machine) → Apart seat 0 m (rotate_alone m)
rotate_alone_apart seat m = grind (arith, common_steps, nat_tests)

swap_deep_apart : (seat : ℕ) (m : Machine) → Apart seat 0 m (swap_deep m)
swap_deep_apart seat m = grind (arith, common_steps, nat_tests)

swap_pass_apart : (seat : ℕ) (m : Machine) → Apart seat 0 m (swap_pass m)
swap_pass_apart seat m = grind (arith, common_steps, nat_tests)

pub pass_quantum_apart : (seat : ℕ) (m : Machine) → Apart seat 1 m (pass_quantum seat m)
pass_quantum_apart seat m = grind (arith, common_steps, nat_tests)

pub deep_quantum_apart : (seat : ℕ) (m : Machine) → Apart seat 1 m (deep_quantum seat m)
deep_quantum_apart seat m = grind (arith, common_steps, nat_tests)

pub chosen_apart : (c : Choice) (seat : ℕ) (m : Machine) → Apart seat 1 m (chosen c seat m)
chosen_apart SwapDeep seat m = apart_more seat 0 1 (omega arith) (swap_deep_apart seat m)
chosen_apart SwapPass seat m = apart_more seat 0 1 (omega arith) (swap_pass_apart seat m)
chosen_apart DeepQuantum seat m = deep_quantum_apart seat m
chosen_apart PassQuantum seat m = pass_quantum_apart seat m
chosen_apart Begin seat m = apart_more seat 0 1 (omega arith) (begin_apart seat m)
chosen_apart Rotate seat m = apart_more seat 0 1 (omega arith) (rotate_alone_apart seat m)
chosen_apart Rest seat m = apart_more seat 0 1 (omega arith) (apart_itself seat m)

pub deep_swapped_apart : (seat : ℕ) (m : Machine) → Apart seat 0 m (deep_swapped m)
deep_swapped_apart seat m = grind (arith, common_steps, nat_tests)

pass_swapped_apart : (seat : ℕ) (m : Machine) → Apart seat 0 m (pass_swapped m)
pass_swapped_apart seat m = grind (arith, common_steps, nat_tests)

begun_apart : (seat weight : ℕ) (m : Machine) → Apart seat 0 m (pass_begun_for weight m)
begun_apart seat weight m = grind (arith, common_steps, nat_tests)

pub ready_apart : (seat weight : ℕ) (m : Machine) → Apart seat 0 m (ready_for weight m)
ready_apart seat weight m =
    apart_on seat 0 0 (deep_swapped_apart seat m) (apart_on seat 0 0 (pass_swapped_apart seat (deep_swapped m)) (begun_apart seat weight (swapped m)))

-- ---- the rest of a step

pub note_apart : (seat : ℕ) (op : Op) (reply : Reply) (m : Machine) → Apart seat 0 m (note seat op reply m)
note_apart seat op reply m = grind (arith, common_steps, nat_tests)

pub stop_apart : (seat : ℕ) (cause : Why) (m : Machine) → m.stopped ≡ None → Apart seat 0 m (stop cause m)
stop_apart seat cause m none = grind (arith, common_steps, nat_tests)

pub forgive_apart : (seat : ℕ) (m : Machine) → Apart seat 0 m (forgive seat m)
forgive_apart seat m = grind (arith, common_steps, nat_tests)

pub count_apart : (seat : ℕ) (m : Machine) → Apart seat 0 m (count_for_write seat m)
count_apart seat m = same_apart seat m (count_for_write seat m) (record { fixed = (refl, refl, refl); peak = omega arith; stopped = refl; seats = refl; holds = refl; room = refl }) (λ other apart. omega arith) (λ other apart. omega arith)

pub holding_apart : (seat : ℕ) (rows : Option (List Row)) (m : Machine) → Apart seat 0 m (holding seat rows m)
holding_apart seat rows m = grind (arith, common_steps, nat_tests)

pub work_apart : (seat : ℕ) (work : WorkSoFar) (m : Machine) → Apart seat 0 m (work_noted seat work m)
work_apart seat work m = grind (arith, common_steps, nat_tests)

ready_runs : (weight : ℕ) (m : Machine) → m.stopped ≡ None → (ready_for weight m).stopped ≡ None
ready_runs weight m none = grind (arith, common_steps, nat_tests)

-- ---- each step

noted_apart : (seat : ℕ) (op : Op) (reply : Reply) (m n : Machine) → Apart seat 0 m n → Apart seat 0 m (note seat op reply n)
noted_apart seat op reply m n p = apart_on seat 0 0 p (note_apart seat op reply n)

-- a step of a stopped tree, and else another
unless_apart : (seat : ℕ) (op : Op) (m : Machine) (otherwise : Stepped) → (m.stopped ≡ None → Apart seat 0 m otherwise.state) → Apart seat 0 m (unless_stopped m.stopped seat op m otherwise).state
unless_apart seat op m otherwise runs = grind (arith, common_steps, nat_tests)

taken_apart : (seat : ℕ) (ws : List Write) (m : Machine) → Apart seat 0 m (with_peak (taken_together seat ws m))
taken_apart seat ws m = grind (arith, common_steps, nat_tests)

admit_apart : (m : Machine) (seat : ℕ) (op : Op) (outcome : Outcome) → Apart seat 0 m (admit m seat op outcome).state
admit_apart m seat op outcome =
    unless_apart seat op m (unless_refused (refused_first m op outcome) seat op m (admit_met m seat op outcome))
    (λ none. refused none (refused_first m op outcome))
  where
    lost : m.stopped ≡ None → (faults : ℕ) (b : Bool) → Apart seat 0 m (stop (Faulted faults) (cond b m (deep_swapped m)))
    lost h1 faults b = grind (arith, common_steps, nat_tests)

    failed : m.stopped ≡ None → (commits faults : ℕ) (b : Bool)
        → Apart seat 0 m (cond b (replied seat op FaultLost (stop (Faulted faults) (cond (commits == 0) m (deep_swapped m)))) (replied seat op FaultUnsure (stop (Faulted faults) (ready_for (total_weight (writes_of op)) m)))).state
    failed none commits faults true = noted_apart seat op FaultLost m (stop (Faulted faults) (cond (commits == 0) m (deep_swapped m))) (lost none faults (commits == 0))
    failed none commits faults false = noted_apart seat op FaultUnsure m (stop (Faulted faults) (ready_for (total_weight (writes_of op)) m))
        (apart_on seat 0 0 (ready_apart seat (total_weight (writes_of op)) m) (stop_apart seat (Faulted faults) (ready_for (total_weight (writes_of op)) m) (ready_runs (total_weight (writes_of op)) m none)))

    done : Apart seat 0 m (note seat op Done (with_peak (taken_together seat (writes_of op) (ready_for (total_weight (writes_of op)) m))))
    done = noted_apart seat op Done m (with_peak (taken_together seat (writes_of op) (ready_for (total_weight (writes_of op)) m)))
        (apart_on seat 0 0 (ready_apart seat (total_weight (writes_of op)) m) (taken_apart seat (writes_of op) (ready_for (total_weight (writes_of op)) m)))

    fitting : m.stopped ≡ None → (o : Outcome) → Apart seat 0 m (admit_fitting m seat op (total_weight (writes_of op)) o).state
    fitting none (FailedAfter commits faults) = failed none commits faults (nat_lt commits (swaps_due m))
    fitting none Well = done
    fitting none (FailedLooking faults) = done
    fitting none (Broken page) = done
    fitting none NoRoom = done

    by : m.stopped ≡ None → (b : Bool) → Apart seat 0 m (cond b (replied seat op (Full (charge m)) m) (admit_fitting m seat op (total_weight (writes_of op)) outcome)).state
    by none true = note_apart seat op (Full (charge m)) m
    by none false = fitting none outcome

    refused : m.stopped ≡ None → (o : Option Reply) → Apart seat 0 m (unless_refused o seat op m (admit_met m seat op outcome)).state
    refused none (Some reply) = note_apart seat op reply m
    refused none None = by none (is_full m op)

pay_apart : (m : Machine) (seat : ℕ) (outcome : Outcome) → Apart seat 1 m (pay m seat outcome).state
pay_apart m seat outcome = by m.stopped refl
  where
    owing : (quantum : Machine → Machine) → Apart seat 1 (forgive seat m) (quantum (forgive seat m)) → m.stopped ≡ None → (o : Outcome) → Apart seat 1 m (do_pay (forgive seat m) quantum seat o).state
    owing quantum p none (FailedAfter commits faults) = apart_more seat 0 1 (omega arith) (apart_on seat 0 0 (forgive_apart seat m) (stop_apart seat (Faulted faults) (forgive seat m) none))
    owing quantum p none (Broken page) = apart_more seat 0 1 (omega arith) (apart_on seat 0 0 (forgive_apart seat m) (stop_apart seat (why.BadPage page) (forgive seat m) none))
    owing quantum p none (FailedLooking faults) = apart_on seat 0 1 (forgive_apart seat m)
        (apart_on seat 1 0 p (count_apart seat (quantum (forgive seat m))))
    owing quantum p none Well = apart_on seat 0 1 (forgive_apart seat m) (apart_on seat 1 0 p (count_apart seat (quantum (forgive seat m))))
    owing quantum p none NoRoom = apart_on seat 0 1 (forgive_apart seat m) (apart_on seat 1 0 p (count_apart seat (quantum (forgive seat m))))

    planned : m.stopped ≡ None → (plan : Plan) → Apart seat 1 m (pay_planned plan (forgive seat m) seat outcome).state
    planned none Snow = owing (pass_quantum seat) (pass_quantum_apart seat (forgive seat m)) none outcome
    planned none Deep = owing (deep_quantum seat) (deep_quantum_apart seat (forgive seat m)) none outcome
    planned none Nothing = apart_more seat 0 1 (omega arith) (forgive_apart seat m)

    by : (o : Option Why) → m.stopped ≡ o → Apart seat 1 m (pay_running o m seat outcome).state
    by (Some cause) is = apart_more seat 0 1 (omega arith) (apart_itself seat m)
    by None is = planned is (plan_for (first_debt (forgive seat m).gears seat) (second_debt (forgive seat m).gears seat))

hold_apart : (m : Machine) (seat : ℕ) (low high : Key) (outcome : Outcome) → Apart seat 0 m (hold m seat low high outcome).state
hold_apart m seat low high outcome = unless_apart seat (Hold low high) m (do_hold m seat low high outcome) (λ none. by outcome)
  where
    held : Apart seat 0 m (note seat (Hold low high) Held (holding seat (Some (rows_in m.lists low high)) m))
    held = noted_apart seat (Hold low high) Held m (holding seat (Some (rows_in m.lists low high)) m) (holding_apart seat (Some (rows_in m.lists low high)) m)

    by : (o : Outcome) → Apart seat 0 m (do_hold m seat low high o).state
    by o = grind (arith, common_steps, nat_tests)

next_apart : (m : Machine) (seat n : ℕ) (outcome : Outcome) → Apart seat 0 m (next_rows m seat n outcome).state
next_apart m seat n outcome = grind (arith, common_steps, nat_tests)

turn_apart : (c : Choice) (outcome : Outcome) (seat : ℕ) (m : Machine) → m.stopped ≡ None → Apart seat 1 m (do_turn c outcome seat m).state
turn_apart c outcome seat m h1 = grind (arith, common_steps, nat_tests, apart_more, stop_apart, chosen_apart)

work_turn_apart : (m : Machine) (seat : ℕ) (outcome : Outcome) → Apart seat 1 m (work_turn m seat outcome).state
work_turn_apart m seat outcome =
    let turning = work_turning m.stopped m seat outcome in
    apart_on seat 1 0 (by m.stopped refl) (work_apart seat (with_turn (work_of seat m) turning) turning.state)
  where
    by : (o : Option Why) → m.stopped ≡ o → Apart seat 1 m (work_turning o m seat outcome).state
    by (Some cause) is = apart_more seat 0 1 (omega arith) (apart_itself seat m)
    by None is = turn_apart (choice (not (memory_weight m.lists == 0)) (not (entries_weight m.lists.c1 == 0)) m) outcome seat m is

worker_turn_apart : (m : Machine) (seat : ℕ) (outcome : Outcome) → callers ≤ seat → Apart seat 1 m (worker_turn m seat outcome).state
worker_turn_apart m seat outcome worker = counted (worker_turning m.stopped (is_closed m) m seat outcome).state (by m.stopped refl (is_closed m))
  where
    counted : (n : Machine) → Apart seat 1 m n → Apart seat 1 m (record n { seats = record n.seats { turns = slice_set n.seats.turns (seat - callers) (turn_more (slice_index n.seats.turns (seat - callers))) } })
    counted n p = grind (arith, common_steps, nat_tests)

    by : (o : Option Why) → m.stopped ≡ o → (b : Bool) → Apart seat 1 m (worker_turning o b m seat outcome).state
    by (Some cause) is b = apart_more seat 0 1 (omega arith) (apart_itself seat m)
    by None is true = apart_more seat 0 1 (omega arith) (apart_itself seat m)
    by None is false = turn_apart (choice (nat_lt m.gears.sizes.low m.spring) false m) outcome seat m is

work_end_apart : (m : Machine) (seat n : ℕ) → Apart seat 0 m (work_end m seat n).state
work_end_apart m seat n = grind (arith, common_steps, nat_tests)

still_all : (bs : List Bool) (seat : ℕ) → all_true bs ≡ true → all_true (slice_set bs seat true) ≡ true
still_all [] seat all = all
still_all (b ∷ bs) zero all = (both_hold b (all_true bs) all).1
still_all (b ∷ bs) (suc seat) all =
    let parts = both_hold b (all_true bs) all in both b (all_true (slice_set bs seat true)) parts.0 (still_all bs seat parts.1)

leave_apart : (m : Machine) (seat : ℕ) → Apart seat 0 m (leave m seat).state
leave_apart m seat = grind (arith, common_steps, nat_tests, still_all, get_or-set_other)

-- whatever the step and its outcome, where a worker's turn is a worker's
pub step_apart : (m : Machine) (seat : ℕ) (k : Kind) (outcome : Outcome) → (is_help k ≡ true → callers ≤ seat) → Apart seat 1 m (stepped_as m seat k outcome).state
step_apart m seat (kind.Admit op) outcome worker = apart_more seat 0 1 (omega arith) (admit_apart m seat op outcome)
step_apart m seat kind.Pay outcome worker = pay_apart m seat outcome
step_apart m seat (kind.Look op) outcome worker = apart_more seat 0 1 (omega arith)
    (unless_apart seat op m (replied seat op (reply_unless outcome (answer_to_look op (contents_in m.lists))) m) (λ none. note_apart seat op (reply_unless outcome (answer_to_look op (contents_in m.lists))) m))
step_apart m seat (kind.Hold low high) outcome worker = apart_more seat 0 1 (omega arith) (hold_apart m seat low high outcome)
step_apart m seat (kind.Next n) outcome worker = apart_more seat 0 1 (omega arith) (next_apart m seat n outcome)
step_apart m seat kind.Release outcome worker = apart_more seat 0 1 (omega arith)
    (unless_apart seat Release m (replied seat Release (answer_to_release (held_by seat m)) (holding seat None m))
    (λ none. noted_apart seat Release (answer_to_release (held_by seat m)) m (holding seat None m) (holding_apart seat None m)))
step_apart m seat kind.WorkTurn outcome worker = work_turn_apart m seat outcome
step_apart m seat (kind.WorkEnd n) outcome worker = apart_more seat 0 1 (omega arith) (work_end_apart m seat n)
step_apart m seat kind.WorkerTurn outcome worker = worker_turn_apart m seat outcome (worker refl)
step_apart m seat kind.Leave outcome worker = apart_more seat 0 1 (omega arith) (leave_apart m seat)

-- ---- the facts of a lock's value

same_or_more : (a b : ℕ) → a ≤ b → b ≤ a + 1 → (b ≡ a) ⊎ (b ≡ a + 1)
same_or_more a b le more = grind (arith, le, more)

some_stays : (o p : Option Why) → ((why : Why) → o ≡ Some why → p ≡ Some why) → is_some o ≡ true → is_some p ≡ true
some_stays o p h1 h2 = grind (arith, common_steps, nat_tests)

turns_stay : (seat other : ℕ) (old new : Machine) → Apart seat 1 old new → other ≢ seat → turns_of other new ≡ turns_of other old
turns_stay seat other old new p apart = grind (arith, common_steps, nat_tests)

-- a stopped tree stays stopped, for the same cause
pub step_stays : (m : Machine) (seat : ℕ) (k : Kind) (outcome : Outcome) (why : Why) → m.stopped ≡ Some why → (stepped_as m seat k outcome).state.stopped ≡ Some why
step_stays m seat k outcome why h1 = grind (arith, common_steps, nat_tests)

worker_turns : (m : Machine) (seat : ℕ) (k : Kind) → may m seat k ≡ true → is_help k ≡ true → callers ≤ seat
worker_turns m seat k h1 h2 = grind (arith, common_steps, nat_tests)

-- A step notes at most one entry, of its seat, and does at most one quantum; the peak never falls, and a closed tree stays closed. Nothing
-- of another seat changes, but that its debts may fall.
pub step_follows : (m : Machine) (seat : ℕ) (k : Kind) (outcome : Outcome) → may m seat k ≡ true → Follows seat (facts_of m) (facts_of (stepped_as m seat k outcome).state)
step_follows m seat k outcome ok =
    let new = (stepped_as m seat k outcome).state in
    let p = step_apart m seat k outcome (worker_turns m seat k ok) in
    record {
      history = notes seat m new (step_grows m seat k outcome);
      quanta = same_or_more (sum m.seats.quanta) (sum new.seats.quanta) p.kept p.quanta;
      its = p.its;
      peak = p.peak;
      closed = p.closed;
      stopped = some_stays m.stopped new.stopped p.stopped;
      others = λ other apart. record {
        debt1 = p.first other apart;
        debt2 = p.second other apart;
        turns = turns_stay seat other m new p apart;
        worked = ap (λ w. is_worked w.last) (p.work other apart);
        quanta = p.counts other apart;
        room = ap (λ n. (n, slice_index new.book.room.rows other)) (p.entries_room other apart) ∙ ap (λ n. (slice_index m.book.room.entries other, n)) (p.rows_room other apart);
        left = p.left other apart;
      };
    }

-- the other callers hold the rows that they held
pub step_leaves_holds : (m : Machine) (seat : ℕ) (k : Kind) (outcome : Outcome) → may m seat k ≡ true → (other : ℕ) → other ≢ seat → held_by other (stepped_as m seat k outcome).state ≡ held_by other m
step_leaves_holds m seat k outcome ok = (step_apart m seat k outcome (worker_turns m seat k ok)).held

-- what was fixed at the opening stays
pub step_fixed : (m : Machine) (seat : ℕ) (k : Kind) (outcome : Outcome) → may m seat k ≡ true
    → ((stepped_as m seat k outcome).state.gears.sizes ≡ m.gears.sizes) × ((stepped_as m seat k outcome).state.counts.charge ≡ m.counts.charge) × ((stepped_as m seat k outcome).state.counts.faults ≡ m.counts.faults)
step_fixed m seat k outcome ok = (step_apart m seat k outcome (worker_turns m seat k ok)).fixed
