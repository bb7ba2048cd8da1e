-- What a step leaves as it was, and which merge a quantum moves.
use Rattle.std.proofs.Common.{◌≡◌, ◌⊎◌, inl, refl, ap, ℕ, Bool, cond, true, false, not, List, Option, Some, None}
use Rattle.std.proofs.lemmas.Grind.{common_steps}
use Rattle.std.proofs.lemmas.Bool.Decides.{nat_tests}
use Rattle.std.proofs.Common.{arith}
use Rattle.std.specs.Prelude.{◌==◌, nat_lt}
use Rattle.blsm_model.specs.declared.key.Key.{Key}
use Rattle.blsm_model.specs.declared.row.Row.{Row}
use Rattle.blsm_model.specs.declared.op.Op.{Op}
use Rattle.blsm_model.specs.declared.op.Op.TheVariants.{Hold, Next, Release}
use Rattle.blsm_model.specs.declared.history.Why.{Why}
use Rattle.blsm_model.specs.declared.history.Why.TheVariants as why
use Rattle.blsm_model.specs.declared.history.Why.TheVariants.{Faulted}
use Rattle.blsm_model.specs.declared.history.Reply.{Reply}
use Rattle.blsm_model.specs.declared.history.Reply.TheVariants.{Done, Full, FaultLost, FaultUnsure, Stopped}
use Rattle.blsm_model.specs.Histories.{writes_of, answer_to_release, answer_to_look}
use Rattle.blsm_model.specs.Legal.{total_weight}
use Rattle.blsm_model.specs.declared.op.Write.{Write}
use Rattle.record_delta.specs.Entries.{entries_weight}
use Rattle.tree_machine.specs.declared.step.Kind.{Kind}
use Rattle.tree_machine.specs.declared.step.Kind.TheVariants as kind
use Rattle.tree_machine.specs.Lists.{memory_weight, contents_in}
use Rattle.tree_machine.specs.Machine.{Machine, pass_done, deep_done, charge, held_by, is_closed}
use Rattle.tree_machine.specs.Moves.{with_peak, note, stop}
use Rattle.tree_machine.specs.Steps.{
  Outcome,
  Well,
  FailedAfter,
  FailedLooking,
  Broken,
  NoRoom,
  Stepped,
  choice,
  chosen,
  replied,
  unless_stopped,
  unless_refused,
  refused_first,
  swaps_due,
  admit,
  admit_met,
  admit_fitting,
  is_full,
  deep_swapped,
  ready_for,
  taken_together,
  reply_unless,
  hold,
  do_hold,
  next_rows,
  do_next,
  drop_hold,
  holding,
  pay,
  do_turn,
  work_turning,
  worker_turning,
  work_turn,
  worker_turn,
  work_end,
  leave,
}
use Rattle.tree_machine.specs.Plays.{stepped_as}
use Rattle.tree_machine.specs.Layers.{IsSound, HasWay}
use Rattle.tree_machine.specs.Effects.{LeavesAll, LeaveAll}
use Rattle.tree_machine.proofs.Terms.{MergeStands, Rests, TakesQuantum}

-- ---- refusals

unless_leaves : (m : Machine) (seat : ℕ) (op : Op) (o : Option Why) (otherwise : Stepped) → LeavesAll m seat op otherwise → LeavesAll m seat op (unless_stopped o seat op m otherwise)
unless_leaves m seat op o otherwise h1 = grind (arith, common_steps, nat_tests)

refused_leaves : (m : Machine) (seat : ℕ) (op : Op) (o : Option Reply) (otherwise : Stepped) → LeavesAll m seat op otherwise → LeavesAll m seat op
    (unless_refused o seat op m otherwise)
refused_leaves m seat op (Some reply) otherwise leaves = λ bare. refl
refused_leaves m seat op None otherwise leaves = leaves

met_leaves : (m : Machine) (seat : ℕ) (op : Op) (outcome : Outcome) → LeavesAll m seat op (admit_met m seat op outcome)
met_leaves m seat op outcome = grind (arith, common_steps, nat_tests)

admit_leaves : (m : Machine) (seat : ℕ) (op : Op) (outcome : Outcome) → LeavesAll m seat op (admit m seat op outcome)
admit_leaves m seat op outcome =
    unless_leaves m seat op m.stopped (unless_refused (refused_first m op outcome) seat op m (admit_met m seat op outcome))
    (refused_leaves m seat op (refused_first m op outcome) (admit_met m seat op outcome) (met_leaves m seat op outcome))

hold_leaves : (m : Machine) (seat : ℕ) (low high : Key) (outcome : Outcome) → LeavesAll m seat (Hold low high) (hold m seat low high outcome)
hold_leaves m seat low high outcome = grind (arith, common_steps, nat_tests)

next_leaves : (m : Machine) (seat n : ℕ) (outcome : Outcome) → LeavesAll m seat (Next n) (next_rows m seat n outcome)
next_leaves m seat n outcome = grind (arith, common_steps, nat_tests)

drop_leaves : (m : Machine) (seat : ℕ) → LeavesAll m seat Release (drop_hold m seat)
drop_leaves m seat = grind (arith, common_steps, nat_tests)

pub refusals_leave_all : (m : Machine) (seat : ℕ) (outcome : Outcome) → LeaveAll m seat outcome
refusals_leave_all m seat outcome = grind (arith, common_steps, nat_tests, admit_leaves, unless_leaves, hold_leaves, next_leaves, drop_leaves)

-- ---- quanta

abbrev Works : ℕ → Machine → Machine → Type 0
Works seat old new = Rests old new ⊎ TakesQuantum seat old new

-- what only notes leaves the merges
quiet : (seat : ℕ) (m n : Machine) → n.seats.quanta ≡ m.seats.quanta → n.merges ≡ m.merges → Works seat m n
quiet seat m n quanta merges = inl (record { quanta = quanta; pass = inl (ap (λ g. g.pass) merges); deep = inl (ap (λ g. g.deep) merges) })

-- ---- what is made ready

pass_stands : (weight : ℕ) (m : Machine) → IsSound m → HasWay m → MergeStands (pass_done m) m.merges.pass (ready_for weight m).merges.pass
pass_stands weight m sound way = grind (arith, common_steps, nat_tests)

-- a rotation comes where no deep merge is left
deep_stands : (weight : ℕ) (m : Machine) → IsSound m → HasWay m → MergeStands (deep_done m) m.merges.deep (ready_for weight m).merges.deep
deep_stands weight m sound way = grind (arith, common_steps, nat_tests)

ready_quanta : (weight : ℕ) (m : Machine) → (ready_for weight m).seats.quanta ≡ m.seats.quanta
ready_quanta weight m = grind (arith, common_steps, nat_tests)

ready_rests : (weight : ℕ) (m : Machine) → IsSound m → HasWay m → Rests m (ready_for weight m)
ready_rests weight m sound way = record { quanta = ready_quanta weight m; pass = pass_stands weight m sound way; deep = deep_stands weight m sound way }

rests_on : (m n k : Machine) → k.seats.quanta ≡ n.seats.quanta → k.merges ≡ n.merges → Rests m n → Rests m k
rests_on m n k quanta merges r = grind (arith, common_steps, nat_tests)

works_on : (seat : ℕ) (m n k : Machine) → k.seats.quanta ≡ n.seats.quanta → k.merges ≡ n.merges → k.lists ≡ n.lists → Works seat m n → Works seat m k
works_on seat m n k h1 h2 h3 h4 = grind (arith, common_steps, nat_tests)

-- ---- an admission

taken_keeps : (seat : ℕ) (ws : List Write) (n : Machine) → ((taken_together seat ws n).seats.quanta ≡ n.seats.quanta) × ((taken_together seat ws n).merges ≡ n.merges)
taken_keeps seat ws n = grind (arith, common_steps, nat_tests)

admit_works : (m : Machine) (seat : ℕ) (op : Op) (outcome : Outcome) → IsSound m → HasWay m → Works seat m (admit m seat op outcome).state
admit_works m seat op outcome sound way = unless m.stopped
  where
    ready : Rests m (ready_for (total_weight (writes_of op)) m)
    ready = ready_rests (total_weight (writes_of op)) m sound way

    done : Rests m (note seat op Done (with_peak (taken_together seat (writes_of op) (ready_for (total_weight (writes_of op)) m))))
    done = grind (arith, common_steps, nat_tests, taken_keeps, rests_on)

    lost : (faults : ℕ) (c : Bool) → Rests m (note seat op FaultLost (stop (Faulted faults) (cond c m (deep_swapped m))))
    lost faults c = grind (arith, common_steps, nat_tests)

    failed : (commits faults : ℕ) (b : Bool)
        → Rests m (cond b (replied seat op FaultLost (stop (Faulted faults) (cond (commits == 0) m (deep_swapped m)))) (replied seat op FaultUnsure (stop (Faulted faults) (ready_for (total_weight (writes_of op)) m)))).state
    failed commits faults true = lost faults (commits == 0)
    failed commits faults false = rests_on m (ready_for (total_weight (writes_of op)) m) (note seat op FaultUnsure (stop (Faulted faults) (ready_for (total_weight (writes_of op)) m))) refl refl ready

    fitting : (e : Outcome) → Rests m (admit_fitting m seat op (total_weight (writes_of op)) e).state
    fitting (FailedAfter commits faults) = failed commits faults (nat_lt commits (swaps_due m))
    fitting Well = done
    fitting (FailedLooking faults) = done
    fitting (Broken page) = done
    fitting NoRoom = done

    full : (b : Bool) → Rests m (cond b (replied seat op (Full (charge m)) m) (admit_fitting m seat op (total_weight (writes_of op)) outcome)).state
    full true = record { quanta = refl; pass = inl refl; deep = inl refl }
    full false = fitting outcome

    refused : (o : Option Reply) → Works seat m (unless_refused o seat op m (admit_met m seat op outcome)).state
    refused (Some reply) = quiet seat m (note seat op reply m) refl refl
    refused None = inl (full (is_full m op))

    unless : (o : Option Why) → Works seat m (unless_stopped o seat op m
        (unless_refused (refused_first m op outcome) seat op m (admit_met m seat op outcome))).state
    unless (Some cause) = quiet seat m (note seat op (Stopped cause) m) refl refl
    unless None = refused (refused_first m op outcome)

-- ---- a payment

pay_works : (m : Machine) (seat : ℕ) (outcome : Outcome) → Works seat m (pay m seat outcome).state
pay_works m seat outcome = grind (arith, common_steps, nat_tests)

-- ---- a turn

chosen_works : (may_begin may_rotate : Bool) (seat : ℕ) (m : Machine) → IsSound m → HasWay m → Works seat m (chosen (choice may_begin may_rotate m) seat m)
chosen_works may_begin may_rotate seat m sound way = grind (arith, common_steps, nat_tests)

turn_works : (may_begin may_rotate : Bool) (m : Machine) (seat : ℕ) (outcome : Outcome) → IsSound m → HasWay m → Works seat m (do_turn (choice may_begin may_rotate m) outcome seat m).state
turn_works may_begin may_rotate m seat (FailedAfter commits faults) sound way = quiet seat m (stop (why.Faulted faults) m) refl refl
turn_works may_begin may_rotate m seat (Broken page) sound way = quiet seat m (stop (why.BadPage page) m) refl refl
turn_works may_begin may_rotate m seat Well sound way = chosen_works may_begin may_rotate seat m sound way
turn_works may_begin may_rotate m seat (FailedLooking faults) sound way = chosen_works may_begin may_rotate seat m sound way
turn_works may_begin may_rotate m seat NoRoom sound way = chosen_works may_begin may_rotate seat m sound way

work_turn_works : (m : Machine) (seat : ℕ) (outcome : Outcome) → IsSound m → HasWay m → Works seat m (work_turn m seat outcome).state
work_turn_works m seat outcome sound way = works_on seat m (work_turning m.stopped m seat outcome).state (work_turn m seat outcome).state refl refl refl (by m.stopped)
  where
    by : (o : Option Why) → Works seat m (work_turning o m seat outcome).state
    by (Some cause) = quiet seat m m refl refl
    by None = turn_works (not (memory_weight m.lists == 0)) (not (entries_weight m.lists.c1 == 0)) m seat outcome sound way

worker_turn_works : (m : Machine) (seat : ℕ) (outcome : Outcome) → IsSound m → HasWay m → Works seat m (worker_turn m seat outcome).state
worker_turn_works m seat outcome sound way =
    works_on seat m (worker_turning m.stopped (is_closed m) m seat outcome).state (worker_turn m seat outcome).state refl refl refl
    (by m.stopped (is_closed m))
  where
    by : (o : Option Why) (closed : Bool) → Works seat m (worker_turning o closed m seat outcome).state
    by (Some cause) closed = quiet seat m m refl refl
    by None true = quiet seat m m refl refl
    by None false = turn_works (nat_lt m.gears.sizes.low m.spring) false m seat outcome sound way

-- ---- any step

unless_quiet : (seat : ℕ) (op : Op) (m : Machine) (o : Option Why) (otherwise : Stepped) → Works seat m otherwise.state → Works seat m (unless_stopped o seat op m otherwise).state
unless_quiet seat op m o otherwise h1 = grind (arith, common_steps, nat_tests)

hold_works : (m : Machine) (seat : ℕ) (low high : Key) (outcome : Outcome) → Works seat m (do_hold m seat low high outcome).state
hold_works m seat low high outcome = grind (arith, common_steps, nat_tests)

next_works : (m : Machine) (seat n : ℕ) (outcome : Outcome) (held : Option (List Row)) → Works seat m (do_next m seat n outcome held).state
next_works m seat n outcome held = grind (arith, common_steps, nat_tests)

-- A step does one quantum, of one merge, or none. What it doesn't take a quantum of stands, or it was done and is swapped in, or it begins.
pub step_works : (m : Machine) (seat : ℕ) (k : Kind) (outcome : Outcome) → IsSound m → HasWay m → Rests m (stepped_as m seat k outcome).state ⊎ TakesQuantum seat m (stepped_as m seat k outcome).state
step_works m seat (kind.Admit op) outcome sound way = admit_works m seat op outcome sound way
step_works m seat kind.Pay outcome sound way = pay_works m seat outcome
step_works m seat (kind.Look op) outcome sound way = unless_quiet seat op m m.stopped (replied seat op (reply_unless outcome (answer_to_look op (contents_in m.lists))) m) (quiet seat m (note seat op (reply_unless outcome (answer_to_look op (contents_in m.lists))) m) refl refl)
step_works m seat (kind.Hold low high) outcome sound way = unless_quiet seat (Hold low high) m m.stopped (do_hold m seat low high outcome) (hold_works m seat low high outcome)
step_works m seat (kind.Next n) outcome sound way = unless_quiet seat (Next n) m m.stopped (do_next m seat n outcome (held_by seat m)) (next_works m seat n outcome (held_by seat m))
step_works m seat kind.Release outcome sound way = unless_quiet seat Release m m.stopped (replied seat Release (answer_to_release (held_by seat m)) (holding seat None m)) (quiet seat m (note seat Release (answer_to_release (held_by seat m)) (holding seat None m)) refl refl)
step_works m seat kind.WorkTurn outcome sound way = work_turn_works m seat outcome sound way
step_works m seat (kind.WorkEnd n) outcome sound way = quiet seat m (work_end m seat n).state refl refl
step_works m seat kind.WorkerTurn outcome sound way = worker_turn_works m seat outcome sound way
step_works m seat kind.Leave outcome sound way = quiet seat m (leave m seat).state refl refl
