-- The version rises by no more than the swaps and the rotations.
use Rattle.std.proofs.Common.{ℕ, Bool, cond, true, false, List, Option, Some, None, arith}
use Rattle.std.proofs.lemmas.Grind.{common_steps}
use Rattle.std.proofs.lemmas.Bool.Decides.{nat_tests}
use Rattle.std.specs.Prelude.{◌==◌, nat_lt}
use Rattle.blsm_model.specs.declared.key.Key.{Key}
use Rattle.blsm_model.specs.declared.row.Row.{Row}
use Rattle.blsm_model.specs.declared.op.Op.{Op}
use Rattle.blsm_model.specs.declared.op.Op.TheVariants.{Hold, Next, Release}
use Rattle.blsm_model.specs.declared.history.Why.{Why}
use Rattle.blsm_model.specs.declared.history.Why.TheVariants.{Faulted}
use Rattle.blsm_model.specs.declared.history.Reply.{Reply}
use Rattle.blsm_model.specs.declared.history.Reply.TheVariants.{Full, FaultLost, FaultUnsure}
use Rattle.blsm_model.specs.Histories.{writes_of, answer_to_release, answer_to_look}
use Rattle.blsm_model.specs.Legal.{total_weight}
use Rattle.tree_machine.specs.declared.step.Kind.{Kind}
use Rattle.tree_machine.specs.declared.step.Kind.TheVariants as kind
use Rattle.tree_machine.specs.Lists.{contents_in}
use Rattle.tree_machine.specs.Machine.{Machine, charge, held_by}
use Rattle.tree_machine.specs.Moves.{with_peak, stop}
use Rattle.tree_machine.specs.Steps.{
  Outcome,
  Well,
  FailedAfter,
  FailedLooking,
  Broken,
  NoRoom,
  Stepped,
  replied,
  unless_stopped,
  unless_refused,
  refused_first,
  swaps_due,
  admit,
  admit_met,
  admit_fitting,
  is_full,
  deep_swapped,
  ready_for,
  taken_together,
  reply_unless,
  do_hold,
  do_next,
  holding,
  pay,
  work_turn,
  worker_turn,
}
use Rattle.tree_machine.specs.Plays.{stepped_as}
use Rattle.tree_machine.specs.Layers.{IsSound}
use Rattle.tree_machine.proofs.Terms.{IsVersion}

-- ---- the merges' moves

ready_commits : (first weight : ℕ) (m : Machine) → IsSound m → IsVersion first m → IsVersion first (ready_for weight m)
ready_commits first weight m sound v = grind (arith, common_steps, nat_tests)

-- ---- an admission

taken_commits : (first seat : ℕ) (op : Op) (n : Machine) → IsVersion first n → IsVersion first (with_peak (taken_together seat (writes_of op) n))
taken_commits first seat op n v = grind (arith, common_steps, nat_tests)

unless_commits : (first seat : ℕ) (op : Op) (m : Machine) (o : Option Why) (otherwise : Stepped) → IsVersion first m → IsVersion first otherwise.state → IsVersion first (unless_stopped o seat op m otherwise).state
unless_commits first seat op m o otherwise h1 h2 = grind (arith, common_steps, nat_tests)

admit_commits : (first : ℕ) (m : Machine) (seat : ℕ) (op : Op) (outcome : Outcome) → IsSound m → IsVersion first m → IsVersion first (admit m seat op outcome).state
admit_commits first m seat op outcome sound v =
    unless_commits first seat op m m.stopped (unless_refused (refused_first m op outcome) seat op m (admit_met m seat op outcome)) v
    (refused (refused_first m op outcome))
  where
    ready : IsVersion first (ready_for (total_weight (writes_of op)) m)
    ready = ready_commits first (total_weight (writes_of op)) m sound v

    lost : (c : Bool) → IsVersion first (cond c m (deep_swapped m))
    lost c = grind (arith, common_steps, nat_tests)

    failed : (commits faults : ℕ) (b : Bool)
        → IsVersion first (cond b (replied seat op FaultLost (stop (Faulted faults) (cond (commits == 0) m (deep_swapped m)))) (replied seat op FaultUnsure (stop (Faulted faults) (ready_for (total_weight (writes_of op)) m)))).state
    failed commits faults true = lost (commits == 0)
    failed commits faults false = ready

    done : IsVersion first (with_peak (taken_together seat (writes_of op) (ready_for (total_weight (writes_of op)) m)))
    done = taken_commits first seat op (ready_for (total_weight (writes_of op)) m) ready

    fitting : (e : Outcome) → IsVersion first (admit_fitting m seat op (total_weight (writes_of op)) e).state
    fitting (FailedAfter commits faults) = failed commits faults (nat_lt commits (swaps_due m))
    fitting Well = done
    fitting (FailedLooking faults) = done
    fitting (Broken page) = done
    fitting NoRoom = done

    full : (b : Bool) → IsVersion first (cond b (replied seat op (Full (charge m)) m) (admit_fitting m seat op (total_weight (writes_of op)) outcome)).state
    full true = v
    full false = fitting outcome

    refused : (o : Option Reply) → IsVersion first (unless_refused o seat op m (admit_met m seat op outcome)).state
    refused (Some reply) = v
    refused None = full (is_full m op)

-- ---- payments and turns

pay_commits : (first : ℕ) (m : Machine) (seat : ℕ) (outcome : Outcome) → IsVersion first m → IsVersion first (pay m seat outcome).state
pay_commits first m seat outcome v = grind (arith, common_steps, nat_tests)

work_turn_commits : (first : ℕ) (m : Machine) (seat : ℕ) (outcome : Outcome) → IsSound m → IsVersion first m → IsVersion first (work_turn m seat outcome).state
work_turn_commits first m seat outcome sound v = grind (arith, common_steps, nat_tests)

worker_turn_commits : (first : ℕ) (m : Machine) (seat : ℕ) (outcome : Outcome) → IsSound m → IsVersion first m → IsVersion first (worker_turn m seat outcome).state
worker_turn_commits first m seat outcome sound v = grind (arith, common_steps, nat_tests)

-- ---- any step

hold_commits : (first : ℕ) (m : Machine) (seat : ℕ) (low high : Key) (outcome : Outcome) → IsVersion first m → IsVersion first (do_hold m seat low high outcome).state
hold_commits first m seat low high outcome h1 = grind (arith, common_steps, nat_tests)

next_commits : (first : ℕ) (m : Machine) (seat n : ℕ) (outcome : Outcome) (held : Option (List Row)) → IsVersion first m → IsVersion first (do_next m seat n outcome held).state
next_commits first m seat n outcome held h1 = grind (arith, common_steps, nat_tests)

pub step_commits : (first : ℕ) (m : Machine) (seat : ℕ) (k : Kind) (outcome : Outcome) → IsSound m → IsVersion first m → IsVersion first (stepped_as m seat k outcome).state
step_commits first m seat (kind.Admit op) outcome sound v = admit_commits first m seat op outcome sound v
step_commits first m seat kind.Pay outcome sound v = pay_commits first m seat outcome v
step_commits first m seat (kind.Look op) outcome sound v = unless_commits first seat op m m.stopped (replied seat op (reply_unless outcome (answer_to_look op (contents_in m.lists))) m) v v
step_commits first m seat (kind.Hold low high) outcome sound v = unless_commits first seat (Hold low high) m m.stopped (do_hold m seat low high outcome) v (hold_commits first m seat low high outcome v)
step_commits first m seat (kind.Next n) outcome sound v = unless_commits first seat (Next n) m m.stopped (do_next m seat n outcome (held_by seat m)) v (next_commits first m seat n outcome (held_by seat m) v)
step_commits first m seat kind.Release outcome sound v = unless_commits first seat Release m m.stopped (replied seat Release (answer_to_release (held_by seat m)) (holding seat None m)) v v
step_commits first m seat kind.WorkTurn outcome sound v = work_turn_commits first m seat outcome sound v
step_commits first m seat (kind.WorkEnd n) outcome sound v = v
step_commits first m seat kind.WorkerTurn outcome sound v = worker_turn_commits first m seat outcome sound v
step_commits first m seat kind.Leave outcome sound v = v
