-- C2 keeps bases only, and C1' isn't empty while a deep merge runs.
use Rattle.std.proofs.Common.{◌≡◌, ◌<◌, refl, sym, subst, ℕ, ◌+◌, Bool, cond, true, false, not, ◌&&◌, ◌||◌, List, [], ◌∷◌, Option, Some, None, arith}
use Rattle.std.proofs.lemmas.Grind.{common_steps}
use Rattle.std.proofs.lemmas.Bool.Decides.{nat_tests}
use Rattle.std.specs.Prelude.{◌==◌, nat_lt}
use Rattle.std.proofs.lemmas.Bool.{false≢true}
use Rattle.blsm_model.specs.declared.key.Key.{Key}
use Rattle.blsm_model.specs.declared.row.Row.{Row}
use Rattle.blsm_model.specs.declared.op.Op.{Op}
use Rattle.blsm_model.specs.declared.op.Op.TheVariants.{Hold, Next, Release}
use Rattle.blsm_model.specs.declared.history.Reply.{Reply}
use Rattle.blsm_model.specs.declared.history.Why.{Why}
use Rattle.blsm_model.specs.declared.history.Why.TheVariants.{Faulted}
use Rattle.blsm_model.specs.declared.history.Reply.TheVariants.{Done, Full, FaultLost, FaultUnsure}
use Rattle.blsm_model.specs.Geometry.{c1_mark}
use Rattle.blsm_model.specs.Histories.{writes_of, answer_to_release, answer_to_look}
use Rattle.blsm_model.specs.Legal.{total_weight}
use Rattle.record_delta.specs.Entries.{Entries, settled_entries}
use Rattle.gear_sched.specs.Gears.{plan_for, first_debt, second_debt, deep_is_behind}
use Rattle.gear_sched.specs.declared.Plan.{Plan}
use Rattle.tree_machine.specs.declared.step.Kind.{Kind}
use Rattle.tree_machine.specs.declared.step.Kind.TheVariants as kind
use Rattle.tree_machine.specs.Lists.{contents_in}
use Rattle.tree_machine.specs.Merges.{is_empty}
use Rattle.tree_machine.specs.Machine.{Machine, in_pass, in_deep, pass_done, deep_done, is_closed, charge, held_by}
use Rattle.tree_machine.specs.Moves.{begin_pass, swap_pass, swap_deep, with_peak, note, stop}
use Rattle.tree_machine.specs.Steps.{
  Outcome,
  Well,
  FailedAfter,
  FailedLooking,
  Broken,
  NoRoom,
  Stepped,
  SwapDeep,
  SwapPass,
  DeepQuantum,
  PassQuantum,
  Begin,
  Rotate,
  Rest,
  choice,
  chosen,
  replied,
  unless_stopped,
  unless_refused,
  refused_first,
  swaps_due,
  admit,
  admit_met,
  admit_fitting,
  is_full,
  deep_swapped,
  swapped,
  ready_for,
  taken_together,
  reply_unless,
  do_hold,
  do_next,
  holding,
  forgive,
  pay,
  pay_running,
  pay_planned,
  do_pay,
  do_turn,
  worker_turning,
  work_turn,
  worker_turn,
}
use Rattle.tree_machine.specs.Plays.{stepped_as}
use Rattle.tree_machine.specs.Layers.{IsSound, AreBases, AreSettled}
use Rattle.tree_machine.proofs.WeightLemmas.{deep_output}

-- ---- the lists

settled_bases : (es : Entries) → AreBases (settled_entries es)
settled_bases [] = tt
settled_bases (e ∷ es) = grind (arith, common_steps, nat_tests, settled_bases es)

-- ---- the merges' moves

swap_deep_settles : (m : Machine) → IsSound m → deep_done m ≡ true → AreSettled m → AreSettled (swap_deep m)
swap_deep_settles m sound done s = grind (arith, common_steps, nat_tests, settled_bases, deep_output)

deep_swapped_settles : (m : Machine) → IsSound m → AreSettled m → AreSettled (deep_swapped m)
deep_swapped_settles m sound s = grind (arith, common_steps, nat_tests, swap_deep_settles)

same_sizes : (m : Machine) → (deep_swapped m).gears.sizes ≡ m.gears.sizes
same_sizes m = grind (arith, common_steps, nat_tests)

ready_settles : (weight : ℕ) (m : Machine) → IsSound m → 0 < c1_mark m.gears.sizes → AreSettled m → AreSettled (ready_for weight m)
ready_settles weight m sound mark s =
    begins (swapped m) (not (in_pass (swapped m)) && nat_lt (swapped m).gears.sizes.low ((swapped m).spring + weight))
    (swaps (deep_swapped m) (pass_done (deep_swapped m)) (subst (λ sizes. 0 < c1_mark sizes) (sym (same_sizes m)) mark) (deep_swapped_settles m sound s))
  where
    begins : (n : Machine) (b : Bool) → AreSettled n → AreSettled (cond b (begin_pass n) n)
    begins n b h1 = grind (arith, common_steps, nat_tests)

    swaps : (n : Machine) (b : Bool) → 0 < c1_mark n.gears.sizes → AreSettled n → AreSettled (cond b (swap_pass n) n)
    swaps n b h1 h2 = grind (arith, common_steps, nat_tests)

-- ---- an admission

taken_settles : (seat : ℕ) (op : Op) (n : Machine) → AreSettled n → AreSettled (with_peak (taken_together seat (writes_of op) n))
taken_settles seat op n s = grind (arith, common_steps, nat_tests)

-- a note or a stop keeps it
noted : (seat : ℕ) (op : Op) (reply : Reply) (n : Machine) → AreSettled n → AreSettled (note seat op reply n)
noted seat op reply n s = record { bases = s.bases; merging = s.merging }

stopped : (cause : Why) (n : Machine) → AreSettled n → AreSettled (stop cause n)
stopped cause n s = record { bases = s.bases; merging = s.merging }

unless_settles : (seat : ℕ) (op : Op) (m : Machine) (o : Option Why) (otherwise : Stepped) → AreSettled m → AreSettled otherwise.state → AreSettled (unless_stopped o seat op m otherwise).state
unless_settles seat op m o otherwise h1 h2 = grind (arith, common_steps, nat_tests)

admit_settles : (m : Machine) (seat : ℕ) (op : Op) (outcome : Outcome) → IsSound m → 0 < c1_mark m.gears.sizes → AreSettled m → AreSettled (admit m seat op outcome).state
admit_settles m seat op outcome sound mark s =
    unless_settles seat op m m.stopped (unless_refused (refused_first m op outcome) seat op m (admit_met m seat op outcome)) s
    (refused (refused_first m op outcome))
  where
    ready : AreSettled (ready_for (total_weight (writes_of op)) m)
    ready = ready_settles (total_weight (writes_of op)) m sound mark s

    lost : (faults : ℕ) (c : Bool) → AreSettled (stop (Faulted faults) (cond c m (deep_swapped m)))
    lost faults true = stopped (Faulted faults) m s
    lost faults false = stopped (Faulted faults) (deep_swapped m) (deep_swapped_settles m sound s)

    failed : (commits faults : ℕ) (b : Bool)
        → AreSettled (cond b (replied seat op FaultLost (stop (Faulted faults) (cond (commits == 0) m (deep_swapped m)))) (replied seat op FaultUnsure (stop (Faulted faults) (ready_for (total_weight (writes_of op)) m)))).state
    failed commits faults true = noted seat op FaultLost (stop (Faulted faults) (cond (commits == 0) m (deep_swapped m))) (lost faults (commits == 0))
    failed commits faults false = noted seat op FaultUnsure (stop (Faulted faults) (ready_for (total_weight (writes_of op)) m)) (stopped (Faulted faults) (ready_for (total_weight (writes_of op)) m) ready)

    done : AreSettled (note seat op Done (with_peak (taken_together seat (writes_of op) (ready_for (total_weight (writes_of op)) m))))
    done = noted seat op Done (with_peak (taken_together seat (writes_of op) (ready_for (total_weight (writes_of op)) m))) (taken_settles seat op (ready_for (total_weight (writes_of op)) m) ready)

    fitting : (e : Outcome) → AreSettled (admit_fitting m seat op (total_weight (writes_of op)) e).state
    fitting (FailedAfter commits faults) = failed commits faults (nat_lt commits (swaps_due m))
    fitting Well = done
    fitting (FailedLooking faults) = done
    fitting (Broken page) = done
    fitting NoRoom = done

    full : (b : Bool) → AreSettled (cond b (replied seat op (Full (charge m)) m) (admit_fitting m seat op (total_weight (writes_of op)) outcome)).state
    full true = noted seat op (Full (charge m)) m s
    full false = fitting outcome

    refused : (o : Option Reply) → AreSettled (unless_refused o seat op m (admit_met m seat op outcome)).state
    refused (Some reply) = noted seat op reply m s
    refused None = full (is_full m op)

-- ---- payments and turns

pay_settles : (m : Machine) (seat : ℕ) (outcome : Outcome) → AreSettled m → AreSettled (pay m seat outcome).state
pay_settles m seat outcome s = by m.stopped
  where
    forgave : AreSettled (forgive seat m)
    forgave = record { bases = s.bases; merging = s.merging }

    owing : (quantum : Machine → Machine) → AreSettled (quantum (forgive seat m)) → (e : Outcome) → AreSettled (do_pay (forgive seat m) quantum seat e).state
    owing quantum h1 e = grind (arith, common_steps, nat_tests)

    planned : (plan : Plan) → AreSettled (pay_planned plan (forgive seat m) seat outcome).state
    planned plan = grind (arith, common_steps, nat_tests)

    by : (o : Option Why) → AreSettled (pay_running o m seat outcome).state
    by (Some cause) = s
    by None = planned (plan_for (first_debt (forgive seat m).gears seat) (second_debt (forgive seat m).gears seat))

chosen_settles : (may_begin may_rotate : Bool) (seat : ℕ) (m : Machine) → IsSound m → 0 < c1_mark m.gears.sizes → (may_rotate ≡ true → is_empty m.lists.c1 ≡ false) → AreSettled m
    → AreSettled (chosen (choice may_begin may_rotate m) seat m)
chosen_settles may_begin may_rotate seat m sound mark some s = by_deep (deep_done m) refl
  where
    by_rest : (b c : Bool) → (c ≡ true → is_empty m.lists.c1 ≡ false) → AreSettled (chosen (cond b Begin (cond c Rotate Rest)) seat m)
    by_rest b c h1 = grind (arith, common_steps, nat_tests)

    by_quantum : (a p : Bool) → AreSettled (chosen (cond a DeepQuantum (cond p PassQuantum (cond may_begin Begin (cond may_rotate Rotate Rest)))) seat m)
    by_quantum a p = grind (arith, common_steps, nat_tests)

    by_pass : (b : Bool)
        → AreSettled (chosen (cond b SwapPass (cond (in_deep m && (not (in_pass m) || deep_is_behind m.gears)) DeepQuantum (cond (in_pass m) PassQuantum (cond may_begin Begin (cond may_rotate Rotate Rest))))) seat m)
    by_pass b = grind (arith, common_steps, nat_tests)

    by_deep : (b : Bool) → deep_done m ≡ b
        → AreSettled (chosen (cond b SwapDeep (cond (pass_done m) SwapPass (cond (in_deep m && (not (in_pass m) || deep_is_behind m.gears)) DeepQuantum
        (cond (in_pass m) PassQuantum (cond may_begin Begin (cond may_rotate Rotate Rest)))))) seat m)
    by_deep true is = swap_deep_settles m sound is s
    by_deep false is = by_pass (pass_done m)

turn_settles : (may_begin may_rotate : Bool) (m : Machine) (seat : ℕ) (outcome : Outcome) → IsSound m → 0 < c1_mark m.gears.sizes → (may_rotate ≡ true → is_empty m.lists.c1 ≡ false) → AreSettled m
    → AreSettled (do_turn (choice may_begin may_rotate m) outcome seat m).state
turn_settles may_begin may_rotate m seat outcome h1 h2 h3 h4 = grind (arith, common_steps, nat_tests, stopped, chosen_settles)

work_turn_settles : (m : Machine) (seat : ℕ) (outcome : Outcome) → IsSound m → 0 < c1_mark m.gears.sizes → AreSettled m → AreSettled (work_turn m seat outcome).state
work_turn_settles m seat outcome sound mark s = grind (arith, common_steps, nat_tests, common_steps, nat_tests, turn_settles)

worker_turn_settles : (m : Machine) (seat : ℕ) (outcome : Outcome) → IsSound m → 0 < c1_mark m.gears.sizes → AreSettled m → AreSettled (worker_turn m seat outcome).state
worker_turn_settles m seat outcome sound mark s = let t = by m.stopped (is_closed m) in record { bases = t.bases; merging = t.merging }
  where
    by : (o : Option Why) (b : Bool) → AreSettled (worker_turning o b m seat outcome).state
    by (Some cause) b = s
    by None true = s
    by None false = turn_settles (nat_lt m.gears.sizes.low m.spring) false m seat outcome sound mark (λ may. absurd (false≢true may)) s

-- ---- any step

hold_settles : (m : Machine) (seat : ℕ) (low high : Key) (outcome : Outcome) → AreSettled m → AreSettled (do_hold m seat low high outcome).state
hold_settles m seat low high outcome h1 = grind (arith, common_steps, nat_tests)

next_settles : (m : Machine) (seat n : ℕ) (outcome : Outcome) (held : Option (List Row)) → AreSettled m → AreSettled (do_next m seat n outcome held).state
next_settles m seat n outcome held h1 = grind (arith, common_steps, nat_tests)

-- C2 keeps bases only, and C1' isn't empty while a deep merge runs
pub step_settles : (m : Machine) (seat : ℕ) (k : Kind) (outcome : Outcome) → IsSound m → 0 < c1_mark m.gears.sizes → AreSettled m → AreSettled (stepped_as m seat k outcome).state
step_settles m seat (kind.Admit op) outcome sound mark s = admit_settles m seat op outcome sound mark s
step_settles m seat kind.Pay outcome sound mark s = pay_settles m seat outcome s
step_settles m seat (kind.Look op) outcome sound mark s =
    unless_settles seat op m m.stopped (replied seat op (reply_unless outcome (answer_to_look op (contents_in m.lists))) m) s (record { bases = s.bases; merging = s.merging })
step_settles m seat (kind.Hold low high) outcome sound mark s = unless_settles seat (Hold low high) m m.stopped (do_hold m seat low high outcome) s (hold_settles m seat low high outcome s)
step_settles m seat (kind.Next n) outcome sound mark s = unless_settles seat (Next n) m m.stopped (do_next m seat n outcome (held_by seat m)) s (next_settles m seat n outcome (held_by seat m) s)
step_settles m seat kind.Release outcome sound mark s =
    unless_settles seat Release m m.stopped (replied seat Release (answer_to_release (held_by seat m)) (holding seat None m)) s (record { bases = s.bases; merging = s.merging })
step_settles m seat kind.WorkTurn outcome sound mark s = work_turn_settles m seat outcome sound mark s
step_settles m seat (kind.WorkEnd n) outcome sound mark s = record { bases = s.bases; merging = s.merging }
step_settles m seat kind.WorkerTurn outcome sound mark s = worker_turn_settles m seat outcome sound mark s
step_settles m seat kind.Leave outcome sound mark s = record { bases = s.bases; merging = s.merging }
