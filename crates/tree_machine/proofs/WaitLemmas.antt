-- While each command writes once at most, none of table B's keys is ahead of the pass.
use Rattle.std.proofs.Common.{◌≡◌, refl, sym, subst, ℕ, ◌+◌, Bool, cond, true, false, not, ◌&&◌, ◌||◌, List, [], ◌∷◌, Option, Some, None, length, ◌≤◌, arith}
use Rattle.std.proofs.lemmas.Grind.{common_steps}
use Rattle.std.proofs.lemmas.Bool.Decides.{nat_tests}
use Rattle.std.proofs.lemmas.Bool.{and_parts, not-true}
use Rattle.std.specs.Prelude.{◌==◌, nat_le, nat_lt}
use Rattle.blsm_model.specs.declared.key.Key.{Key}
use Rattle.blsm_model.specs.declared.row.Row.{Row}
use Rattle.blsm_model.specs.declared.row.Value.{Value}
use Rattle.blsm_model.specs.declared.op.Op.{Op}
use Rattle.blsm_model.specs.declared.op.Op.TheVariants.{Hold, Next, Release}
use Rattle.blsm_model.specs.declared.op.Write.{Write}
use Rattle.blsm_model.specs.declared.history.Reply.{Reply}
use Rattle.blsm_model.specs.declared.history.Reply.TheVariants.{Done, Full, FaultLost, FaultUnsure}
use Rattle.blsm_model.specs.declared.history.Why.{Why}
use Rattle.blsm_model.specs.declared.history.Why.TheVariants.{Faulted}
use Rattle.blsm_model.specs.Geometry.{c1_mark}
use Rattle.blsm_model.specs.Histories.{writes_of, answer_to_look, answer_to_release}
use Rattle.blsm_model.specs.Legal.{total_weight}
use Rattle.blsm_model.specs.Values.{key_of}
use Rattle.record_delta.specs.Entries.{entries_weight}
use Rattle.record_delta.specs.Records.{record_of}
use Rattle.gear_sched.specs.Gears.{plan_for, first_debt, second_debt, deep_is_behind}
use Rattle.gear_sched.specs.declared.Plan.{Plan}
use Rattle.gear_sched.specs.declared.Plan.TheVariants.{Snow, Deep, Nothing}
use Rattle.tree_machine.specs.declared.step.Kind.{Kind}
use Rattle.tree_machine.specs.declared.step.Kind.TheVariants as kind
use Rattle.tree_machine.specs.declared.step.Step.{Step}
use Rattle.tree_machine.specs.Lists.{contents_in, memory_weight}
use Rattle.tree_machine.specs.Merges.{Merge, quantum_of}
use Rattle.tree_machine.specs.Layers.{HasWay, IsBehind, IsSound, WaitsBehind}
use Rattle.tree_machine.specs.Machine.{Machine, charge, held_by, in_deep, in_pass, is_closed, deep_done, pass_done}
use Rattle.tree_machine.specs.Moves.{
  begin_pass,
  deep_quantum,
  deep_quantum_of,
  end_pass,
  note,
  pass_quantum,
  pass_quantum_of,
  rotate,
  stop,
  swap_deep,
  swap_pass,
  with_peak,
}
use Rattle.tree_machine.specs.Steps.{
  Outcome,
  Well,
  FailedAfter,
  FailedLooking,
  Broken,
  NoRoom,
  Stepped,
  Choice,
  SwapDeep,
  SwapPass,
  DeepQuantum,
  PassQuantum,
  Begin,
  Rotate,
  Rest,
  admit,
  admit_fitting,
  admit_met,
  choice,
  chosen,
  deep_swapped,
  do_hold,
  do_next,
  do_pay,
  do_turn,
  forgive,
  holding,
  is_full,
  pay,
  pay_planned,
  pay_running,
  ready_for,
  refused_first,
  replied,
  reply_unless,
  swapped,
  swaps_due,
  taken_together,
  unless_refused,
  unless_stopped,
  work_turn,
  work_turning,
  worker_turn,
  worker_turning,
}
use Rattle.tree_machine.specs.Plays.{AllWriteOnce, GoesWell, WritesOnce, may_step, played, played_one, stepped, stepped_as}
use Rattle.tree_machine.specs.Stands.{Stands}
use Rattle.tree_machine.proofs.CarryLemmas.{no_pass_of, swapped_carries}
use Rattle.tree_machine.proofs.MergeLemmas.{groups_ahead, groups_sorted, still_behind}
use Rattle.tree_machine.proofs.PlayLemmas.{played_one_stands}
use Rattle.tree_machine.proofs.WriteLemmas.{write_waits}

abbrev Waits : Machine → Type 0
Waits m = WaitsBehind m.lists m.merges.pass

-- ---- the merges' moves

deep_swapped_waits : (m : Machine) → Waits m → Waits (deep_swapped m)
deep_swapped_waits m w = by (deep_done m)
  where
    by : (b : Bool) → Waits (cond b (swap_deep m) m)
    by true = w
    by false = w

swap_pass_waits : (m : Machine) → Waits (swap_pass m)
swap_pass_waits m = by (nat_le (c1_mark (end_pass m).gears.sizes) (entries_weight (end_pass m).lists.c1))
  where
    by : (b : Bool) → Waits (cond b (rotate (end_pass m)) (end_pass m))
    by true = refl
    by false = refl

swapped_waits : (m : Machine) → Waits m → Waits (swapped m)
swapped_waits m w = by (pass_done (deep_swapped m))
  where
    by : (b : Bool) → Waits (cond b (swap_pass (deep_swapped m)) (deep_swapped m))
    by true = swap_pass_waits (deep_swapped m)
    by false = deep_swapped_waits m w

begin_waits : (m : Machine) → m.merges.pass ≡ None → Waits m → Waits (begin_pass m)
begin_waits m none w = subst (IsBehind None) (sym (subst (WaitsBehind m.lists) none w)) tt

ready_waits : (weight : ℕ) (m : Machine) → IsSound m → HasWay m → Waits m → Waits (ready_for weight m)
ready_waits weight m sound way w =
    by (swapped m) (swapped_carries m sound way).sound (swapped_waits m w)
    (not (in_pass (swapped m)) && nat_lt (swapped m).gears.sizes.low ((swapped m).spring + weight)) refl
  where
    by : (n : Machine) → IsSound n → Waits n → (b : Bool) → (not (in_pass n) && nat_lt n.gears.sizes.low (n.spring + weight)) ≡ b
        → Waits (cond b (begin_pass n) n)
    by n sound_n waits true is =
        begin_waits n (no_pass_of n sound_n (not-true (in_pass n) (and_parts (not (in_pass n)) (nat_lt n.gears.sizes.low (n.spring + weight)) is).0)) waits
    by n sound_n waits false is = waits

pass_quantum_waits : (m : Machine) (seat : ℕ) → IsSound m → Waits m → Waits (pass_quantum seat m)
pass_quantum_waits m seat sound w = by m.merges.pass refl w
  where
    by : (p : Option Merge) → m.merges.pass ≡ p → WaitsBehind m.lists p → Waits (pass_quantum_of p seat m)
    by None is waits = w
    by (Some pass) is waits =
        still_behind pass.cursor (quantum_of m.gears.sizes.quantum pass m.lists.a m.lists.c1).groups m.lists.b
        (groups_sorted m.gears.sizes.quantum pass m.lists.a m.lists.c1 sound.layered.sorted_a sound.layered.sorted_c1)
        (groups_ahead m.gears.sizes.quantum pass m.lists.a m.lists.c1 sound.layered.sorted_a sound.layered.sorted_c1) waits

deep_quantum_waits : (m : Machine) (seat : ℕ) → Waits m → Waits (deep_quantum seat m)
deep_quantum_waits m seat w = by m.merges.deep
  where
    by : (p : Option Merge) → Waits (deep_quantum_of p seat m)
    by None = w
    by (Some deep) = w

-- ---- an admission

-- of a command that writes once at most
taken_waits : (seat : ℕ) (writes : List Write) (m : Machine) → length writes ≤ 1 → Waits m → Waits (with_peak (taken_together seat writes m))
taken_waits seat [] m once w = w
taken_waits seat (write ∷ []) m once w = write_waits (key_of write, record_of write) m.lists m.merges.pass w
taken_waits seat (write ∷ more ∷ writes) m once w = absurd (omega (arith, once))

unless_waits : (seat : ℕ) (op : Op) (m : Machine) (o : Option Why) (otherwise : Stepped) → Waits m → Waits otherwise.state
    → Waits (unless_stopped o seat op m otherwise).state
unless_waits seat op m (Some why) otherwise w then = w
unless_waits seat op m None otherwise w then = then

admit_waits : (m : Machine) (seat : ℕ) (op : Op) (outcome : Outcome) → IsSound m → HasWay m → WritesOnce (kind.Admit op) → Waits m
    → Waits (admit m seat op outcome).state
admit_waits m seat op outcome sound way once w =
    unless_waits seat op m m.stopped (unless_refused (refused_first m op outcome) seat op m (admit_met m seat op outcome)) w
    (refused (refused_first m op outcome))
  where
    ready : Waits (ready_for (total_weight (writes_of op)) m)
    ready = ready_waits (total_weight (writes_of op)) m sound way w

    lost : (faults : ℕ) (c : Bool) → Waits (stop (Faulted faults) (cond c m (deep_swapped m)))
    lost faults true = w
    lost faults false = deep_swapped_waits m w

    failed : (commits faults : ℕ) (b : Bool)
        → Waits (cond b (replied seat op FaultLost (stop (Faulted faults) (cond (commits == 0) m (deep_swapped m))))
        (replied seat op FaultUnsure (stop (Faulted faults) (ready_for (total_weight (writes_of op)) m)))).state
    failed commits faults true = lost faults (commits == 0)
    failed commits faults false = ready

    done : Waits (note seat op Done (with_peak (taken_together seat (writes_of op) (ready_for (total_weight (writes_of op)) m))))
    done = taken_waits seat (writes_of op) (ready_for (total_weight (writes_of op)) m) once ready

    fitting : (e : Outcome) → Waits (admit_fitting m seat op (total_weight (writes_of op)) e).state
    fitting (FailedAfter commits faults) = failed commits faults (nat_lt commits (swaps_due m))
    fitting Well = done
    fitting (FailedLooking faults) = done
    fitting (Broken page) = done
    fitting NoRoom = done

    full : (b : Bool) → Waits (cond b (replied seat op (Full (charge m)) m) (admit_fitting m seat op (total_weight (writes_of op)) outcome)).state
    full true = w
    full false = fitting outcome

    refused : (o : Option Reply) → Waits (unless_refused o seat op m (admit_met m seat op outcome)).state
    refused (Some reply) = w
    refused None = full (is_full m op)

-- ---- payments and turns

do_pay_waits : (m : Machine) (quantum : Machine → Machine) (seat : ℕ) (outcome : Outcome) → Waits m → Waits (quantum m)
    → Waits (do_pay m quantum seat outcome).state
do_pay_waits m quantum seat (FailedAfter commits faults) w then = w
do_pay_waits m quantum seat (Broken page) w then = w
do_pay_waits m quantum seat (FailedLooking faults) w then = then
do_pay_waits m quantum seat Well w then = then
do_pay_waits m quantum seat NoRoom w then = then

-- the lists and the merges of what was forgiven are the machine's
forgave_sound : (m : Machine) (seat : ℕ) → IsSound m → IsSound (forgive seat m)
forgave_sound m seat sound = record { layered = sound.layered; light = sound.light; charged = sound.charged; pass = sound.pass; deep = sound.deep }

pay_waits : (m : Machine) (seat : ℕ) (outcome : Outcome) → IsSound m → Waits m → Waits (pay m seat outcome).state
pay_waits m seat outcome sound w = by m.stopped
  where
    planned : (plan : Plan) → Waits (pay_planned plan (forgive seat m) seat outcome).state
    planned Snow = do_pay_waits (forgive seat m) (pass_quantum seat) seat outcome w (pass_quantum_waits (forgive seat m) seat (forgave_sound m seat sound) w)
    planned Deep = do_pay_waits (forgive seat m) (deep_quantum seat) seat outcome w (deep_quantum_waits (forgive seat m) seat w)
    planned Nothing = w

    by : (o : Option Why) → Waits (pay_running o m seat outcome).state
    by (Some cause) = w
    by None = planned (plan_for (first_debt (forgive seat m).gears seat) (second_debt (forgive seat m).gears seat))

chosen_waits : (may_begin may_rotate : Bool) (seat : ℕ) (m : Machine) → IsSound m → Waits m → Waits (chosen (choice may_begin may_rotate m) seat m)
chosen_waits may_begin may_rotate seat m sound w = by_deep (deep_done m)
  where
    by_rest : (b c : Bool) → in_pass m ≡ false → Waits (chosen (cond b Begin (cond c Rotate Rest)) seat m)
    by_rest true c none = begin_waits m (no_pass_of m sound none) w
    by_rest false true none = w
    by_rest false false none = w

    by_quantum : (a p : Bool) → in_pass m ≡ p
        → Waits (chosen (cond a DeepQuantum (cond p PassQuantum (cond may_begin Begin (cond may_rotate Rotate Rest)))) seat m)
    by_quantum true p is = deep_quantum_waits m seat w
    by_quantum false true is = pass_quantum_waits m seat sound w
    by_quantum false false is = by_rest may_begin may_rotate is

    by_pass : (b : Bool)
        → Waits (chosen (cond b SwapPass (cond (in_deep m && (not (in_pass m) || deep_is_behind m.gears)) DeepQuantum
        (cond (in_pass m) PassQuantum (cond may_begin Begin (cond may_rotate Rotate Rest))))) seat m)
    by_pass true = swap_pass_waits m
    by_pass false = by_quantum (in_deep m && (not (in_pass m) || deep_is_behind m.gears)) (in_pass m) refl

    by_deep : (b : Bool)
        → Waits (chosen (cond b SwapDeep (cond (pass_done m) SwapPass (cond (in_deep m && (not (in_pass m) || deep_is_behind m.gears)) DeepQuantum
        (cond (in_pass m) PassQuantum (cond may_begin Begin (cond may_rotate Rotate Rest)))))) seat m)
    by_deep true = w
    by_deep false = by_pass (pass_done m)

do_turn_waits : (c : Choice) (outcome : Outcome) (seat : ℕ) (m : Machine) → Waits m → Waits (chosen c seat m) → Waits (do_turn c outcome seat m).state
do_turn_waits c (FailedAfter commits faults) seat m w then = w
do_turn_waits c (Broken page) seat m w then = w
do_turn_waits c (FailedLooking faults) seat m w then = then
do_turn_waits c Well seat m w then = then
do_turn_waits c NoRoom seat m w then = then

turn_waits : (may_begin may_rotate : Bool) (m : Machine) (seat : ℕ) (outcome : Outcome) → IsSound m → Waits m
    → Waits (do_turn (choice may_begin may_rotate m) outcome seat m).state
turn_waits may_begin may_rotate m seat outcome sound w =
    do_turn_waits (choice may_begin may_rotate m) outcome seat m w (chosen_waits may_begin may_rotate seat m sound w)

work_turn_waits : (m : Machine) (seat : ℕ) (outcome : Outcome) → IsSound m → Waits m → Waits (work_turn m seat outcome).state
work_turn_waits m seat outcome sound w = by m.stopped
  where
    by : (o : Option Why) → Waits (work_turning o m seat outcome).state
    by (Some cause) = w
    by None = turn_waits (not (memory_weight m.lists == 0)) (not (entries_weight m.lists.c1 == 0)) m seat outcome sound w

worker_turn_waits : (m : Machine) (seat : ℕ) (outcome : Outcome) → IsSound m → Waits m → Waits (worker_turn m seat outcome).state
worker_turn_waits m seat outcome sound w = by m.stopped (is_closed m)
  where
    by : (o : Option Why) (b : Bool) → Waits (worker_turning o b m seat outcome).state
    by (Some cause) b = w
    by None true = w
    by None false = turn_waits (nat_lt m.gears.sizes.low m.spring) false m seat outcome sound w

-- ---- any step, and a list of them

hold_waits : (m : Machine) (seat : ℕ) (low high : Key) (outcome : Outcome) → Waits m → Waits (do_hold m seat low high outcome).state
hold_waits m seat low high outcome h1 = grind (arith, common_steps, nat_tests)

next_waits : (m : Machine) (seat n : ℕ) (outcome : Outcome) (held : Option (List Row)) → Waits m → Waits (do_next m seat n outcome held).state
next_waits m seat n outcome held h1 = grind (arith, common_steps, nat_tests)

step_waits : (m : Machine) (seat : ℕ) (k : Kind) (outcome : Outcome) → IsSound m → HasWay m → WritesOnce k → Waits m
    → Waits (stepped_as m seat k outcome).state
step_waits m seat (kind.Admit op) outcome sound way once w = admit_waits m seat op outcome sound way once w
step_waits m seat kind.Pay outcome sound way once w = pay_waits m seat outcome sound w
step_waits m seat (kind.Look op) outcome sound way once w =
    unless_waits seat op m m.stopped (replied seat op (reply_unless outcome (answer_to_look op (contents_in m.lists))) m) w w
step_waits m seat (kind.Hold low high) outcome sound way once w =
    unless_waits seat (Hold low high) m m.stopped (do_hold m seat low high outcome) w (hold_waits m seat low high outcome w)
step_waits m seat (kind.Next n) outcome sound way once w =
    unless_waits seat (Next n) m m.stopped (do_next m seat n outcome (held_by seat m)) w (next_waits m seat n outcome (held_by seat m) w)
step_waits m seat kind.Release outcome sound way once w =
    unless_waits seat Release m m.stopped (replied seat Release (answer_to_release (held_by seat m)) (holding seat None m)) w w
step_waits m seat kind.WorkTurn outcome sound way once w = work_turn_waits m seat outcome sound w
step_waits m seat (kind.WorkEnd n) outcome sound way once w = w
step_waits m seat kind.WorkerTurn outcome sound way once w = worker_turn_waits m seat outcome sound w
step_waits m seat kind.Leave outcome sound way once w = w

one_waits : (m : Machine) (made : Step × Outcome) → IsSound m → HasWay m → WritesOnce made.0.kind → Waits m → Waits (played_one m made)
one_waits m made sound way once w = by (may_step m made.0)
  where
    by : (b : Bool) → Waits (cond b (stepped m made.0 made.1).state m)
    by true = step_waits m made.0.seat made.0.kind made.1 sound way once w
    by false = w

-- so each list of steps of which each writes once at most keeps it
pub all_wait : (opening : List (Key × Value)) (m : Machine) (steps : List (Step × Outcome)) → Stands opening m → GoesWell m steps → AllWriteOnce steps
    → Waits m → Waits (played m steps)
all_wait opening m [] stands well once w = w
all_wait opening m (made ∷ steps) stands well once w =
    all_wait opening (played_one m made) steps (played_one_stands opening m made stands well.0 well.1) well.2 once.1
    (one_waits m made stands.sound well.0 once.0 w)
