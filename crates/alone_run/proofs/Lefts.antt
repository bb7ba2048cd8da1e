-- Who left is read by no step but a worker's: every other step is the same, whoever left.
use Rattle.std.proofs.Common.{◌≡◌, ◌∙◌, refl, ap, ℕ, zero, suc, ◌+◌, ◌-◌, Bool, cond, List, [], ◌∷◌, Option, Some, None, true, false}
use Rattle.std.proofs.lemmas.Grind.{common_steps}
use Rattle.std.proofs.lemmas.Bool.Decides.{nat_tests}
use Rattle.std.proofs.Common.{arith}
use Rattle.blsm_model.specs.Histories.{answer_to_release, answer_to_look}
use Rattle.blsm_model.specs.declared.history.Reply.{Reply}
use Rattle.blsm_model.specs.declared.history.Why.{Why}
use Rattle.blsm_model.specs.declared.op.Op.{Op}
use Rattle.blsm_model.specs.declared.op.Op.TheVariants.{Hold, Next, Release, Work}
use Rattle.blsm_model.specs.declared.op.Write.{Write}
use Rattle.blsm_model.specs.declared.row.Row.{Row}
use Rattle.gear_sched.specs.Gears.{first_debt, second_debt}
use Rattle.tree_machine.specs.Lists.{contents_in}
use Rattle.tree_machine.specs.Machine.{Machine, held_by, owes, work_of}
use Rattle.tree_machine.specs.Steps.{
  Choice,
  Well,
  admit,
  admit_met,
  chosen,
  do_hold,
  do_next,
  holding,
  pay,
  ready_for,
  refused_first,
  replied,
  taken_together,
  unless_refused,
  unless_stopped,
  work_end,
  work_turn,
  look,
}
use Rattle.alone_run.specs.Alone.{all_paid, is_over, paid, turned}
use Rattle.alone_run.proofs.Resumed.{alone_resumed, done_resumed}
use Rattle.blsm_model.specs.Legal.{is_look}

-- the callers left as this list says
abbrev pub with_left : List Bool → Machine → Machine
with_left l m = record m { seats = record m.seats { left = l } }

if_left : (l : List Bool) (b : Bool) (x y : Machine) → cond b (with_left l x) (with_left l y) ≡ with_left l (cond b x y)
if_left l b x y = grind (arith, common_steps, nat_tests)

-- ---- moves

ready_left : (weight : ℕ) (l : List Bool) (m : Machine) → ready_for weight (with_left l m) ≡ with_left l (ready_for weight m)
ready_left weight l m = grind (arith, common_steps, nat_tests)

taken_left : (seat : ℕ) (ws : List Write) (l : List Bool) (m : Machine)
    → taken_together seat ws (with_left l m) ≡ with_left l (taken_together seat ws m)
taken_left seat ws l m = grind (arith, common_steps, nat_tests)

chosen_left : (c : Choice) (seat : ℕ) (l : List Bool) (m : Machine) → chosen c seat (with_left l m) ≡ with_left l (chosen c seat m)
chosen_left c seat l m = grind (arith, common_steps, nat_tests)

-- ---- steps

met_left : (seat : ℕ) (op : Op) (l : List Bool) (m : Machine) → (admit_met (with_left l m) seat op Well).state ≡ with_left l
    (admit_met m seat op Well).state
met_left seat op l m = grind (arith, common_steps, nat_tests, ready_left, taken_left)

admit_left : (seat : ℕ) (op : Op) (l : List Bool) (m : Machine) → (admit (with_left l m) seat op Well).state ≡ with_left l (admit m seat op Well).state
admit_left seat op l m = by m.stopped (refused_first m op Well)
  where
    by : (o : Option Why) (refused : Option Reply)
        → (unless_stopped o seat op (with_left l m) (unless_refused refused seat op (with_left l m) (admit_met (with_left l m) seat op Well))).state
        ≡ with_left l (unless_stopped o seat op m (unless_refused refused seat op m (admit_met m seat op Well))).state
    by (Some why) refused = refl
    by None (Some reply) = refl
    by None None = met_left seat op l m

pay_left : (seat : ℕ) (l : List Bool) (m : Machine) → (pay (with_left l m) seat Well).state ≡ with_left l (pay m seat Well).state
pay_left seat l m = grind (arith, common_steps, nat_tests)

pub paid_left : (fuel seat : ℕ) (l : List Bool) (m : Machine) → paid fuel seat (with_left l m) ≡ with_left l (paid fuel seat m)
paid_left zero seat l m = refl
paid_left (suc fuel) seat l m = ap (λ n. cond (owes seat m) n (with_left l m)) (ap (paid fuel seat) (pay_left seat l m) ∙ paid_left fuel seat l (pay m seat Well).state) ∙ if_left l (owes seat m) (paid fuel seat (pay m seat Well).state) m

pub all_paid_left : (seat : ℕ) (l : List Bool) (m : Machine) → all_paid seat (with_left l m) ≡ with_left l (all_paid seat m)
all_paid_left seat l m = paid_left (first_debt m.gears seat + second_debt m.gears seat) seat l m

turn_left : (seat : ℕ) (l : List Bool) (m : Machine) → (work_turn (with_left l m) seat Well).state ≡ with_left l (work_turn m seat Well).state
turn_left seat l m = grind (arith, common_steps, nat_tests, chosen_left)

pub turned_left : (n seat : ℕ) (l : List Bool) (m : Machine) → turned n seat (with_left l m) ≡ with_left l (turned n seat m)
turned_left zero seat l m = refl
turned_left (suc n) seat l m = ap (λ x. cond (is_over (work_of seat m)) (with_left l m) x) (ap (turned n seat) (turn_left seat l m) ∙ turned_left n seat l (work_turn m seat Well).state) ∙ if_left l (is_over (work_of seat m)) m (turned n seat (work_turn m seat Well).state)

-- a command that only looks, and a write
look_left : (seat : ℕ) (op : Op) (l : List Bool) (m : Machine) → (look (with_left l m) seat op Well).state ≡ with_left l (look m seat op Well).state
look_left seat op l m = by m.stopped
  where
    by : (o : Option Why) → (unless_stopped o seat op (with_left l m) (replied seat op (answer_to_look op (contents_in m.lists)) (with_left l m))).state
        ≡ with_left l (unless_stopped o seat op m (replied seat op (answer_to_look op (contents_in m.lists)) m)).state
    by o = grind (arith, common_steps, nat_tests)

other_left : (seat : ℕ) (op : Op) (l : List Bool) (m : Machine) (looks : Bool)
    → cond looks (look (with_left l m) seat op Well).state (all_paid seat (admit (with_left l m) seat op Well).state) ≡ with_left l (cond looks (look m seat op Well).state (all_paid seat (admit m seat op Well).state))
other_left seat op l m true = look_left seat op l m
other_left seat op l m false = ap (all_paid seat) (admit_left seat op l m) ∙ all_paid_left seat l (admit m seat op Well).state

pub done_left : (seat : ℕ) (op : Op) (l : List Bool) (m : Machine) → done_resumed seat op (with_left l m) ≡ with_left l (done_resumed seat op m)
done_left seat (Hold low high) l m = by m.stopped
  where
    by : (o : Option Why) → (unless_stopped o seat (Hold low high) (with_left l m) (do_hold (with_left l m) seat low high Well)).state ≡ with_left l (unless_stopped o seat (Hold low high) m (do_hold m seat low high Well)).state
    by o = grind (arith, common_steps, nat_tests)
done_left seat (Next n) l m = by m.stopped (held_by seat m)
  where
    by : (o : Option Why) (held : Option (List Row)) → (unless_stopped o seat (Next n) (with_left l m) (do_next (with_left l m) seat n Well held)).state ≡ with_left l (unless_stopped o seat (Next n) m (do_next m seat n Well held)).state
    by o held = grind (arith, common_steps, nat_tests)
done_left seat Release l m = by m.stopped
  where
    by : (o : Option Why) → (unless_stopped o seat Release (with_left l m) (replied seat Release (answer_to_release (held_by seat m)) (holding seat None (with_left l m)))).state
        ≡ with_left l (unless_stopped o seat Release m (replied seat Release (answer_to_release (held_by seat m)) (holding seat None m))).state
    by o = grind (arith, common_steps, nat_tests)
done_left seat (Work n) l m = ap (λ x. (work_end x seat n).state) (turned_left (n - (work_of seat m).turns) seat l m)
done_left seat op l m = other_left seat op l m (is_look op)

pub alone_left : (seat : ℕ) (ops : List Op) (l : List Bool) (m : Machine) → alone_resumed seat (with_left l m) ops ≡ with_left l (alone_resumed seat m ops)
alone_left seat [] l m = refl
alone_left seat (op ∷ ops) l m = ap (λ x. alone_resumed seat x ops) (done_left seat op l m) ∙ alone_left seat ops l (done_resumed seat op m)
