-- What goes on from an opening on, step by step.
use Rattle.std.specs.Prelude.{◌≤◌, IsTrue}
use Rattle.std.proofs.lemmas.Grind.{common_steps}
use Rattle.std.proofs.lemmas.Bool.Decides.{nat_tests}
use Rattle.std.proofs.Common.{◌≡◌, ◌∙◌, ℕ, ◌+◌, Bool, cond, true, false, List, None, ap, sym, subst, arith}
use Rattle.blsm_model.specs.Sizes.{Sizes}
use Rattle.blsm_model.specs.Geometry.{charge_limit}
use Rattle.blsm_model.specs.declared.key.Key.{Key}
use Rattle.blsm_model.specs.declared.row.Value.{Value}
use Rattle.blsm_model.specs.Histories.{writes_of}
use Rattle.blsm_model.specs.Legal.{total_weight, is_del}
use Rattle.gear_sched.specs.Gears.{GearState}
use Rattle.pacing.specs.Pace.{Pace, with_forgiven}
use Rattle.pacing.specs.Kept.{IsPaced}
use Rattle.pacing.specs.Steps as pacing
use Rattle.pacing.specs.Steps.{Move, Pay, Turn, turn_of, is_worker_seat}
use Rattle.pacing.specs.Fronts.{Fronts, AreFronts}
use Rattle.pacing.proofs.Fronts.{step_fronts}
use Rattle.tree_machine.specs.Lists.{Lists}
use Rattle.tree_machine.specs.Machine.{Machine, Failed, BadPage, charge}
use Rattle.tree_machine.specs.Steps as machine
use Rattle.tree_machine.specs.Steps.{Outcome, Well, Answer, Paid, Settled, Choice, admit_fitting, chosen, ended_as, admit, refused_first, replied}
use Rattle.tree_machine.proofs.LookLemmas.{looked_admits}
use Rattle.blsm_model.specs.declared.history.Reply.TheVariants.{Full}
use Rattle.tree_machine.specs.Plays.{may, stepped_as}
use Rattle.tree_machine.specs.Stands.{WritesFit}
use Rattle.tree_machine.specs.declared.step.Kind.{Kind}
use Rattle.tree_machine.specs.declared.step.Kind.TheVariants as kind
use Rattle.tree_machine.specs.declared.step.Step.{Step}
use Rattle.paced_tree.specs.Kept.{IsPacedTree}
use Rattle.paced_tree.specs.Numbers.{pace_of}
use Rattle.paced_tree.specs.Made.{IsMadeBy, IsPaidBy, IsTurnedBy}
use Rattle.paced_tree.proofs.Promises.{step_is_paced, step_made}
use Rattle.paced_tree.proofs.Turns.{move_of, turn_is}
use Rattle.tree_file.specs.Tree.{Tree}
use Rattle.core_moves.specs.declared.held.Held.{Held}
use Rattle.core_pace.specs.Turns.{move_in}
use Rattle.core_lists.specs.Shown.{HasFronts}
use Rattle.core_lists.specs.Steps.{TurnsTree, choice_of}
use Rattle.core_lists.specs.Going.{GoesOn}
use Rattle.core_lists.proofs.StepLands.{choices_agree}
use Rattle.core_lists.proofs.AppendLemmas.{append_goes_on, not_past}
use Rattle.blsm_model.specs.declared.op.Op.{Op}
use Rattle.core_lists.proofs.Terms.{chosen_by, IsSteady, kind_of_turn, IsOpenTo, StandsIn, MayAppend, with_appended}
use Rattle.pacing.proofs.Terms.{fronts_by}

-- Where the core stands so, and runs, its steps over lists have what they rest on.
pub standing_is_steady : (opening : List (Key × Value)) (held : Held) (m : Machine) (fronts : Fronts) (tree : Tree) (file : List ℕ) → StandsIn opening held m fronts tree file → m.stopped ≡ None
    → IsSteady held tree m file × GoesOn opening m fronts tree
standing_is_steady opening held m fronts tree file is runs =
    let sizes : m.gears.sizes ≡ held.runs.sizes = ap (λ (g : GearState). g.sizes) is.at.holds.gears ∙ is.one.gears in (
      record {
        at = is.at;
        sound = is.paced.stands.sound;
        numbers = is.numbers;
        has = is.has;
        one = is.one;
        positive = omega (arith, is.paced.paced.within.sizes.quantum, ap (λ (s : Sizes). s.quantum) sizes);
        runs = runs;
      },
      record { paced = is.paced; within = is.within; lanes = is.lanes },
    )

-- ---- an admission

-- of a tree that runs, where what was looked at doesn't refuse it and there is room
pub admission_fits : (m : Machine) (seat : ℕ) (op : Op) (outcome : Outcome) → m.stopped ≡ None → refused_first m op outcome ≡ None → charge m +
    total_weight (writes_of op) ≤ charge_limit m.gears.sizes (is_del op)
    → admit m seat op outcome ≡ admit_fitting m seat op (total_weight (writes_of op)) outcome
admission_fits m seat op outcome runs goes room =
    looked_admits m seat op outcome None runs goes
    ∙ ap (λ (b : Bool). cond b (replied seat op (Full (charge m)) m) (admit_fitting m seat op (total_weight (writes_of op)) outcome))
    (not_past (charge_limit m.gears.sizes (is_del op)) (charge m + total_weight (writes_of op)) room)

pub admission_goes_on : (opening : List (Key × Value)) (m : Machine) (fronts : Fronts) (seat : ℕ) (op : Op) (begun : Held) (tree : Tree)
    → MayAppend opening m fronts seat op begun tree
    → (then : Fronts) × GoesOn opening (admit m seat op Well).state then (with_appended (writes_of op) begun tree)
admission_goes_on opening m fronts seat op begun tree is = append_goes_on opening m fronts seat op begun tree is

-- ---- a step's pace

module _ (opening : List (Key × Value)) (m : Machine) (seat : ℕ) (k : Kind) (outcome : Outcome) (ok : may m seat k ≡ true) (fits : WritesFit k) (paced : IsPacedTree opening m) where
  abbrev step : Step
  step = record { seat = seat; kind = k }

  then_paced : IsPacedTree opening (stepped_as m seat k outcome).state
  then_paced = step_is_paced opening m step outcome paced ok fits

  made : IsMadeBy seat k (stepped_as m seat k outcome).answer (pace_of m) (pace_of (stepped_as m seat k outcome).state)
  made = step_made opening m seat k outcome paced ok fits

-- ---- a payment

-- debts are no part of the fronts' bounds
forgiven_fronts : (pace : Pace) (fronts : Fronts) (seat : ℕ) → AreFronts pace fronts → AreFronts (with_forgiven pace seat) fronts
forgiven_fronts pace fronts seat within = record { table = within.table; high = within.high; full = within.full; next = within.next; behind = within.behind; both = within.both; none = within.none }

paid_fronts : (pace then : Pace) (fronts : Fronts) (seat : ℕ) (answer : Answer) → IsPaced pace → AreFronts pace fronts → IsPaidBy answer seat pace then → AreFronts then fronts
paid_fronts pace then fronts seat Paid paced within made = subst (λ (p : Pace). AreFronts p fronts) (sym made.2) (step_fronts pace (Pay seat made.0) fronts paced within made.1)
paid_fronts pace then fronts seat Settled paced within made = subst (λ (p : Pace). AreFronts p fronts) (sym made) (forgiven_fronts pace fronts seat within)
paid_fronts pace then fronts seat (machine.Turn Failed) paced within made = subst (λ (p : Pace). AreFronts p fronts) (sym made) (forgiven_fronts pace fronts seat within)
paid_fronts pace then fronts seat (machine.Turn (BadPage page)) paced within made = subst (λ (p : Pace). AreFronts p fronts) (sym made) (forgiven_fronts pace fronts seat within)
paid_fronts pace then fronts seat answer paced within made = subst (λ (p : Pace). AreFronts p fronts) (sym made) within

paid_lists : (m : Machine) (seat : ℕ) (outcome : Outcome) → (stepped_as m seat kind.Pay outcome).state.lists ≡ m.lists
paid_lists m seat outcome = grind (arith, common_steps, nat_tests)

pub payment_goes_on : (opening : List (Key × Value)) (m : Machine) (fronts : Fronts) (tree : Tree) (seat : ℕ) (outcome : Outcome) → IsTrue (may m seat kind.Pay) → GoesOn opening m fronts tree
    → GoesOn opening (stepped_as m seat kind.Pay outcome).state fronts tree
payment_goes_on opening m fronts tree seat outcome ok goes = record {
  paced = then_paced opening m seat kind.Pay outcome ok tt goes.paced;
  within = paid_fronts (pace_of m) (pace_of (stepped_as m seat kind.Pay outcome).state) fronts seat (stepped_as m seat kind.Pay outcome).answer goes.paced.paced goes.within (made opening m seat kind.Pay outcome ok tt goes.paced);
  lanes = subst (λ (l : Lists). HasFronts tree l fronts) (sym (paid_lists m seat outcome)) goes.lanes;
}

-- ---- a turn

-- the machine's choice is the pacing's move
same_turn : (is_worker : Bool) (opening : List (Key × Value)) (m : Machine) → IsPacedTree opening m → turn_of is_worker (pace_of m) ≡ move_of (chosen_by is_worker m)
same_turn true opening m paced = turn_is true m paced.stands.sound
same_turn false opening m paced = turn_is false m paced.stands.sound

turned_fronts : (c : Choice) (pace then : Pace) (fronts : Fronts) (seat : ℕ) → IsPaced pace → AreFronts pace fronts → turn_of (is_worker_seat seat) pace ≡ move_of c → IsTurnedBy (machine.Turn (ended_as c)) seat pace then
    → AreFronts then (fronts_by (move_of c) fronts)
turned_fronts machine.Rest pace then fronts seat paced within same made = subst (λ (p : Pace). AreFronts p fronts) (sym made) within
turned_fronts c pace then fronts seat paced within same made =
    subst (λ (p : Pace). AreFronts p (fronts_by (move_of c) fronts)) (sym made.2)
    (subst (λ (mv : Move). AreFronts (pacing.after pace (Turn seat made.0)) (fronts_by mv fronts)) same (step_fronts pace (Turn seat made.0) fronts paced within made.1))

-- the lanes as the move leaves them
turned_lanes : (mv : Move) (seat n : ℕ) (old moved : Held) (tree next : Tree) (m : Machine) (fronts : Fronts) → TurnsTree mv n old moved tree next → HasFronts tree m.lists fronts
    → HasFronts next (chosen (choice_of mv) seat m).lists (fronts_by (move_of (choice_of mv)) fronts)
turned_lanes mv seat n old moved tree next m fronts h1 h2 = grind (arith, common_steps, nat_tests)

-- a turn that runs is the one chosen
turn_state : (is_worker : Bool) (m : Machine) (seat : ℕ) → m.stopped ≡ None → IsOpenTo is_worker m → (stepped_as m seat (kind_of_turn is_worker) Well).state.lists ≡ (chosen (chosen_by is_worker m) seat m).lists
turn_state is_worker m seat h1 h2 = grind (arith, common_steps, nat_tests)

turn_answer : (is_worker : Bool) (m : Machine) (seat : ℕ) → m.stopped ≡ None → IsOpenTo is_worker m → (stepped_as m seat (kind_of_turn is_worker) Well).answer ≡ machine.Turn (ended_as (chosen_by is_worker m))
turn_answer is_worker m seat h1 h2 = grind (arith, common_steps, nat_tests)

whose_turn : (is_worker : Bool) (m : Machine) (seat : ℕ) → may m seat (kind_of_turn is_worker) ≡ true → is_worker_seat seat ≡ is_worker
whose_turn is_worker m seat h1 = grind (arith, common_steps, nat_tests)

turn_made : (is_worker : Bool) (opening : List (Key × Value)) (m : Machine) (seat : ℕ) → may m seat (kind_of_turn is_worker) ≡ true → IsPacedTree opening m
    → IsTurnedBy (stepped_as m seat (kind_of_turn is_worker) Well).answer seat (pace_of m) (pace_of (stepped_as m seat (kind_of_turn is_worker) Well).state)
turn_made true opening m seat ok paced = made opening m seat kind.WorkerTurn Well ok tt paced
turn_made false opening m seat ok paced = made opening m seat kind.WorkTurn Well ok tt paced

turn_paced : (is_worker : Bool) (opening : List (Key × Value)) (m : Machine) (seat : ℕ) → may m seat (kind_of_turn is_worker) ≡ true → IsPacedTree opening m
    → IsPacedTree opening (stepped_as m seat (kind_of_turn is_worker) Well).state
turn_paced true opening m seat ok paced = then_paced opening m seat kind.WorkerTurn Well ok tt paced
turn_paced false opening m seat ok paced = then_paced opening m seat kind.WorkTurn Well ok tt paced

pub turn_goes_on : (is_worker : Bool) (opening : List (Key × Value)) (m : Machine) (fronts : Fronts) (seat n : ℕ) (old moved : Held) (tree next : Tree) (file : List ℕ) → IsTrue (may m seat (kind_of_turn is_worker))
    → IsOpenTo is_worker m → IsSteady old tree m file → TurnsTree (move_in is_worker old) n old moved tree next → GoesOn opening m fronts tree
    → (then : Fronts) × GoesOn opening (stepped_as m seat (kind_of_turn is_worker) Well).state then next
turn_goes_on is_worker opening m fronts seat n old moved tree next file ok opened is trees goes =
    let c = chosen_by is_worker m in
    let same = choices_agree is_worker old tree m file is in
    let then = fronts_by (move_of c) fronts in
    let made = subst (λ (a : Answer). IsTurnedBy a seat (pace_of m) (pace_of (stepped_as m seat (kind_of_turn is_worker) Well).state)) (turn_answer is_worker m seat is.runs opened) (turn_made is_worker opening m seat ok goes.paced) in
    let turn : turn_of (is_worker_seat seat) (pace_of m) ≡ move_of c = ap (λ (b : Bool). turn_of b (pace_of m)) (whose_turn is_worker m seat ok) ∙ same_turn is_worker opening m goes.paced in (
      then,
      record {
        paced = turn_paced is_worker opening m seat ok goes.paced;
        within = turned_fronts c (pace_of m) (pace_of (stepped_as m seat (kind_of_turn is_worker) Well).state) fronts seat goes.paced.paced goes.within turn made;
        lanes = subst (λ (l : Lists). HasFronts next l then) (sym (turn_state is_worker m seat is.runs opened))
            (subst (λ (x : Choice). HasFronts next (chosen x seat m).lists (fronts_by (move_of x) fronts)) (sym same) (turned_lanes (move_in is_worker old) seat n old moved tree next m fronts trees goes.lanes));
      },
    )
