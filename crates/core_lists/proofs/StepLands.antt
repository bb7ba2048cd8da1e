-- A payment, and a turn of work or of a worker, over lists.
use Rattle.std.proofs.Common.{◌≡◌, ◌∙◌, ℕ, Bool, true, false, cond, not, ◌&&◌, ◌||◌, List, Option, None, refl, ap, sym, subst}
use Rattle.std.proofs.lemmas.Grind.{common_steps}
use Rattle.std.proofs.lemmas.Bool.Decides.{nat_tests}
use Rattle.std.proofs.Common.{arith}
use Rattle.std.specs.Prelude.{⊤, is_some, slice_index_or, ◌==◌, nat_lt}
use Rattle.std.proofs.lemmas.Bool.{eqb-true, eq-eqb}
use Rattle.blsm_model.specs.Sizes.{Sizes}
use Rattle.blsm_model.specs.declared.history.Why.{Why}
use Rattle.record_delta.specs.Entries.{entries_weight}
use Rattle.gear_sched.specs.Gears.{GearState, deep_is_behind, plan_for, first_debt, second_debt}
use Rattle.gear_sched.specs.declared.Plan.{Plan}
use Rattle.gear_sched.specs.declared.Plan.TheVariants.{Snow, Deep, Nothing}
use Rattle.pacing.specs.Steps as pacing
use Rattle.pacing.specs.Steps.{Move}
use Rattle.tree_machine.specs.Lists.{memory_weight}
use Rattle.tree_machine.specs.Layers.{HasWay}
use Rattle.tree_machine.specs.Machine.{Machine, Turned, WorkSoFar, in_pass, in_deep, is_closed, pass_done, deep_done, work_of, no_work}
use Rattle.tree_machine.specs.Moves.{begin_pass, pass_quantum, deep_quantum}
use Rattle.tree_machine.specs.Steps as machine
use Rattle.tree_machine.specs.Steps.{Choice, Well, choice, chosen, ended_as, quanta_of, forgive, pay, pay_running, pay_planned, work_turn, worker_turn, work_turning, worker_turning, work_noted, with_turn}
use Rattle.tree_machine.proofs.CarryLemmas.{chosen_carries}
use Rattle.seat_book.specs.State.{paid_in, helped_in, turned_in}
use Rattle.paced_tree.specs.Booking.{quanta_of_move}
use Rattle.paced_tree.proofs.Payments.{sound_forgiven}
use Rattle.tree_file.specs.Tree.{Tree}
use Rattle.tree_log.specs.Log.{weight_of_tables}
use Rattle.tree_runs.specs.Runs.{left_for_pass, left_for_deep}
use Rattle.tree_runs.specs.Holding.{AreOf}
use Rattle.core_moves.specs.declared.held.Held.{Held}
use Rattle.core_moves.specs.Moves.{with_pass_begun, with_debts_forgiven, with_book}
use Rattle.core_pace.specs.Events.{TakesByPlan, plan_in}
use Rattle.core_pace.specs.Turns.{move_in, TurnsBy, end_of_move}
use Rattle.core_lists.specs.Steps.{TookByPlan, TurnsTree, choice_of}
use Rattle.core_lists.proofs.SwapLands.{deep_swap_lands, pass_swap_lands, rotation_lands, begin_in}
use Rattle.core_lists.proofs.AdmissionLands.{same_tree}
use Rattle.core_lists.proofs.QuantumLands.{pass_quantum_lands, deep_quantum_lands}
use Rattle.core_lists.proofs.WriteLands.{book_lands}
use Rattle.core_lists.proofs.TestLemmas.{tests_agree_with_lists, forgiving_lands}
use Rattle.core_lists.proofs.Terms.{IsAt, Agrees, helped, IsSteady, chosen_by}
use Rattle.core_pace.proofs.OneLemmas.{each_move_keeps_one}
use Rattle.core_pace.proofs.Terms.{Pays, Works, Helps}
use Rattle.tree_machine.proofs.Terms.{Carries}

-- ---- the book

-- ---- a payment

module _ (seat : ℕ) (held : Held) (tree : Tree) (m : Machine) (file : List ℕ) (is : IsSteady held tree m file) where
  forgiven_at : IsAt (with_debts_forgiven seat held) tree (forgive seat m) file
  forgiven_at = forgiving_lands seat held tree m file is.numbers is.at is.sound is.has

  same_plan : plan_for (first_debt (forgive seat m).gears seat) (second_debt (forgive seat m).gears seat) ≡ plan_in seat held
  same_plan = ap (λ (g : GearState). plan_for (first_debt g seat) (second_debt g seat)) forgiven_at.holds.gears

  paid_is : (pay m seat Well).state ≡ (pay_planned (plan_in seat held) (forgive seat m) seat Well).state
  paid_is = ap (λ (o : Option Why). (pay_running o m seat Well).state) is.runs ∙ ap (λ (plan : Plan). (pay_planned plan (forgive seat m) seat Well).state) same_plan

  pub settling : plan_in seat held ≡ Nothing → IsAt (with_debts_forgiven seat held) tree (pay m seat Well).state file
  settling nothing = subst (λ (s : Machine). IsAt (with_debts_forgiven seat held) tree s file) (sym (paid_is ∙ ap (λ (plan : Plan). (pay_planned plan (forgive seat m) seat Well).state) nothing)) forgiven_at

  paid_by : (n : ℕ) (taken : Held) (after : List ℕ) (plan : Plan) → TakesByPlan plan seat n (with_debts_forgiven seat held) taken → TookByPlan plan n (with_debts_forgiven seat held) taken tree
      → AreOf taken.runs tree after → IsAt (with_book (paid_in seat taken.book) taken) tree (pay_planned plan (forgive seat m) seat Well).state after
  paid_by n taken after Nothing takes took are_of = absurd takes
  paid_by n taken after Snow takes took are_of =
      (book_lands taken tree (pass_quantum seat (forgive seat m)) after
      (pass_quantum_lands seat n (with_debts_forgiven seat held) taken tree (forgive seat m) file after forgiven_at (sound_forgiven m seat is.sound) ((each_move_keeps_one held held is.one).forgiving seat) is.positive takes took are_of)).payment seat
  paid_by n taken after Deep takes took are_of =
      (book_lands taken tree (deep_quantum seat (forgive seat m)) after
      (deep_quantum_lands seat n (with_debts_forgiven seat held) taken tree (forgive seat m) file after forgiven_at (sound_forgiven m seat is.sound) is.one.gears is.positive takes took are_of)).payment seat

-- where nothing is owed once what may be forgiven is
pub settling_lands : (seat : ℕ) (held : Held) (tree : Tree) (m : Machine) (file : List ℕ) → IsSteady held tree m file → plan_in seat held ≡ Nothing → IsAt (with_debts_forgiven seat held) tree (pay m seat Well).state file
settling_lands seat held tree m file is nothing = settling seat held tree m file is nothing

pub payment_lands : (seat n : ℕ) (old taken new : Held) (tree : Tree) (m : Machine) (file after : List ℕ) → IsSteady old tree m file → Pays seat n old taken new
    → TookByPlan (plan_in seat old) n (with_debts_forgiven seat old) taken tree → AreOf taken.runs tree after
    → IsAt new tree (pay m seat Well).state after
payment_lands seat n old taken new tree m file after is pays took are_of =
    subst (λ (h : Held). IsAt h tree (pay m seat Well).state after) (sym pays.counted)
    (subst (λ (s : Machine). IsAt (with_book (paid_in seat taken.book) taken) tree s after) (sym (paid_is seat old tree m file is))
    (paid_by seat old tree m file is n taken after (plan_in seat old) pays.takes took are_of))

-- ---- which turn it is

-- two tests with one meaning
one_test : (a b c : Bool) → (a ≡ true → (b ≡ true) × (c ≡ true)) → (b ≡ true → c ≡ true → a ≡ true) → a ≡ (b && c)
one_test a b c h1 h2 = grind (arith, common_steps, nat_tests)

by_tests : (b1 b2 b3 b4 b5 b6 : Bool)
    → cond b1 machine.SwapDeep (cond b2 machine.SwapPass (cond b3 machine.DeepQuantum (cond b4 machine.PassQuantum (cond b5 machine.Begin (cond b6 machine.Rotate machine.Rest)))))
    ≡ choice_of (cond b1 pacing.SwapDeep (cond b2 pacing.SwapPass (cond b3 pacing.TakeDeep (cond b4 pacing.TakeSnow (cond b5 pacing.Begin (cond b6 pacing.Rotate pacing.Idle))))))
by_tests b1 b2 b3 b4 b5 b6 = grind (arith, common_steps, nat_tests)

abbrev machine_choice : (b1 b2 b3 b4 b5 b6 : Bool) → Choice
machine_choice b1 b2 b3 b4 b5 b6 = cond b1 machine.SwapDeep (cond b2 machine.SwapPass (cond b3 machine.DeepQuantum (cond b4 machine.PassQuantum (cond b5 machine.Begin (cond b6 machine.Rotate machine.Rest)))))

same_choice : (a1 a2 a3 a4 a5 a6 b1 b2 b3 b4 b5 b6 : Bool) → a1 ≡ b1 → a2 ≡ b2 → a3 ≡ b3 → a4 ≡ b4 → a5 ≡ b5 → a6 ≡ b6 → machine_choice a1 a2 a3 a4 a5 a6 ≡ machine_choice b1 b2 b3 b4 b5 b6
same_choice a1 a2 a3 a4 a5 a6 b1 b2 b3 b4 b5 b6 e1 e2 e3 e4 e5 e6 = grind (arith, common_steps, nat_tests)

module _ (held : Held) (tree : Tree) (m : Machine) (file : List ℕ) (is : IsSteady held tree m file) where
  agrees : Agrees held m
  agrees = tests_agree_with_lists held tree m file is.numbers is.at is.sound is.has

  deep_test : deep_done m ≡ (is_some held.runs.deep && (left_for_deep held.runs.deep == 0))
  deep_test = one_test (deep_done m) (is_some held.runs.deep) (left_for_deep held.runs.deep == 0)
      (λ done. let parts = agrees.deep_is_done.1 done in (parts.0, eq-eqb (left_for_deep held.runs.deep) 0 parts.1))
      (λ runs none. agrees.deep_is_done.0 (runs, eqb-true (left_for_deep held.runs.deep) 0 none))

  pass_test : pass_done m ≡ (is_some held.runs.pass && (left_for_pass held.runs.pass held.log.a.entries == 0))
  pass_test = one_test (pass_done m) (is_some held.runs.pass) (left_for_pass held.runs.pass held.log.a.entries == 0)
      (λ done. let parts = agrees.pass_is_done.1 done in (parts.0, eq-eqb (left_for_pass held.runs.pass held.log.a.entries) 0 parts.1))
      (λ runs none. agrees.pass_is_done.0 (runs, eqb-true (left_for_pass held.runs.pass held.log.a.entries) 0 none))

  takes_deep : (in_deep m && (not (in_pass m) || deep_is_behind m.gears)) ≡ (is_some held.runs.deep && (not (is_some held.runs.pass) || deep_is_behind held.gears))
  takes_deep = grind (arith, common_steps, nat_tests)

  pub choices : (is_worker : Bool) → chosen_by is_worker m ≡ choice_of (move_in is_worker held)
  choices true =
      same_choice (deep_done m) (pass_done m) (in_deep m && (not (in_pass m) || deep_is_behind m.gears)) (in_pass m) (nat_lt m.gears.sizes.low m.spring) false
      (is_some held.runs.deep && (left_for_deep held.runs.deep == 0)) (is_some held.runs.pass && (left_for_pass held.runs.pass held.log.a.entries == 0))
      (is_some held.runs.deep && (not (is_some held.runs.pass) || deep_is_behind held.gears)) (is_some held.runs.pass) (nat_lt held.runs.sizes.low held.spring) false
      deep_test pass_test takes_deep agrees.pass_runs
      (ap (λ (s : Sizes). nat_lt s.low m.spring) (ap (λ (g : GearState). g.sizes) is.at.holds.gears ∙ is.one.gears) ∙ ap (λ (n : ℕ). nat_lt held.runs.sizes.low n) is.at.holds.spring) refl
      ∙ by_tests (is_some held.runs.deep && (left_for_deep held.runs.deep == 0)) (is_some held.runs.pass && (left_for_pass held.runs.pass held.log.a.entries == 0))
      (is_some held.runs.deep && (not (is_some held.runs.pass) || deep_is_behind held.gears)) (is_some held.runs.pass) (nat_lt held.runs.sizes.low held.spring) false
  choices false =
      same_choice (deep_done m) (pass_done m) (in_deep m && (not (in_pass m) || deep_is_behind m.gears)) (in_pass m) (not (memory_weight m.lists == 0)) (not (entries_weight m.lists.c1 == 0))
      (is_some held.runs.deep && (left_for_deep held.runs.deep == 0)) (is_some held.runs.pass && (left_for_pass held.runs.pass held.log.a.entries == 0))
      (is_some held.runs.deep && (not (is_some held.runs.pass) || deep_is_behind held.gears)) (is_some held.runs.pass) (not (weight_of_tables held.log == 0)) (not (held.runs.catalogue.c1.weight == 0))
      deep_test pass_test takes_deep agrees.pass_runs (ap (λ (n : ℕ). not (n == 0)) agrees.memory) (ap (λ (n : ℕ). not (n == 0)) agrees.c1)
      ∙ by_tests (is_some held.runs.deep && (left_for_deep held.runs.deep == 0)) (is_some held.runs.pass && (left_for_pass held.runs.pass held.log.a.entries == 0))
      (is_some held.runs.deep && (not (is_some held.runs.pass) || deep_is_behind held.gears)) (is_some held.runs.pass) (not (weight_of_tables held.log == 0)) (not (held.runs.catalogue.c1.weight == 0))

-- The code's tests choose as the machine does.
pub choices_agree : (is_worker : Bool) (held : Held) (tree : Tree) (m : Machine) (file : List ℕ) → IsSteady held tree m file → chosen_by is_worker m ≡ choice_of (move_in is_worker held)
choices_agree is_worker held tree m file is = choices held tree m file is is_worker

-- ---- the turn

-- what is swapped in is done
abbrev IsDue : Choice → Machine → Type 0
IsDue machine.SwapDeep m = deep_done m ≡ true
IsDue machine.SwapPass m = pass_done m ≡ true
IsDue _ m = ⊤

due_choice : (begins rotates : Bool) (m : Machine) → IsDue (choice begins rotates m) m
due_choice begins rotates m = grind (arith, common_steps, nat_tests)

is_due : (is_worker : Bool) (m : Machine) → IsDue (chosen_by is_worker m) m
is_due true m = due_choice (nat_lt m.gears.sizes.low m.spring) false m
is_due false m = due_choice (not (memory_weight m.lists == 0)) (not (entries_weight m.lists.c1 == 0)) m

turned_by : (mv : Move) (seat n : ℕ) (old moved : Held) (tree next : Tree) (m : Machine) (file after : List ℕ) → IsSteady old tree m file → IsDue (choice_of mv) m → TurnsBy mv seat n old moved
    → TurnsTree mv n old moved tree next → AreOf moved.runs next after → IsAt moved next (chosen (choice_of mv) seat m) after
turned_by pacing.SwapDeep seat n old moved tree next m file after is due moves trees are_of = deep_swap_lands old moved tree next m file after is.at is.sound due moves trees are_of
turned_by pacing.SwapPass seat n old moved tree next m file after is due moves trees are_of = pass_swap_lands old moved tree next m file after is.at is.one is.sound due moves trees.0 trees.1 are_of
turned_by pacing.TakeDeep seat n old moved tree next m file after is due moves trees are_of =
    subst (λ (t : Tree). IsAt moved t (deep_quantum seat m) after) (sym trees.0)
    (deep_quantum_lands seat n old moved tree m file after is.at is.sound is.one.gears is.positive moves trees.1
    (subst (λ (t : Tree). AreOf moved.runs t after) trees.0 are_of))
turned_by pacing.TakeSnow seat n old moved tree next m file after is due moves trees are_of =
    subst (λ (t : Tree). IsAt moved t (pass_quantum seat m) after) (sym trees.0)
    (pass_quantum_lands seat n old moved tree m file after is.at is.sound is.one is.positive moves trees.1
    (subst (λ (t : Tree). AreOf moved.runs t after) trees.0 are_of))
turned_by pacing.Begin seat n old moved tree next m file after is due moves trees are_of =
    let begun : AreOf (with_pass_begun old).runs tree after =
    subst (λ (h : Held). AreOf h.runs tree after) moves (subst (λ (t : Tree). AreOf moved.runs t after) trees are_of) in
    subst (λ (t : Tree). IsAt moved t (begin_pass m) after) (sym trees) (subst (λ (h : Held). IsAt h tree (begin_pass m) after) (sym moves) (begin_in old tree m file after is.at begun))
turned_by pacing.Rotate seat n old moved tree next m file after is due moves trees are_of = rotation_lands old moved tree next m file after is.at moves trees are_of
turned_by pacing.Idle seat n old moved tree next m file after is due moves trees are_of = same_tree old moved tree next m file after moves trees is.at are_of

pub turn_lands : (is_worker : Bool) (seat n : ℕ) (old moved : Held) (tree next : Tree) (m : Machine) (file after : List ℕ) → IsSteady old tree m file → TurnsBy (move_in is_worker old) seat n old moved
    → TurnsTree (move_in is_worker old) n old moved tree next → AreOf moved.runs next after
    → IsAt moved next (chosen (chosen_by is_worker m) seat m) after
turn_lands is_worker seat n old moved tree next m file after is moves trees are_of =
    let same = choices old tree m file is is_worker in
    subst (λ (c : Choice). IsAt moved next (chosen c seat m) after) (sym same)
    (turned_by (move_in is_worker old) seat n old moved tree next m file after is (subst (λ (c : Choice). IsDue c m) same (is_due is_worker m)) moves trees are_of)

-- how it ends, and how many quanta it takes
same_end : (mv : Move) → end_of_move mv ≡ ended_as (choice_of mv)
same_end mv = grind (arith, common_steps, nat_tests)

same_quanta : (mv : Move) → quanta_of_move mv ≡ quanta_of (choice_of mv)
same_quanta mv = grind (arith, common_steps, nat_tests)

-- With its count it is a turn of a caller's work,
pub work_lands : (seat n : ℕ) (old moved new : Held) (tree next : Tree) (m : Machine) (file after : List ℕ) → IsSteady old tree m file → HasWay m → Works seat n old moved new
    → TurnsTree (move_in false old) n old moved tree next → AreOf moved.runs next after → IsAt new next (work_turn m seat Well).state after
work_lands seat n old moved new tree next m file after is way works trees are_of =
    let c = chosen_by false m in
    let mv = move_in false old in
    let then = chosen c seat m in
    let same = choices old tree m file is false in
    let there : IsAt moved next then after = turn_lands false seat n old moved tree next m file after is works.moves trees are_of in
    let carries : Carries m then = chosen_carries (not (memory_weight m.lists == 0)) (not (entries_weight m.lists.c1 == 0)) seat m is.sound way in
    let ended : end_of_move mv ≡ ended_as c = same_end mv ∙ ap ended_as (sym same) in
    let quanta : quanta_of_move mv ≡ quanta_of c = same_quanta mv ∙ ap quanta_of (sym same) in
    let state : (work_turn m seat Well).state ≡ work_noted seat (with_turn (work_of seat m) (record { state = then; ended = ended_as c; quanta = quanta_of c })) then =
    ap (λ (o : Option Why). work_noted seat (with_turn (work_of seat m) (work_turning o m seat Well)) (work_turning o m seat Well).state) is.runs in
    let counted : with_book (turned_in seat (ended_as c) (quanta_of c) moved.book) moved ≡ new =
    ap (λ (t : Turned). with_book (turned_in seat t (quanta_of c) moved.book) moved) (sym ended) ∙ ap (λ (k : ℕ). with_book (turned_in seat (end_of_move mv) k moved.book) moved) (sym quanta) ∙ sym works.counted in
    subst (λ (h : Held). IsAt h next (work_turn m seat Well).state after) counted
    (subst (λ (s : Machine). IsAt (with_book (turned_in seat (ended_as c) (quanta_of c) moved.book) moved) next s after) (sym state)
    (subst (λ (w : WorkSoFar). IsAt (with_book (turned_in seat (ended_as c) (quanta_of c) moved.book) moved) next (work_noted seat (with_turn w (record { state = then; ended = ended_as c; quanta = quanta_of c })) then) after)
    (ap (λ (works : List WorkSoFar). slice_index_or works seat no_work) carries.work)
    ((book_lands moved next then after there).turn seat (ended_as c) (quanta_of c))))

-- or of a worker, before the store is closed.
pub help_lands : (seat n : ℕ) (old moved new : Held) (tree next : Tree) (m : Machine) (file after : List ℕ) → IsSteady old tree m file → is_closed m ≡ false → Helps seat n old moved new
    → TurnsTree (move_in true old) n old moved tree next → AreOf moved.runs next after → IsAt new next (worker_turn m seat Well).state after
help_lands seat n old moved new tree next m file after is opened helps trees are_of =
    let then = chosen (chosen_by true m) seat m in
    let there : IsAt moved next then after = turn_lands true seat n old moved tree next m file after is helps.moves trees are_of in
    let state : (worker_turn m seat Well).state ≡ helped seat then =
    ap (λ (o : Option Why). helped seat (worker_turning o (is_closed m) m seat Well).state) is.runs ∙ ap (λ (b : Bool). helped seat (worker_turning None b m seat Well).state) opened in
    subst (λ (h : Held). IsAt h next (worker_turn m seat Well).state after) (sym helps.counted)
    (subst (λ (s : Machine). IsAt (with_book (helped_in seat moved.book) moved) next s after) (sym state) ((book_lands moved next then after there).help seat))
