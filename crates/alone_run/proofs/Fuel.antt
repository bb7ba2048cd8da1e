-- Each payment lowers what is owed, so as many payments as bytes are owed are enough.
use Rattle.std.proofs.Common.{◌≡◌, ◌∙◌, refl, ap, sym, subst, ℕ, zero, suc, ◌+◌, ◌<◌, ◌≤◌, Bool, cond, true, false, not, ◌&&◌, ◌||◌, List, [], ◌∷◌, Option, Some, None, is_some, arith, ltb-true}
use Rattle.std.proofs.lemmas.Grind.{common_steps}
use Rattle.std.specs.Prelude.{slice_index, slice_set}
use Rattle.std.specs.Ordering.{is_eq}
use Rattle.std.specs.Cmp.{tied_itself}
use Rattle.std.specs.FinMap.{put}
use Rattle.std.specs.FinMap.Entries.{by_order}
use Rattle.std.specs.declared.cmp.Ordering.{Ordering}
use Rattle.std.specs.declared.cmp.Ordering.TheVariants.{Less, Equal, Greater}
use Rattle.std.proofs.lemmas.Bool.Decides.{nat_tests}
use Rattle.std.proofs.lemmas.Cmp.{nat_list_cmp_total}
use Rattle.std.proofs.lemmas.List.Sums.{sum_by-cons}
use Rattle.blsm_model.specs.Keys.{key_cmp}
use Rattle.blsm_model.specs.declared.history.Why.{Why}
use Rattle.blsm_model.specs.declared.key.Key.{Key}
use Rattle.gear_sched.specs.Gears.{first_debt, left_of, plan_for, second_debt}
use Rattle.gear_sched.specs.declared.Plan.{Plan}
use Rattle.gear_sched.specs.declared.Plan.TheVariants.{Snow, Deep, Nothing}
use Rattle.record_delta.specs.Entries.{Entries, folded_over, record_of_key}
use Rattle.record_delta.specs.Folding.{over}
use Rattle.record_delta.specs.Records.{weight}
use Rattle.record_delta.specs.declared.record.Rec.{Rec}
use Rattle.tree_machine.specs.Machine.{Machine, owes}
use Rattle.tree_machine.specs.Merges.{Merge, group_weight, is_done, is_empty, quantum_of, weight_of_any}
use Rattle.tree_machine.specs.Moves.{deep_quantum, pass_quantum}
use Rattle.tree_machine.specs.Steps.{Well, forgive, pay, pay_planned, pay_running}
use Rattle.alone_run.specs.Alone.{all_paid, paid}
use Rattle.alone_run.proofs.Moves.{Synced, deep_quantum_moves, pass_quantum_moves}
use Rattle.alone_run.proofs.Payments.{IsEven, even_not_owing, even_of, even_paid, pay_pays}
use Rattle.alone_run.proofs.Readings.{Seen}

-- ---- a merge that isn't done takes a byte at least

weighs_some : (key : Key) (rec : Rec) → 0 < weight key rec
weighs_some key rec = omega arith

more_weigh : (e : Key × Rec) (newer older : Entries) (key : Key) → 0 < group_weight newer older key → 0 < group_weight (e ∷ newer) older key
more_weigh e newer older key some = grind (arith, common_steps, nat_tests)

first_weighs : (e : Key × Rec) (newer older : Entries) → 0 < group_weight (e ∷ newer) older e.0
first_weighs e newer older = grind (arith, common_steps, nat_tests, nat_list_cmp_total, weighs_some)

-- the first group weighs something, and there is one unless both lists are empty
abbrev FirstWeighs : Entries → Entries → Entries → Type 0
FirstWeighs newer older [] = (is_empty newer && is_empty older) ≡ true
FirstWeighs newer older (g ∷ groups) = 0 < group_weight newer older g.0

put_first : (e : Key × Rec) (rec : Rec) (newer older groups : Entries) → FirstWeighs newer older groups → FirstWeighs (e ∷ newer) older (put key_cmp e.0 rec groups)
put_first e rec newer older [] first = first_weighs e newer older
put_first e rec newer older (g ∷ groups) first = by (key_cmp e.0 g.0)
  where
    by : (o : Ordering) → FirstWeighs (e ∷ newer) older (by_order o ((e.0, rec) ∷ g ∷ groups) ((g.0, rec) ∷ groups) (g ∷ put key_cmp e.0 rec groups))
    by Less = first_weighs e newer older
    by Equal = more_weigh e newer older g.0 first
    by Greater = more_weigh e newer older g.0 first

fold_first : (newer older : Entries) → FirstWeighs newer older (folded_over newer older)
fold_first [] [] = refl
fold_first [] (e ∷ older) =
    let here : weight_of_any e.0 (record_of_key e.0 (e ∷ older)) ≡ weight e.0 e.1 = ap (λ o. weight_of_any e.0 (cond (is_eq o) (Some e.1) (record_of_key e.0 older))) (tied_itself nat_list_cmp_total e.0) in
    let some = weighs_some e.0 e.1 in
    omega (arith, here, some)
fold_first (e ∷ newer) older = put_first e (over e.1 (record_of_key e.0 (folded_over newer older))) newer older (folded_over newer older) (fold_first newer older)

took_some : (quantum : ℕ) (merge : Merge) (newer older : Entries) → is_done merge newer older ≡ false → 0 < (quantum_of quantum merge newer older).weight
took_some quantum merge newer older left = grind (arith, common_steps, nat_tests, fold_first, sum_by-cons)

-- ---- each payment lowers what is owed

abbrev pub owed : ℕ → Machine → ℕ
owed seat m = first_debt m.gears seat + second_debt m.gears seat

set_at_most : (debts : List ℕ) (seat n : ℕ) → slice_index (slice_set debts seat n) seat ≤ n
set_at_most [] seat n = omega arith
set_at_most (d ∷ debts) zero n = omega arith
set_at_most (d ∷ debts) (suc seat) n = set_at_most debts seat n

-- what is left of a debt was not forgiven
not_forgiven : (b : Bool) (debts : List ℕ) (seat debt : ℕ) → 0 < slice_index (slice_set debts seat (left_of b debt)) seat → b ≡ false
not_forgiven b debts seat debt h1 = grind (arith, common_steps, nat_tests)

neither : (a b : Bool) → (a || b) ≡ false → (a ≡ false) × (b ≡ false)
neither a b h1 = grind (arith, common_steps, nat_tests)

runs_of : (b : Bool) → not b ≡ false → b ≡ true
runs_of b h1 = grind (arith, common_steps, nat_tests)

snow_owes : (first second : ℕ) → plan_for first second ≡ Snow → 0 < first
snow_owes first second is = grind (arith, nat_tests)

deep_owes : (first second : ℕ) → plan_for first second ≡ Deep → 0 < second
deep_owes first second is = grind (arith, nat_tests)

none_owes : (first second : ℕ) → plan_for first second ≡ Nothing → first + second ≡ 0
none_owes first second is = grind (arith, nat_tests)

module _ (seat : ℕ) where
  -- the debts after what may be forgiven was
  fewer : (m : Machine) → (first_debt (forgive seat m).gears seat ≤ first_debt m.gears seat) × (second_debt (forgive seat m).gears seat ≤ second_debt m.gears seat)
  fewer m = grind (arith, common_steps, nat_tests)

  snow_lessens : (m : Machine) → Synced m → 0 < first_debt (forgive seat m).gears seat → owed seat (pass_quantum seat (forgive seat m)) < owed seat m
  snow_lessens m synced some = grind (arith, common_steps, nat_tests, runs_of, neither, not_forgiven, is_some, took_some, set_at_most)

  deep_lessens : (m : Machine) → Synced m → 0 < second_debt (forgive seat m).gears seat → owed seat (deep_quantum seat (forgive seat m)) < owed seat m
  deep_lessens m synced some = grind (arith, common_steps, nat_tests, runs_of, neither, not_forgiven, is_some, took_some, set_at_most)

  lessens : (m : Machine) → Synced m → m.stopped ≡ None → 0 < owed seat m → owed seat (pay m seat Well).state < owed seat m
  lessens m synced runs some = subst (λ o. owed seat (pay_running o m seat Well).state < owed seat m) (sym runs) (by (plan_for (first_debt (forgive seat m).gears seat) (second_debt (forgive seat m).gears seat)) refl)
    where
      by : (plan : Plan) → plan_for (first_debt (forgive seat m).gears seat) (second_debt (forgive seat m).gears seat) ≡ plan → owed seat (pay_planned plan (forgive seat m) seat Well).state < owed seat m
      by Snow is = snow_lessens m synced (snow_owes (first_debt (forgive seat m).gears seat) (second_debt (forgive seat m).gears seat) is)
      by Deep is = deep_lessens m synced (deep_owes (first_debt (forgive seat m).gears seat) (second_debt (forgive seat m).gears seat) is)
      by Nothing is = let none = none_owes (first_debt (forgive seat m).gears seat) (second_debt (forgive seat m).gears seat) is in omega (arith, none, some)

  pub pay_synced : (m : Machine) → Synced m → Synced (pay m seat Well).state
  pay_synced m synced = by m.stopped
    where
      planned : (plan : Plan) → Synced (pay_planned plan (forgive seat m) seat Well).state
      planned Snow = (pass_quantum_moves seat (forgive seat m)).synced synced
      planned Deep = (deep_quantum_moves seat (forgive seat m)).synced synced
      planned Nothing = synced

      by : (o : Option Why) → Synced (pay_running o m seat Well).state
      by (Some why) = synced
      by None = planned (plan_for (first_debt (forgive seat m).gears seat) (second_debt (forgive seat m).gears seat))

  -- ---- so what is owed is fuel enough

  pay_runs : (m : Machine) → m.stopped ≡ None → (pay m seat Well).state.stopped ≡ None
  pay_runs m runs = ap (λ (v : Seen). v.stopped) (pay_pays seat m).seen ∙ runs

  enough_on : (k : ℕ) (m : Machine) → Synced m → m.stopped ≡ None → owed seat m ≤ suc k → owes seat m ≡ true
      → ((i : ℕ) → owed seat (pay m seat Well).state ≤ k → owed seat (pay m seat Well).state ≤ i → paid k seat (pay m seat Well).state ≡ paid i seat (pay m seat Well).state)
      → (i : ℕ) → owed seat m ≤ i → paid k seat (pay m seat Well).state ≡ paid i seat m
  enough_on k m synced runs few owing rest zero most = absurd (let some = ltb-true 0 (owed seat m) owing in omega (arith, some, most))
  enough_on k m synced runs few owing rest (suc i) most =
      let some = ltb-true 0 (owed seat m) owing in
      let less = lessens m synced runs some in
      rest i (omega (arith, less, few)) (omega (arith, less, most)) ∙ sym (ap (λ b. cond b (paid i seat (pay m seat Well).state) m) owing)

  enough : (k j : ℕ) (m : Machine) → Synced m → m.stopped ≡ None → owed seat m ≤ k → owed seat m ≤ j → paid k seat m ≡ paid j seat m
  enough zero j m synced runs few many = sym (even_paid j seat m (even_of seat m (omega (arith, few))))
  enough (suc k) j m synced runs few many = by (owes seat m) refl (λ i less most. enough k i (pay m seat Well).state (pay_synced m synced) (pay_runs m runs) less most)
    where
      by : (b : Bool) → owes seat m ≡ b
          → ((i : ℕ) → owed seat (pay m seat Well).state ≤ k → owed seat (pay m seat Well).state ≤ i → paid k seat (pay m seat Well).state ≡ paid i seat (pay m seat Well).state)
          → cond b (paid k seat (pay m seat Well).state) m ≡ paid j seat m
      by true is rest = enough_on k m synced runs few is rest j many
      by false is rest = sym (even_paid j seat m (even_not_owing seat m is))

  -- paying all is paying once, and then all
  pub all_paid_first : (m : Machine) → Synced m → m.stopped ≡ None → owes seat m ≡ true → all_paid seat m ≡ all_paid seat (pay m seat Well).state
  all_paid_first m synced runs owing = by (owed seat m) refl
    where
      by : (n : ℕ) → owed seat m ≡ n → paid n seat m ≡ all_paid seat (pay m seat Well).state
      by zero is = absurd (let some = ltb-true 0 (owed seat m) owing in omega (arith, some, is))
      by (suc n) is =
          let some = ltb-true 0 (owed seat m) owing in
          let less = lessens m synced runs some in
          ap (λ b. cond b (paid n seat (pay m seat Well).state) m) owing
          ∙ enough n (owed seat (pay m seat Well).state) (pay m seat Well).state (pay_synced m synced) (pay_runs m runs) (omega (arith, less, is)) (omega arith)

  -- ---- and all is paid by it

  pub paid_synced : (fuel : ℕ) (m : Machine) → Synced m → Synced (paid fuel seat m)
  paid_synced zero m synced = synced
  paid_synced (suc fuel) m synced = by (owes seat m) (paid_synced fuel (pay m seat Well).state (pay_synced m synced))
    where
      by : (b : Bool) → Synced (paid fuel seat (pay m seat Well).state) → Synced (cond b (paid fuel seat (pay m seat Well).state) m)
      by true rest = rest
      by false rest = synced

  paid_even : (fuel : ℕ) (m : Machine) → Synced m → m.stopped ≡ None → owed seat m ≤ fuel → IsEven seat (paid fuel seat m)
  paid_even zero m synced runs few = even_of seat m (omega (arith, few))
  paid_even (suc fuel) m synced runs few = by (owes seat m) refl (λ less. paid_even fuel (pay m seat Well).state (pay_synced m synced) (pay_runs m runs) less)
    where
      by : (b : Bool) → owes seat m ≡ b → (owed seat (pay m seat Well).state ≤ fuel → IsEven seat (paid fuel seat (pay m seat Well).state)) → IsEven seat (cond b (paid fuel seat (pay m seat Well).state) m)
      by true is rest = let less = lessens m synced runs (ltb-true 0 (owed seat m) is) in rest (omega (arith, less, few))
      by false is rest = even_not_owing seat m is

  pub all_paid_even : (m : Machine) → Synced m → m.stopped ≡ None → IsEven seat (all_paid seat m)
  all_paid_even m synced runs = paid_even (owed seat m) m synced runs (omega arith)
