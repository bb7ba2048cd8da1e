-- A move of the lists is one of the numbers.
use Rattle.std.proofs.Common.{◌≡◌, ◌∙◌, refl, ap, subst, ℕ, ◌+◌, Bool, cond, true, false, not, ◌&&◌, ◌||◌, arith}
use Rattle.std.proofs.lemmas.Grind.{common_steps}
use Rattle.std.proofs.lemmas.Bool.Decides.{nat_tests}
use Rattle.std.specs.Prelude.{◌==◌, nat_le, nat_lt}
use Rattle.std.proofs.lemmas.Bool.{false≢true, eqb-true, eq-eqb}
use Rattle.blsm_model.specs.Geometry.{c1_mark}
use Rattle.gear_sched.specs.Gears.{forgiven}
use Rattle.pacing.specs.Pace.{Pace, pass_done as pace_pass_done, deep_done as pace_deep_done, pass_over, with_deep_swapped, with_pass_swapped, with_swap_and_rotation, with_rotation, with_pass, with_forgiven}
use Rattle.pacing.specs.Steps.{deep_settled, pass_settled, begun_for, ready_for as pace_ready_for}
use Rattle.record_delta.specs.Entries.{entries_weight}
use Rattle.tree_machine.specs.Layers.{IsSound}
use Rattle.tree_machine.specs.Machine.{Machine, pass_done, deep_done}
use Rattle.tree_machine.specs.Moves.{begin_pass, end_pass, output_of, rotate, swap_deep, swap_pass}
use Rattle.tree_machine.specs.Steps.{deep_swapped, pass_swapped, swapped, pass_begun_for, ready_for, forgive}
use Rattle.tree_machine.proofs.CarryLemmas.{behind_none, deep_swapped_carries}
use Rattle.tree_machine.proofs.NumberLemmas.{pass_runs, deep_runs, pass_taken_when_done, pass_done_when_taken, deep_taken_when_done, deep_done_when_taken}
use Rattle.paced_tree.specs.Numbers.{pace_of}
use Rattle.paced_tree.proofs.Terms.{IsToldOf}

-- ---- when a merge is done

same_test : (a b c : Bool) → (a ≡ true → (b ≡ true) × (c ≡ true)) → (b ≡ true → c ≡ true → a ≡ true) → a ≡ (b && c)
same_test a b c h1 h2 = grind (arith, common_steps, nat_tests)

pub input_is : (m : Machine) → IsSound m → m.gears.deep ≡ true → m.gears.deep_input ≡ entries_weight m.lists.c1x + entries_weight m.lists.c2
input_is m sound runs = grind (arith, common_steps, nat_tests)

pub pass_test : (m : Machine) → IsSound m → pass_done m ≡ (m.gears.pass && (m.gears.pass_taken == (entries_weight m.lists.a + entries_weight m.lists.c1)))
pass_test m sound = grind (arith, common_steps, nat_tests, same_test, pass_runs, eq-eqb, pass_taken_when_done, pass_done_when_taken, eqb-true)

pub deep_test : (m : Machine) → IsSound m → deep_done m ≡ (m.gears.deep && (m.gears.deep_taken == (entries_weight m.lists.c1x + entries_weight m.lists.c2)))
deep_test m sound = grind (arith, common_steps, nat_tests, same_test, deep_runs, eq-eqb, deep_taken_when_done, input_is, deep_done_when_taken, eqb-true)

pub over_test : (a b c : Bool) → a ≡ (b && c) → (not b || a) ≡ (not b || c)
over_test a b c h1 = grind (arith, common_steps, nat_tests)

-- ---- one move

pub swap_pass_pace : (m : Machine) → pace_of (swap_pass m) ≡ with_swap_and_rotation (pace_of m)
swap_pass_pace m = by (nat_le (c1_mark m.gears.sizes) (entries_weight (output_of m.merges.pass)))
  where
    by : (b : Bool) → pace_of (cond b (rotate (end_pass m)) (end_pass m)) ≡ cond b (with_rotation (with_pass_swapped (pace_of m))) (with_pass_swapped (pace_of m))
    by true = refl
    by false = refl

pub begin_pace : (m : Machine) → pace_of (begin_pass m) ≡ with_pass (pace_of m)
begin_pace m = ap (λ (n : ℕ). record (with_pass (pace_of m)) { taken = n }) (ap entries_weight (behind_none m.lists.a))

pub swap_pass_told : (m : Machine) → IsToldOf m → IsToldOf (swap_pass m)
swap_pass_told m t = by (nat_le (c1_mark m.gears.sizes) (entries_weight (output_of m.merges.pass)))
  where
    by : (b : Bool) → IsToldOf (cond b (rotate (end_pass m)) (end_pass m))
    by true = record { booked = t.booked; started = tt }
    by false = record { booked = t.booked; started = tt }

pub begin_told : (m : Machine) → IsToldOf m → IsToldOf (begin_pass m)
begin_told m t = record { booked = t.booked; started = λ is. absurd (false≢true is) }

-- ---- before a write

pub settled_pace : (m : Machine) → IsSound m → pace_of (deep_swapped m) ≡ deep_settled (pace_of m)
settled_pace m sound = subst (λ b. pace_of (deep_swapped m) ≡ cond b (with_deep_swapped (pace_of m)) (pace_of m)) (deep_test m sound) (by (deep_done m))
  where
    by : (b : Bool) → pace_of (cond b (swap_deep m) m) ≡ cond b (with_deep_swapped (pace_of m)) (pace_of m)
    by true = refl
    by false = refl

pub settled_told : (m : Machine) → IsToldOf m → IsToldOf (deep_swapped m)
settled_told m t = by (deep_done m)
  where
    by : (b : Bool) → IsToldOf (cond b (swap_deep m) m)
    by true = record { booked = t.booked; started = t.started }
    by false = t

pass_settled_pace : (m : Machine) → IsSound m → pace_of (pass_swapped m) ≡ pass_settled (pace_of m)
pass_settled_pace m sound = subst (λ b. pace_of (pass_swapped m) ≡ cond b (with_swap_and_rotation (pace_of m)) (pace_of m)) (pass_test m sound) (by (pass_done m))
  where
    by : (b : Bool) → pace_of (cond b (swap_pass m) m) ≡ cond b (with_swap_and_rotation (pace_of m)) (pace_of m)
    by true = swap_pass_pace m
    by false = refl

pass_settled_told : (m : Machine) → IsToldOf m → IsToldOf (pass_swapped m)
pass_settled_told m t = by (pass_done m)
  where
    by : (b : Bool) → IsToldOf (cond b (swap_pass m) m)
    by true = swap_pass_told m t
    by false = t

begun_pace : (w : ℕ) (m : Machine) → pace_of (pass_begun_for w m) ≡ begun_for (pace_of m) w
begun_pace w m = by (not m.gears.pass && nat_lt m.gears.sizes.low (m.spring + w))
  where
    by : (b : Bool) → pace_of (cond b (begin_pass m) m) ≡ cond b (with_pass (pace_of m)) (pace_of m)
    by true = begin_pace m
    by false = refl

begun_told : (w : ℕ) (m : Machine) → IsToldOf m → IsToldOf (pass_begun_for w m)
begun_told w m t = by (not m.gears.pass && nat_lt m.gears.sizes.low (m.spring + w))
  where
    by : (b : Bool) → IsToldOf (cond b (begin_pass m) m)
    by true = begin_told m t
    by false = t

pub ready_pace : (w : ℕ) (m : Machine) → IsSound m → pace_of (ready_for w m) ≡ pace_ready_for (pace_of m) w
ready_pace w m sound =
    begun_pace w (swapped m) ∙ ap (λ (p : Pace). begun_for p w) (pass_settled_pace (deep_swapped m) (deep_swapped_carries m sound).sound ∙ ap pass_settled (settled_pace m sound))

pub ready_told : (w : ℕ) (m : Machine) → IsToldOf m → IsToldOf (ready_for w m)
ready_told w m t = begun_told w (swapped m) (pass_settled_told (deep_swapped m) (settled_told m t))

-- ---- debts are forgiven

pub forgive_pace : (m : Machine) (seat : ℕ) → IsSound m → pace_of (forgive seat m) ≡ with_forgiven (pace_of m) seat
forgive_pace m seat sound =
    ap (λ (b : Bool). record (pace_of m) { gears = forgiven m.gears seat b (not m.gears.deep || deep_done m) }) (over_test (pass_done m) m.gears.pass (pace_pass_done (pace_of m)) (pass_test m sound))
    ∙ ap (λ (b : Bool). record (pace_of m) { gears = forgiven m.gears seat (pass_over (pace_of m)) b }) (over_test (deep_done m) m.gears.deep (pace_deep_done (pace_of m)) (deep_test m sound))
