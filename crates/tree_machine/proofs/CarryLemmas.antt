-- Each move of the merges carries the machine on: values, history and holds stay, and the charge doesn't rise.
use Rattle.std.proofs.Common.{◌≡◌, ℕ, ◌≤◌, Bool, cond, true, false, not, ◌&&◌, ◌||◌, [], ◌∷◌, None, refl, arith}
use Rattle.std.proofs.lemmas.Grind.{common_steps}
use Rattle.std.proofs.lemmas.Bool.Decides.{nat_tests}
use Rattle.std.specs.Prelude.{nat_le}
use Rattle.std.proofs.lemmas.Bool.{leb-true}
use Rattle.blsm_model.specs.Geometry.{c1_mark}
use Rattle.record_delta.specs.Entries.{Entries, entries_weight, up_to}
use Rattle.gear_sched.specs.Gears.{deep_is_behind}
use Rattle.tree_machine.specs.Layers.{IsSound, HasWay}
use Rattle.tree_machine.specs.Machine.{Machine, pass_done, deep_done, in_deep, in_pass}
use Rattle.tree_machine.specs.Moves.{begin_pass, rotate, rotate_alone, swap_pass, swap_deep, end_pass, output_of, pass_quantum, deep_quantum}
use Rattle.tree_machine.specs.Steps.{SwapDeep, SwapPass, DeepQuantum, PassQuantum, Begin, Rotate, Rest, choice, chosen, deep_swapped, pass_swapped, swapped, pass_begun_for, ready_for}
use Rattle.tree_machine.proofs.LayerLemmas.{begin_keeps, pass_quantum_keeps, deep_quantum_keeps, swap_deep_keeps, end_pass_keeps, rotate_keeps}
use Rattle.tree_machine.proofs.LightLemmas.{light_append, light_groups, light_settled}
use Rattle.tree_machine.proofs.QuantumLemmas.{quantum_weighs}
use Rattle.tree_machine.proofs.WeightLemmas.{pass_output_light, deep_output_light}
use Rattle.tree_machine.proofs.Terms.{Carries}

pub carries_itself : (m : Machine) → IsSound m → Carries m m
carries_itself m sound = grind (arith, common_steps, nat_tests)

pub carries_on : {a b c : Machine} → Carries a b → Carries b c → Carries a c
carries_on {a} {b} {c} p q = grind (arith, common_steps, nat_tests)

pub behind_none : (es : Entries) → up_to None es ≡ []
behind_none [] = refl
behind_none (e ∷ es) = behind_none es

-- where the gears know no merge, none runs
pub no_pass_of : (m : Machine) → IsSound m → in_pass m ≡ false → m.merges.pass ≡ None
no_pass_of m sound none = grind (arith, common_steps, nat_tests)

pub no_deep_of : (m : Machine) → IsSound m → in_deep m ≡ false → m.merges.deep ≡ None
no_deep_of m sound none = grind (arith, common_steps, nat_tests)

-- ---- one move

pub begin_carries : (m : Machine) → IsSound m → in_pass m ≡ false → Carries m (begin_pass m)
begin_carries m sound none = grind (arith, common_steps, nat_tests, begin_keeps, no_pass_of, behind_none)

pub pass_quantum_carries : (m : Machine) (seat : ℕ) → IsSound m → Carries m (pass_quantum seat m)
pass_quantum_carries m seat sound = grind (arith, common_steps, nat_tests, pass_quantum_keeps, carries_itself, light_append, light_groups, quantum_weighs)

pub deep_quantum_carries : (m : Machine) (seat : ℕ) → IsSound m → Carries m (deep_quantum seat m)
deep_quantum_carries m seat sound = grind (arith, common_steps, nat_tests, deep_quantum_keeps, carries_itself, light_append, light_settled, light_groups, quantum_weighs)

pub swap_deep_carries : (m : Machine) → IsSound m → deep_done m ≡ true → Carries m (swap_deep m)
swap_deep_carries m sound done = grind (arith, common_steps, nat_tests, swap_deep_keeps, deep_output_light)

-- the swap that ends a pass drops table A and loses nothing
pub end_pass_carries : (m : Machine) → IsSound m → pass_done m ≡ true → Carries m (end_pass m)
end_pass_carries m sound done = grind (arith, common_steps, nat_tests, end_pass_keeps, pass_output_light)

pub rotate_carries : (m : Machine) → IsSound m → m.merges.pass ≡ None → m.merges.deep ≡ None → Carries m (rotate m)
rotate_carries m sound no_pass no_deep = grind (arith, common_steps, nat_tests, rotate_keeps, behind_none)

pub rotate_alone_carries : (m : Machine) → IsSound m → m.merges.pass ≡ None → m.merges.deep ≡ None → Carries m (rotate_alone m)
rotate_alone_carries m sound no_pass no_deep = grind (arith, common_steps, nat_tests, rotate_carries)

-- the pass is swapped in; where its C1 is rotated no deep merge runs
pub swap_pass_carries : (m : Machine) → IsSound m → pass_done m ≡ true → (c1_mark m.gears.sizes ≤ entries_weight (output_of m.merges.pass) → m.merges.deep ≡ None) → Carries m (swap_pass m)
swap_pass_carries m sound done free = by (nat_le (c1_mark m.gears.sizes) (entries_weight (output_of m.merges.pass))) refl
  where
    ended : Carries m (end_pass m)
    ended = end_pass_carries m sound done

    by : (b : Bool) → nat_le (c1_mark m.gears.sizes) (entries_weight (output_of m.merges.pass)) ≡ b → Carries m (cond b (rotate (end_pass m)) (end_pass m))
    by true is = carries_on ended (rotate_carries (end_pass m) ended.sound refl (free (leb-true (c1_mark m.gears.sizes) (entries_weight (output_of m.merges.pass)) is)))
    by false is = ended

-- ---- what is made of them

no_deep_left : (m : Machine) → IsSound m → deep_done m ≡ false → (not (in_deep m) || deep_done m) ≡ true → m.merges.deep ≡ None
no_deep_left m sound undone way = grind (arith, common_steps, nat_tests)

-- the merges that are done are swapped in
pub deep_swapped_carries : (m : Machine) → IsSound m → Carries m (deep_swapped m)
deep_swapped_carries m sound = grind (arith, common_steps, nat_tests, swap_deep_carries, carries_itself)

pass_swapped_carries : (m : Machine) → IsSound m → (pass_done m ≡ true → c1_mark m.gears.sizes ≤ entries_weight (output_of m.merges.pass) → m.merges.deep ≡ None) → Carries m (pass_swapped m)
pass_swapped_carries m sound free = by (pass_done m) refl
  where
    by : (b : Bool) → pass_done m ≡ b → Carries m (cond b (swap_pass m) m)
    by true is = swap_pass_carries m sound is (free is)
    by false is = carries_itself m sound

pub swapped_carries : (m : Machine) → IsSound m → HasWay m → Carries m (swapped m)
swapped_carries m sound way = by (deep_done m) refl
  where
    by : (b : Bool) → deep_done m ≡ b → Carries m (pass_swapped (cond b (swap_deep m) m))
    by true is =
        let first = swap_deep_carries m sound is in
        carries_on first (pass_swapped_carries (swap_deep m) first.sound (λ done heavy. refl))
    by false is = pass_swapped_carries m sound (λ done heavy. no_deep_left m sound is (way done heavy))

pub begun_carries : (weight : ℕ) (m : Machine) → IsSound m → Carries m (pass_begun_for weight m)
begun_carries weight m sound = grind (arith, common_steps, nat_tests, carries_itself, begin_carries)

pub ready_carries : (weight : ℕ) (m : Machine) → IsSound m → HasWay m → Carries m (ready_for weight m)
ready_carries weight m sound way =
    let first = swapped_carries m sound way in
    carries_on first (begun_carries weight (swapped m) first.sound)

-- the turn that is due
pub chosen_carries : (may_begin may_rotate : Bool) (seat : ℕ) (m : Machine) → IsSound m → HasWay m → Carries m (chosen (choice may_begin may_rotate m) seat m)
chosen_carries may_begin may_rotate seat m sound way = by_deep (deep_done m) refl
  where
    by_rest : (b c : Bool) → in_pass m ≡ false → in_deep m ≡ false → Carries m (chosen (cond b Begin (cond c Rotate Rest)) seat m)
    by_rest true c no_pass no_deep = begin_carries m sound no_pass
    by_rest false true no_pass no_deep = rotate_alone_carries m sound (no_pass_of m sound no_pass) (no_deep_of m sound no_deep)
    by_rest false false no_pass no_deep = carries_itself m sound

    by_quantum : (d p e : Bool) → in_deep m ≡ d → in_pass m ≡ p
        → Carries m (chosen (cond (d && (not p || e)) DeepQuantum (cond p PassQuantum (cond may_begin Begin (cond may_rotate Rotate Rest)))) seat m)
    by_quantum true true true is_deep is_pass = deep_quantum_carries m seat sound
    by_quantum true true false is_deep is_pass = pass_quantum_carries m seat sound
    by_quantum true false e is_deep is_pass = deep_quantum_carries m seat sound
    by_quantum false true e is_deep is_pass = pass_quantum_carries m seat sound
    by_quantum false false e is_deep is_pass = by_rest may_begin may_rotate is_pass is_deep

    by_pass : (b : Bool) → pass_done m ≡ b → deep_done m ≡ false
        → Carries m (chosen (cond b SwapPass (cond (in_deep m && (not (in_pass m) || deep_is_behind m.gears)) DeepQuantum
        (cond (in_pass m) PassQuantum (cond may_begin Begin (cond may_rotate Rotate Rest))))) seat m)
    by_pass true is undone = swap_pass_carries m sound is (λ heavy. no_deep_left m sound undone (way is heavy))
    by_pass false is undone = by_quantum (in_deep m) (in_pass m) (deep_is_behind m.gears) refl refl

    by_deep : (b : Bool) → deep_done m ≡ b
        → Carries m (chosen (cond b SwapDeep (cond (pass_done m) SwapPass (cond (in_deep m && (not (in_pass m) || deep_is_behind m.gears)) DeepQuantum
        (cond (in_pass m) PassQuantum (cond may_begin Begin (cond may_rotate Rotate Rest)))))) seat m)
    by_deep true is = swap_deep_carries m sound is
    by_deep false is = by_pass (pass_done m) refl is
