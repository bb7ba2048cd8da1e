-- How many quanta there can be.
use Rattle.std.proofs.Common.{◌≡◌, refl, ap, ℕ, ◌+◌, ◌*◌, ◌<◌, ◌≤◌, ◌&&◌, ◌||◌, not, Bool, true, false, cond, eqb, leb, ltb, inl, inr, arith}
use Rattle.std.proofs.lemmas.Grind.{common_steps}
use Rattle.std.proofs.lemmas.Bool.Decides.{nat_tests}
use Rattle.std.proofs.lemmas.Bool.{cases_Bool, cases_lt, cond_both, and_parts, or_parts, not-true, not-false, eqb-true, eqb-false, leb-true}
use Rattle.std.proofs.Math.Nat.{mul-add, mul-le-mul_left}
use Rattle.blsm_model.specs.Sizes.{Sizes}
use Rattle.blsm_model.specs.Geometry.{c1_mark, capacity}
use Rattle.gear_sched.specs.Gears.{first_debt, second_debt, deep_is_behind}
use Rattle.gear_sched.specs.declared.Plan.{Plan}
use Rattle.gear_sched.specs.declared.Plan.TheVariants.{Snow, Deep, Nothing}
use Rattle.pacing.specs.Pace.{Pace, Quantum, pass_done, deep_done, pass_over, deep_over, with_deep_swapped, with_pass_swapped, with_rotation, with_swap_and_rotation, with_pass, with_snow, with_deep, with_forgiven, counted, opened}
use Rattle.pacing.specs.Kept.{IsPaced}
use Rattle.pacing.specs.Steps.{Admit, Pay, Turn, FitsPlan, FitsMove, IsQuantum, Move, SwapDeep, SwapPass, TakeDeep, TakeSnow, turn_of, turn_at_rest, turned_by, paid_by, plan_of, is_worker_seat, deep_settled, pass_settled, ready_for, Event, May, after}
use Rattle.pacing.specs.Spent.{IsSpent}
use Rattle.pacing.proofs.Counts.{way}
use Rattle.pacing.proofs.Admissions.{deep_settled_kept}
use Rattle.pacing.proofs.Payments.{snow_owed, deep_owed, nothing_left}
use Rattle.pacing.proofs.Turns.{deep_left, no_deep_left}
use Rattle.pacing.specs.Counts.{AreFew}

-- the inputs of a merge weigh at most the capacity
pass_input : (p : Pace) → IsPaced p → p.gears.pass ≡ true → p.a + p.c1 ≤ capacity p.gears.sizes
pass_input p k runs = grind (arith, common_steps, nat_tests)

deep_input : (p : Pace) → IsPaced p → p.c1x + p.c2 ≤ capacity p.gears.sizes
deep_input p k = omega (arith, k.within.full)

-- ---- moves

deep_swap : (p : Pace) → IsPaced p → IsSpent p → p.gears.deep ≡ true → p.gears.deep_taken ≡ p.c1x + p.c2 → IsSpent (with_deep_swapped p)
deep_swap p h1 h2 h3 h4 = grind (arith, common_steps, nat_tests)

pass_swap : (p : Pace) → IsPaced p → IsSpent p → p.gears.pass ≡ true → p.gears.pass_taken ≡ p.a + p.c1 → IsSpent (with_pass_swapped p)
pass_swap p h1 h2 h3 h4 = grind (arith, common_steps, nat_tests)

rotation : (p : Pace) → IsSpent p → p.gears.deep ≡ false → IsSpent (with_rotation p)
rotation p h1 h2 = grind (arith, common_steps, nat_tests)

swap_and_rotation : (p : Pace) → IsPaced p → IsSpent p → p.gears.pass ≡ true → p.gears.pass_taken ≡ p.a + p.c1 → (c1_mark p.gears.sizes ≤ p.made1 → p.gears.deep ≡ false) → IsSpent (with_swap_and_rotation p)
swap_and_rotation p h1 h2 h3 h4 h5 = grind (arith, common_steps, nat_tests, cond_both, leb, rotation, pass_swap, leb-true)

begin : (p : Pace) → IsSpent p → p.gears.pass ≡ false → IsSpent (with_pass p)
begin p h1 h2 = grind (arith, common_steps, nat_tests)

settle_deep : (p : Pace) → IsPaced p → IsSpent p → IsSpent (deep_settled p)
settle_deep p k s =
    cond_both (p.gears.deep && deep_done p) (with_deep_swapped p) p IsSpent (λ e. let parts = and_parts p.gears.deep (deep_done p) e in deep_swap p k s parts.0 (eqb-true _ _ parts.1)) (λ e. s)

settle_pass : (p : Pace) → IsPaced p → IsSpent p → (p.gears.deep ≡ true → p.gears.deep_taken < p.c1x + p.c2) → IsSpent (pass_settled p)
settle_pass p h1 h2 h3 = grind (arith, common_steps, nat_tests, cond_both, and_parts, eqb-true, swap_and_rotation, way)

ready : (p : Pace) (w : ℕ) → IsPaced p → IsSpent p → IsSpent (ready_for p w)
ready p w k s =
    let one = deep_settled_kept p k in
    let n = pass_settled (deep_settled p) in
    let s_two = settle_pass (deep_settled p) one.kept (settle_deep p k s) one.going in
    cond_both (not n.gears.pass && ltb n.gears.sizes.low (n.spring + w)) (with_pass n) n IsSpent
    (λ e. let parts = and_parts (not n.gears.pass) (ltb n.gears.sizes.low (n.spring + w)) e in begin n s_two (not-true _ parts.0))
    (λ e. s_two)

-- ---- quanta

-- a quantum of a merge that isn't done takes something
took_some : (sizes : Sizes) (taken all : ℕ) (quantum : Quantum) → 0 < sizes.quantum → taken < all → IsQuantum sizes taken all quantum → 1 ≤ quantum.took
took_some sizes taken all quantum some left is = elim is.enough [ inl enough ↦ omega (arith, some, enough) | inr rest ↦ omega (arith, left, rest) ]

quantum_some : (p : Pace) → IsPaced p → 0 < p.gears.sizes.quantum
quantum_some p k = let fits = k.within.sizes.quantum in omega (arith, fits)

snow : (p : Pace) (seat : ℕ) (quantum : Quantum) → IsSpent p → p.gears.pass ≡ true → 1 ≤ quantum.took → IsSpent (with_snow p seat quantum)
snow p seat quantum h1 h2 h3 = grind (arith, common_steps, nat_tests)

deep : (p : Pace) (seat : ℕ) (quantum : Quantum) → IsSpent p → p.gears.deep ≡ true → 1 ≤ quantum.took → IsSpent (with_deep p seat quantum)
deep p seat quantum h1 h2 h3 = grind (arith, common_steps, nat_tests)

pub forgave : (p : Pace) (seat : ℕ) → IsSpent p → IsSpent (with_forgiven p seat)
forgave p seat s = record { inputs = s.inputs; resting = s.resting; unmerged = s.unmerged }

count : (p : Pace) (seat : ℕ) → IsSpent p → IsSpent (counted p seat)
count p seat s = record { inputs = s.inputs; resting = s.resting; unmerged = s.unmerged }

less : (n all : ℕ) → eqb n all ≡ false → n ≤ all → n < all
less n all differs le = let apart = eqb-false n all differs in elim (cases_lt n all) [ inl below ↦ below | inr past ↦ absurd (apart (omega (arith, past, le))) ]

pay_as : (p : Pace) (seat : ℕ) (quantum : Quantum) (plan : Plan) → plan_of (with_forgiven p seat) seat ≡ plan → IsPaced p → IsSpent p → seat < 16 → FitsPlan plan (with_forgiven p seat) quantum
    → IsSpent (paid_by plan (with_forgiven p seat) seat quantum)
pay_as p seat quantum Snow e k s caller fits =
    let owes = snow_owed (first_debt (with_forgiven p seat).gears seat) (second_debt (with_forgiven p seat).gears seat) e in
    let over : pass_over p ≡ false = nothing_left p.gears.first_debts seat (pass_over p) _ (omega (arith, k.debts.first_seats, caller)) owes in
    let parts = or_parts (not p.gears.pass) (pass_done p) over in
    let runs = not-false p.gears.pass parts.0 in
    let run = k.within.running runs in
    let left = less p.gears.pass_taken (p.a + p.c1) parts.1 (omega (arith, run.of_c1, run.of_table)) in
    count (with_snow (with_forgiven p seat) seat quantum) seat (snow (with_forgiven p seat) seat quantum (forgave p seat s) runs (took_some p.gears.sizes p.gears.pass_taken (p.a + p.c1) quantum (quantum_some p k) left fits.0))
pay_as p seat quantum Deep e k s caller fits =
    let owes = deep_owed (first_debt (with_forgiven p seat).gears seat) (second_debt (with_forgiven p seat).gears seat) e in
    let over : deep_over p ≡ false = nothing_left p.gears.second_debts seat (deep_over p) _ (omega (arith, k.debts.second_seats, caller)) owes in
    let parts = or_parts (not p.gears.deep) (deep_done p) over in
    let merges = not-false p.gears.deep parts.0 in
    let merge = k.within.merging merges in
    let left = less p.gears.deep_taken (p.c1x + p.c2) parts.1 merge.taken in
    count (with_deep (with_forgiven p seat) seat quantum) seat (deep (with_forgiven p seat) seat quantum (forgave p seat s) merges (took_some p.gears.sizes p.gears.deep_taken (p.c1x + p.c2) quantum (quantum_some p k) left fits))
pay_as p seat quantum Nothing e k s caller fits = forgave p seat s

abbrev Spends : Pace → ℕ → Quantum → Move → Type 0
Spends p seat quantum move = FitsMove move p quantum → IsSpent (turned_by move p seat quantum)

turn_rests : (p : Pace) (is_worker : Bool) (seat : ℕ) (quantum : Quantum) → IsSpent p → p.gears.pass ≡ false → p.gears.deep ≡ false → Spends p seat quantum (turn_at_rest is_worker p)
turn_rests p is_worker seat quantum h1 h2 h3 = grind (arith, common_steps, nat_tests)

turn : (p : Pace) (is_worker : Bool) (seat : ℕ) (quantum : Quantum) → IsPaced p → IsSpent p → Spends p seat quantum (turn_of is_worker p)
turn p is_worker seat quantum k s =
    let after_two : Move = cond (p.gears.deep && (not p.gears.pass || deep_is_behind p.gears)) TakeDeep (cond p.gears.pass TakeSnow (turn_at_rest is_worker p)) in
    cond_both (p.gears.deep && deep_done p) SwapDeep (cond (p.gears.pass && pass_done p) SwapPass after_two) (Spends p seat quantum)
    (λ e fits. let parts = and_parts p.gears.deep (deep_done p) e in deep_swap p k s parts.0 (eqb-true _ _ parts.1))
    (λ no_swap. cond_both (p.gears.pass && pass_done p) SwapPass after_two (Spends p seat quantum)
    (λ e fits. let parts = and_parts p.gears.pass (pass_done p) e in let done = eqb-true _ _ parts.1 in swap_and_rotation p k s parts.0 done (way p k parts.0 done (deep_left p k no_swap)))
    (λ still. cond_both (p.gears.deep && (not p.gears.pass || deep_is_behind p.gears)) TakeDeep (cond p.gears.pass TakeSnow (turn_at_rest is_worker p)) (Spends p seat quantum)
    (λ e fits. let parts = and_parts p.gears.deep (not p.gears.pass || deep_is_behind p.gears) e in deep p seat quantum s parts.0 (took_some p.gears.sizes p.gears.deep_taken (p.c1x + p.c2) quantum (quantum_some p k) (deep_left p k no_swap parts.0) fits))
    (λ none. cond_both p.gears.pass TakeSnow (turn_at_rest is_worker p) (Spends p seat quantum)
    (λ e fits. let run = k.within.running e in snow p seat quantum s e (took_some p.gears.sizes p.gears.pass_taken (p.a + p.c1) quantum (quantum_some p k) (pass_left e still (omega (arith, run.of_c1, run.of_table))) fits.0))
    (λ e. turn_rests p is_worker seat quantum s e (no_deep_left p.gears.deep p.gears.pass (deep_is_behind p.gears) none e)))))
  where
    both_false : (a b : Bool) → a ≡ true → (a && b) ≡ false → b ≡ false
    both_false a b h1 h2 = grind (arith, common_steps, nat_tests)

    pass_left : p.gears.pass ≡ true → (p.gears.pass && pass_done p) ≡ false → p.gears.pass_taken ≤ p.a + p.c1 → p.gears.pass_taken < p.a + p.c1
    pass_left runs still le = less p.gears.pass_taken (p.a + p.c1) (both_false p.gears.pass (pass_done p) runs still) le

-- ---- steps

abbrev one_of : Bool → ℕ
one_of true = 1
one_of false = 0

one_more : (b : Bool) (n : ℕ) → cond b (n + 1) n ≡ n + one_of b
one_more true n = refl
one_more false n = omega arith

pub opening_spends : (sizes : Sizes) (c1 c2 : ℕ) → IsSpent (opened sizes c1 c2)
opening_spends sizes c1 c2 = record { inputs = omega arith; resting = λ e. refl; unmerged = λ e. refl }

-- also where an admission stops between its moves
pub moves_spend : (pace : Pace) (w : ℕ) → IsPaced pace → IsSpent pace → IsSpent (deep_settled pace) × IsSpent (ready_for pace w)
moves_spend pace w k s = (settle_deep pace k s, ready pace w k s)

pub step_spends : (pace : Pace) (event : Event) → IsPaced pace → IsSpent pace → May pace event → IsSpent (after pace event)
step_spends pace (Admit seat written) k s may = let r = ready pace written.weight k s in record { inputs = r.inputs; resting = r.resting; unmerged = r.unmerged }
step_spends pace (Pay seat quantum) k s may = pay_as pace seat quantum (plan_of (with_forgiven pace seat) seat) refl k s may.caller may.fits
step_spends pace (Turn seat quantum) k s may = turn pace (is_worker_seat seat) seat quantum k s may.fits

-- so the quanta are at most so many times the capacity as merges can be begun for the writes
pub quanta_are_few : (pace : Pace) → IsPaced pace → IsSpent pace → AreFew pace → pace.work ≤ capacity pace.gears.sizes * (2 * pace.writes + 3)
quanta_are_few pace k s few =
    let pass_taken : pace.gears.pass_taken ≤ capacity pace.gears.sizes * one_of pace.gears.pass = elim (cases_Bool pace.gears.pass) [
      | inl e ↦ let run = k.within.running e in omega (arith, run.of_c1, run.of_table, pass_input pace k e, ap (λ b. capacity pace.gears.sizes * one_of b) e)
      | inr e ↦ omega (arith, s.resting e)
    ] in
    let deep_taken : pace.gears.deep_taken ≤ capacity pace.gears.sizes * one_of pace.gears.deep = elim (cases_Bool pace.gears.deep) [
      | inl e ↦ let merge = k.within.merging e in omega (arith, merge.taken, deep_input pace k, ap (λ b. capacity pace.gears.sizes * one_of b) e)
      | inr e ↦ omega (arith, s.unmerged e)
    ] in
    let begun = one_more pace.gears.pass pace.passes in
    let rotated = one_more pace.gears.deep pace.deeps in
    let all : pace.passes + one_of pace.gears.pass + (pace.deeps + one_of pace.gears.deep) ≤ 2 * pace.writes + 3 = omega (arith, begun, rotated, few.begins, few.turns) in
    let most = mul-le-mul_left (capacity pace.gears.sizes) all in
    omega (
      arith,
      s.inputs,
      pass_taken,
      deep_taken,
      most,
      mul-add (capacity pace.gears.sizes) (pace.passes + one_of pace.gears.pass) (pace.deeps + one_of pace.gears.deep),
      mul-add (capacity pace.gears.sizes) pace.passes (one_of pace.gears.pass),
      mul-add (capacity pace.gears.sizes) pace.deeps (one_of pace.gears.deep),
    )
