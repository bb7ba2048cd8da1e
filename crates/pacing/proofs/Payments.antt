-- A payment keeps what is kept.
use Rattle.std.proofs.Common.{◌≡◌, ◌∙◌, refl, ℕ, ◌+◌, ◌<◌, ◌||◌, not, Bool, true, false, List, length, get_or, set, inl, inr, arith}
use Rattle.std.proofs.lemmas.Grind.{common_steps}
use Rattle.std.proofs.lemmas.Bool.{false≢true, cases_lt, or_parts, not-false, eqb-false}
use Rattle.std.proofs.lemmas.Bool.Decides.{nat_tests}
use Rattle.std.proofs.lemmas.List.{length-set}
use Rattle.blsm_model.specs.Format.{callers}
use Rattle.gear_sched.specs.Gears.{first_debt, second_debt, left_of, plan_for}
use Rattle.gear_sched.specs.declared.Plan.{Plan}
use Rattle.gear_sched.specs.declared.Plan.TheVariants.{Snow, Deep, Nothing}
use Rattle.pacing.specs.Pace.{Pace, Quantum, with_snow, with_deep, with_forgiven, counted, pass_over, deep_over, pass_done, deep_done}
use Rattle.pacing.specs.Kept.{IsPaced}
use Rattle.pacing.specs.Steps.{IsSnow, IsDeep, MayPay, FitsPlan, plan_of, paid_by}
use Rattle.pacing.proofs.Flags.{at}
use Rattle.pacing.proofs.Quanta.{snow_taken, deep_taken, snow_counted, deep_counted}
use Rattle.pacing.proofs.Forgiven.{forgiven_kept}

-- what the plan says of the debts
pub snow_owed : (first second : ℕ) → plan_for first second ≡ Snow → 0 < first
snow_owed first second e = grind (arith, nat_tests)

pub deep_owed : (first second : ℕ) → plan_for first second ≡ Deep → 0 < second
deep_owed first second e = grind (arith, nat_tests)

-- a debt that is left isn't owed to a merge that is over
pub nothing_left : (xs : List ℕ) (seat : ℕ) (over ahead : Bool) → seat < length xs → 0 < get_or (set xs seat (left_of (over || ahead) (get_or xs seat 0))) seat 0 → over ≡ false
nothing_left xs seat over ahead h1 h2 = grind (arith, common_steps, nat_tests)

pub snow_paid : (p : Pace) (pass : Bool) (seat : ℕ) (quantum : Quantum) → pass ≡ true → IsPaced (at p pass p.gears.deep) → IsSnow (at p pass p.gears.deep) quantum
    → seat < callers → 0 < first_debt p.gears seat → p.gears.pass_taken < p.a + p.c1 → IsPaced (counted (with_snow (at p pass p.gears.deep) seat quantum) seat)
snow_paid p true seat quantum e k snow caller owes left =
    snow_taken p p.gears.deep seat quantum (set p.quanta seat (get_or p.quanta seat 0 + 1)) (length-set p.quanta seat _ ∙ k.quanta) k snow (snow_counted p p.gears.deep seat quantum k snow caller owes left)
snow_paid p false seat quantum e k snow caller owes left = absurd (false≢true e)

pub deep_paid : (p : Pace) (deep : Bool) (seat : ℕ) (quantum : Quantum) → deep ≡ true → IsPaced (at p p.gears.pass deep) → IsDeep (at p p.gears.pass deep) quantum
    → seat < callers → 0 < second_debt p.gears seat → p.gears.deep_taken < p.c1x + p.c2 → IsPaced (counted (with_deep (at p p.gears.pass deep) seat quantum) seat)
deep_paid p true seat quantum e k taking caller owes left =
    deep_taken p p.gears.pass seat quantum (set p.quanta seat (get_or p.quanta seat 0 + 1)) (length-set p.quanta seat _ ∙ k.quanta) k taking (deep_counted p p.gears.pass seat quantum k taking caller owes left)
deep_paid p false seat quantum e k taking caller owes left = absurd (false≢true e)

paid_as : (p : Pace) (seat : ℕ) (quantum : Quantum) (plan : Plan) → plan_of (with_forgiven p seat) seat ≡ plan → IsPaced p → IsPaced (with_forgiven p seat) → seat < callers → FitsPlan plan (with_forgiven p seat) quantum
    → IsPaced (paid_by plan (with_forgiven p seat) seat quantum)
paid_as p seat quantum Snow e before k caller fits =
    let owes = snow_owed (first_debt (with_forgiven p seat).gears seat) (second_debt (with_forgiven p seat).gears seat) e in
    let there : seat < length p.gears.first_debts = omega (arith, before.debts.first_seats) in
    let over : pass_over p ≡ false = nothing_left p.gears.first_debts seat (pass_over p) _ there owes in
    let parts = or_parts (not p.gears.pass) (pass_done p) over in
    let runs = not-false p.gears.pass parts.0 in
    let run = before.within.running runs in
    let differs = eqb-false p.gears.pass_taken (p.a + p.c1) parts.1 in
    let left : p.gears.pass_taken < p.a + p.c1 = elim (cases_lt p.gears.pass_taken (p.a + p.c1)) [ inl less ↦ less | inr past ↦ absurd (differs (omega arith)) ] in
    snow_paid (with_forgiven p seat) p.gears.pass seat quantum runs k fits caller owes left
paid_as p seat quantum Deep e before k caller fits =
    let owes = deep_owed (first_debt (with_forgiven p seat).gears seat) (second_debt (with_forgiven p seat).gears seat) e in
    let there : seat < length p.gears.second_debts = omega (arith, before.debts.second_seats) in
    let over : deep_over p ≡ false = nothing_left p.gears.second_debts seat (deep_over p) _ there owes in
    let parts = or_parts (not p.gears.deep) (deep_done p) over in
    let runs = not-false p.gears.deep parts.0 in
    let merge = before.within.merging runs in
    let differs = eqb-false p.gears.deep_taken (p.c1x + p.c2) parts.1 in
    let left : p.gears.deep_taken < p.c1x + p.c2 = elim (cases_lt p.gears.deep_taken (p.c1x + p.c2)) [ inl less ↦ less | inr past ↦ absurd (differs (omega arith)) ] in
    deep_paid (with_forgiven p seat) p.gears.deep seat quantum runs k fits caller owes left
paid_as p seat quantum Nothing e before k caller fits = k

pub paid : (p : Pace) (seat : ℕ) (quantum : Quantum) → IsPaced p → MayPay p seat quantum → IsPaced (paid_by (plan_of (with_forgiven p seat) seat) (with_forgiven p seat) seat quantum)
paid p seat quantum k may = paid_as p seat quantum (plan_of (with_forgiven p seat) seat) refl k (forgiven_kept p seat k may.caller) may.caller may.fits
