-- What a merge takes of two lists, group by group.
use Rattle.std.proofs.lemmas.Bool.Decides.{nat_tests}
use Rattle.std.proofs.lemmas.Grind.{common_steps}
use Rattle.std.proofs.Common.{◌≡◌, ◌+◌, ◌<◌, ◌≤◌, ◌⊎◌, ℕ, Option, refl, sym, subst, inl, inr, arith}
use Rattle.blsm_model.specs.declared.key.Key.{Key}
use Rattle.record_delta.specs.Entries.{Entries, AreSorted}
use Rattle.merge_step.proofs.StepLemmas.{goes_on}
use Rattle.merge_ends.specs.Quantum.{IsNext, NoneAbove, HasTaken}

-- a group more, where what was taken before it isn't enough
pub has_more : (least : ℕ) (from mid to : Option Key) (a c1 : Entries) (taken group : ℕ) → AreSorted a → AreSorted c1 → taken < least → HasTaken least from mid a c1 taken
    → IsNext mid to a c1 group → HasTaken least from to a c1 (taken + group)
has_more least from mid to a c1 taken group sorted_a sorted_c1 few has next =
    let step = goes_on mid a c1 next.0 next.1 group sorted_a sorted_c1 next.2 in
    subst (λ (k : Option Key). HasTaken least from k a c1 (taken + group)) (sym next.3)
    (record {
      taken_is = omega (arith, has.taken_is, step.taken_is, step.newer_left, step.older_left);
      last = inr (record { before = mid; group = group; few = omega (arith, has.taken_is, few); next = (next.0, next.1, next.2, refl) });
    })

pub has_same : (least : ℕ) (from mid to : Option Key) (a c1 : Entries) (taken group : ℕ) → to ≡ mid → group ≡ 0 → HasTaken least from mid a c1 taken → HasTaken least from to a c1 (taken + group)
has_same least from mid to a c1 taken group h1 h2 h3 = grind (arith, common_steps, nat_tests)

pub has_step : (least : ℕ) (from mid to : Option Key) (a c1 : Entries) (taken group : ℕ) → AreSorted a → AreSorted c1 → taken < least → HasTaken least from mid a c1 taken
    → IsNext mid to a c1 group ⊎ (NoneAbove mid a c1 × (to ≡ mid) × (group ≡ 0)) → HasTaken least from to a c1 (taken + group)
has_step least from mid to a c1 taken group sorted_a sorted_c1 few has (inl next) = has_more least from mid to a c1 taken group sorted_a sorted_c1 few has next
has_step least from mid to a c1 taken group sorted_a sorted_c1 few has (inr none) = has_same least from mid to a c1 taken group none.1 none.2 has

pub some_weight : {P : Type 0} (group : ℕ) → (14 ≤ group) ⊎ ((group ≡ 0) × P) → (group ≡ 0 → ⊥) → 14 ≤ group
some_weight group h1 h2 = grind (arith, common_steps, nat_tests)

pub no_weight : {P : Type 0} (group : ℕ) → (14 ≤ group) ⊎ ((group ≡ 0) × P) → group ≡ 0 → P
no_weight group h1 h2 = grind (arith, common_steps, nat_tests)
