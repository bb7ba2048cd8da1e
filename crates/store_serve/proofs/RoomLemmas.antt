-- Room that is dealt out.
use Rattle.std.proofs.Common.{◌≡◌, ◌∙◌, ℕ, zero, suc, ◌+◌, ◌-◌, ◌/◌, ◌<◌, ◌≤◌, List, ◌∷◌, ◌++◌, slice_set, replicate, refl, ap, arith, sum}
use Rattle.std.proofs.lemmas.List.Folds.{sum_by-replicate}
use Rattle.std.proofs.lemmas.List.Sums.{sum_by-append}
use Rattle.std.proofs.Math.Nat.{mul-div-le}
use Rattle.blsm_model.specs.Format.{callers}
use Rattle.store_serve.specs.Room.{dealt}

-- the first callers have theirs
abbrev pub dealt_to : ℕ → ℕ → List ℕ
dealt_to i each = replicate i each ++ replicate (callers - i) 0

-- one caller more
set_next : (i each : ℕ) (zs : List ℕ) → slice_set (replicate i each ++ 0 ∷ zs) i each ≡ replicate i each ++ each ∷ zs
set_next zero each zs = refl
set_next (suc i) each zs = ap (λ (l : List ℕ). each ∷ l) (set_next i each zs)

next_dealt : (i each : ℕ) (zs : List ℕ) → replicate i each ++ each ∷ zs ≡ replicate (suc i) each ++ zs
next_dealt zero each zs = refl
next_dealt (suc i) each zs = ap (λ (l : List ℕ). each ∷ l) (next_dealt i each zs)

pub dealt_more : (i each : ℕ) → i < callers → slice_set (dealt_to i each) i each ≡ dealt_to (i + 1) each
dealt_more i each below =
    let rest : ℕ = callers - (i + 1) in
    let split : callers - i ≡ suc rest = omega arith in
    let more : suc i ≡ i + 1 = omega arith in
    ap (λ (n : ℕ). slice_set (replicate i each ++ replicate n 0) i each) split
    ∙ set_next i each (replicate rest 0)
    ∙ next_dealt i each (replicate rest 0)
    ∙ ap (λ (n : ℕ). replicate n each ++ replicate rest 0) more

-- no more is dealt out than there is
pub dealt_few : (count most : ℕ) → 1 ≤ count → count ≤ callers → sum (dealt count most) ≤ most
dealt_few count most some few =
    omega (arith, sum_by-append (λ (n : ℕ). n) (replicate count (most / count)) (replicate (callers - count) 0), sum_by-replicate (λ (n : ℕ). n) count (most / count), sum_by-replicate (λ (n : ℕ). n) (callers - count) 0, mul-div-le most count)
