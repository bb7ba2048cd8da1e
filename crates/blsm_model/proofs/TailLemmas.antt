-- A tail behind a tail, and how long a text with a tail is.
use Rattle.std.proofs.lemmas.Bool.Decides.{nat_tests}
use Rattle.std.proofs.lemmas.Grind.{common_steps}
use Rattle.std.proofs.Common.{◌≡◌, ℕ, ◌+◌, ◌-◌, ◌<◌, ◌≤◌, ◌++◌, ◌⊎◌, inl, inr, List, [], ◌∷◌, refl, ap, sym, ◌∙◌, length, drop, append-nil, append_assoc, length-append, length-drop, arith}
use Rattle.std.proofs.lemmas.List.{drop-drop, drop-append-le, drop_at}
use Rattle.blsm_model.specs.Format.{most_tail}
use Rattle.blsm_model.specs.Tails.{last_of, with_tail}

some_tail : (text tail : List ℕ) → 1 ≤ length tail → with_tail text tail ≡ last_of most_tail (text ++ tail)
some_tail text tail h1 = grind (arith, common_steps, nat_tests)

last_all : (n : ℕ) (xs : List ℕ) → length xs ≤ n → last_of n xs ≡ xs
last_all n xs few = let none : length xs - n ≡ 0 = omega (arith, few) in ap (λ k. drop k xs) none

last_drop : (n k : ℕ) (xs : List ℕ) → k ≤ length xs - n → last_of n (drop k xs) ≡ last_of n xs
last_drop n k xs le = grind (arith, common_steps, nat_tests)

-- what was before the last bytes of the first part makes no difference
last_of_last : (n : ℕ) (xs ys : List ℕ) → last_of n (last_of n xs ++ ys) ≡ last_of n (xs ++ ys)
last_of_last n xs ys =
    let within : length xs - n ≤ length xs = omega arith in
    let less : length xs - n ≤ length (xs ++ ys) - n = omega (arith, length-append xs ys) in
    ap (λ zs. last_of n zs) (sym (drop-append-le (length xs - n) xs ys within)) ∙ last_drop n (length xs - n) (xs ++ ys) less

-- nor what was before those of the second
last_over_last : (n : ℕ) (xs ys : List ℕ) → last_of n (xs ++ last_of n ys) ≡ last_of n (xs ++ ys)
last_over_last n xs ys = by (few_or_more (length ys))
  where
    few_or_more : (k : ℕ) → (k ≤ n) ⊎ (n < k)
    few_or_more k = grind arith

    by : (length ys ≤ n) ⊎ (n < length ys) → last_of n (xs ++ last_of n ys) ≡ last_of n (xs ++ ys)
    by (inl few) = ap (λ zs. last_of n (xs ++ zs)) (last_all n ys few)
    by (inr more) =
        let end : List ℕ = last_of n ys in
        let first : length (xs ++ end) - n ≡ length xs = omega (arith, length-append xs end, length-drop (length ys - n) ys, more) in
        let second : length (xs ++ ys) - n ≡ length xs + (length ys - n) = omega (arith, length-append xs ys, more) in
        ap (λ k. drop k (xs ++ end)) first ∙ drop_at xs end (length xs) refl
        ∙ sym (ap (λ k. drop k (xs ++ ys)) second ∙ sym (drop-drop (length ys - n) (length xs) (xs ++ ys)) ∙ ap (drop (length ys - n)) (drop_at xs ys (length xs) refl))

pub tails_join : (text tail more : List ℕ) → with_tail (with_tail text tail) more ≡ with_tail text (with_tail tail more)
tails_join text tail [] = refl
tails_join text tail (byte ∷ more) =
    let both : List ℕ = tail ++ byte ∷ more in
    let some : 1 ≤ length (last_of most_tail both) = omega (arith, length-drop (length both - most_tail) both, length-append tail (byte ∷ more)) in
    joined tail ∙ ap (last_of most_tail) (append_assoc text tail (byte ∷ more))
    ∙ sym (some_tail text (last_of most_tail both) some ∙ last_over_last most_tail text both)
  where
    joined : (tail : List ℕ) → with_tail (with_tail text tail) (byte ∷ more) ≡ last_of most_tail ((text ++ tail) ++ byte ∷ more)
    joined [] = ap (λ first. last_of most_tail (first ++ byte ∷ more)) (sym (append-nil text))
    joined (first ∷ tail) = last_of_last most_tail (text ++ first ∷ tail) (byte ∷ more)

-- a tail of nothing is itself, where it is no longer than tails are
pub tail_alone : (tail : List ℕ) → length tail ≤ most_tail → with_tail [] tail ≡ tail
tail_alone tail h1 = grind (arith, common_steps, nat_tests)

pub tail_at_most : (text tail : List ℕ) → length (with_tail text tail) ≤ length text + length tail
tail_at_most text tail = grind (arith, common_steps, nat_tests)

pub tail_at_least : (text tail : List ℕ) → length tail ≤ most_tail → length tail ≤ length (with_tail text tail)
tail_at_least text tail h1 = grind (arith, common_steps, nat_tests)

pub tail_within : (limit : ℕ) (text tail : List ℕ) → most_tail ≤ limit → length text ≤ limit → length (with_tail text tail) ≤ limit
tail_within limit text tail h1 h2 = grind (arith, common_steps, nat_tests)
