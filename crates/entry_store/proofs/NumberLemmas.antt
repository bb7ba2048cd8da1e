-- Bytes as the number that they spell.
use Rattle.std.proofs.lemmas.Bool.Decides.{nat_tests}
use Rattle.std.proofs.lemmas.Grind.{common_steps}
use Rattle.std.proofs.Common.{◌≡◌, ℕ, zero, suc, ◌+◌, ◌*◌, ◌<◌, List, [], ◌∷◌, length, take, get_or, refl, sym, ap, ◌∙◌, arith}
use Rattle.std.specs.Int.{w64, from_be_bytes}
use Rattle.std.specs.Ordering.{nat_cmp, ordering_then, MatchOrdering}
use Rattle.std.specs.Cmp.{ranks, nat_cmp_is}
use Rattle.std.specs.Cmp.Lexicographic.{slice_cmp}
use Rattle.std.specs.Slice.Scan.{big_endian}
use Rattle.std.specs.declared.cmp.Ordering.{Ordering}
use Rattle.std.specs.declared.cmp.Ordering.TheVariants.{Less, Equal, Greater}

abbrev pub AreBytes : List ℕ → Type 0
AreBytes bytes = (i : ℕ) → get_or bytes i 0 < 256

pub AreBytes-take : (n : ℕ) (xs : List ℕ) → AreBytes xs → AreBytes (take n xs)
AreBytes-take zero xs fit i = omega arith
AreBytes-take (suc n) [] fit i = omega arith
AreBytes-take (suc n) (x ∷ xs) fit zero = fit 0
AreBytes-take (suc n) (x ∷ xs) fit (suc i) = AreBytes-take n xs (λ k. fit (suc k)) i

-- what stands before weighs more than all bytes behind it
rises : (a b : ℕ) (us vs : List ℕ) → length us ≡ length vs → AreBytes us → a < b → big_endian a us < big_endian b vs
rises a b [] [] same us_fit less = less
rises a b [] (v ∷ vs) same us_fit less = absurd (omega (arith, same))
rises a b (u ∷ us) [] same us_fit less = absurd (omega (arith, same))
rises a b (u ∷ us) (v ∷ vs) same us_fit less =
    let small : u < 256 = us_fit 0 in
    rises (a * 256 + u) (b * 256 + v) us vs (omega (arith, same)) (λ i. us_fit (suc i)) (omega (arith, small, less))

-- as many bytes are ordered as their numbers are
spelled : (a : ℕ) (us vs : List ℕ) → length us ≡ length vs → AreBytes us → AreBytes vs → nat_cmp (big_endian a us) (big_endian a vs) ≡ slice_cmp nat_cmp us vs
spelled a [] [] same us_fit vs_fit = sym (nat_cmp_is a a Equal refl)
spelled a [] (v ∷ vs) same us_fit vs_fit = absurd (omega (arith, same))
spelled a (u ∷ us) [] same us_fit vs_fit = absurd (omega (arith, same))
spelled a (u ∷ us) (v ∷ vs) same us_fit vs_fit = by (spelled (a * 256 + u) us vs as_long (λ i. us_fit (suc i)) (λ i. vs_fit (suc i))) (nat_cmp u v) refl (ranks u v)
  where
    as_long : length us ≡ length vs
    as_long = omega (arith, same)

    by : nat_cmp (big_endian (a * 256 + u) us) (big_endian (a * 256 + u) vs) ≡ slice_cmp nat_cmp us vs
        → (o : Ordering) → nat_cmp u v ≡ o → MatchOrdering o (u < v) (u ≡ v) (v < u)
        → nat_cmp (big_endian (a * 256 + u) us) (big_endian (a * 256 + v) vs) ≡ ordering_then (nat_cmp u v) (slice_cmp nat_cmp us vs)
    by rest Less is less =
        rw is (sym (nat_cmp_is (big_endian (a * 256 + u) us) (big_endian (a * 256 + v) vs) Less (rises (a * 256 + u) (a * 256 + v) us vs as_long (λ i. us_fit (suc i)) (omega (arith, less)))))
    by rest Equal is ranked = grind (arith, common_steps, nat_tests)
    by rest Greater is more =
        rw is (sym (nat_cmp_is (big_endian (a * 256 + u) us) (big_endian (a * 256 + v) vs) Greater (rises (a * 256 + v) (a * 256 + u) vs us (sym as_long) (λ i. vs_fit (suc i)) (omega (arith, more)))))

-- the number that a machine reads from eight bytes
eight_spell : (xs : List ℕ) → length xs ≡ 8 → from_be_bytes w64 xs ≡ big_endian 0 xs
eight_spell xs h1 = grind (arith, common_steps, nat_tests)

pub eight_ordered : (xs ys : List ℕ) → length xs ≡ 8 → length ys ≡ 8 → AreBytes xs → AreBytes ys → nat_cmp (from_be_bytes w64 xs) (from_be_bytes w64 ys) ≡ slice_cmp nat_cmp xs ys
eight_ordered xs ys xs_long ys_long xs_fit ys_fit =
    ap (λ n. nat_cmp n (from_be_bytes w64 ys)) (eight_spell xs xs_long)
    ∙ ap (nat_cmp (big_endian 0 xs)) (eight_spell ys ys_long)
    ∙ spelled 0 xs ys (xs_long ∙ sym ys_long) xs_fit ys_fit
