-- Where the entries above a key begin.
use Rattle.std.proofs.lemmas.Bool.Decides.{nat_tests}
use Rattle.std.proofs.lemmas.Grind.{common_steps}
use Rattle.std.proofs.Common.{◌≡◌, ℕ, zero, suc, ◌+◌, ◌<◌, ◌≤◌, inl, inr, true, false, cond, [], ◌∷◌, length, get_or, drop, Option, Some, None, refl, ap, subst, ◌∙◌, arith}
use Rattle.std.specs.List.{AllWithin}
use Rattle.std.specs.Ordering.{is_lt}
use Rattle.std.specs.declared.cmp.Ordering.TheVariants.{Less, Equal, Greater}
use Rattle.std.proofs.lemmas.Bool.{cases_lt}
use Rattle.std.specs.Cmp.{tied_itself}
use Rattle.std.proofs.lemmas.Cmp.{nat_list_cmp_total}
use Rattle.std.proofs.lemmas.List.{drop_all}
use Rattle.blsm_model.specs.declared.key.Key.{Key}
use Rattle.blsm_model.specs.Keys.{key_cmp}
use Rattle.record_delta.specs.declared.record.Rec.{Rec}
use Rattle.record_delta.specs.Entries.{Entries, AreSorted, is_above, above, first_of}
use Rattle.mem_table.specs.Places.{IsSplit}
use Rattle.mem_table.proofs.SortedLemmas.{turned, rising}
use Rattle.mem_table.proofs.PlaceLemmas.{sorted_test}
use Rattle.mem_table.proofs.Terms.{IsAt, IsGapFor}

-- the tests that the comparisons give
not_above_if_less : (low key : Key) → key_cmp key low ≡ Less → is_lt (key_cmp low key) ≡ false
not_above_if_less low key less = ap is_lt (turned key_cmp nat_list_cmp_total key low Less less)

above_if_greater : (low key : Key) → key_cmp key low ≡ Greater → is_lt (key_cmp low key) ≡ true
above_if_greater low key greater = ap is_lt (turned key_cmp nat_list_cmp_total key low Greater greater)

same_key_cmp : (key : Key) → key_cmp key key ≡ Equal
same_key_cmp key = tied_itself nat_list_cmp_total key

-- ---- where the entries above a key begin

pub split_at : (es : Entries) (key : Key) (i : ℕ) → AreSorted es → IsAt es key i → IsSplit es (Some key) (i + 1)
split_at es key i sorted at = record { in_range = omega (arith, at.in_range); before = before; after = after }
  where
    rise : (k j : ℕ) (d : Key × Rec) → k < j → j < length es → key_cmp (get_or es k d).0 (get_or es j d).0 ≡ Less
    rise k j d lt within = rising key_cmp nat_list_cmp_total es k j d (sorted_test es sorted) lt within

    before : AllWithin (λ e. is_above (Some key) e.0 ≡ false) es 0 (i + 1)
    before k d low high =
        elim (cases_lt k i) [
          | inl lt ↦ not_above_if_less key (get_or es k d).0 (subst (λ (q : Key). key_cmp (get_or es k d).0 q ≡ Less) (at.has_key d) (rise k i d lt at.in_range))
          | inr le ↦
              let k_is : i ≡ k = omega arith in
              let key_is : (get_or es k d).0 ≡ key = subst (λ (j : ℕ). (get_or es j d).0 ≡ key) k_is (at.has_key d) in
              ap (λ q. is_lt (key_cmp key q)) key_is ∙ ap is_lt (same_key_cmp key)
        ]

    after : AllWithin (λ e. is_above (Some key) e.0 ≡ true) es (i + 1) (length es)
    after k d low high = ap is_lt (subst (λ (q : Key). key_cmp q (get_or es k d).0 ≡ Less) (at.has_key d) (rise i k d (omega arith) high))

pub split_gap : (es : Entries) (key : Key) (i : ℕ) → IsGapFor es key i → IsSplit es (Some key) i
split_gap es key i gap = grind (arith, common_steps, nat_tests, not_above_if_less, above_if_greater)

-- ---- what they are

none_kept : (low : Option Key) (es : Entries) → ((k : ℕ) (d : Key × Rec) → k < length es → is_above low (get_or es k d).0 ≡ true) → above low es ≡ es
none_kept low [] all = refl
none_kept low (e ∷ es) all = grind (arith, common_steps, nat_tests, all 0 e (omega arith), none_kept low es (λ k d lt. all (suc k) d (omega arith)))

pub above_is : (es : Entries) (low : Option Key) (i : ℕ) → IsSplit es low i → above low es ≡ drop i es
above_is [] low zero split = refl
above_is [] low (suc i) split = refl
above_is (e ∷ es) low zero split = none_kept low (e ∷ es) (λ k d lt. split.after k d (omega arith) lt)
above_is (e ∷ es) low (suc i) split =
    ap (λ b. cond b (e ∷ above low es) (above low es)) (split.before 0 e (omega arith) (omega arith))
    ∙ above_is es low i (record {
      in_range = omega (arith, split.in_range);
      before = λ k d from to. split.before (suc k) d (omega arith) (omega arith);
      after = λ k d from to. split.after (suc k) d (omega arith) (omega arith);
    })

pub first_at : (es : Entries) (i : ℕ) (d : Key × Rec) → i < length es → first_of (drop i es) ≡ Some (get_or es i d)
first_at [] i d lt = absurd (omega arith)
first_at (e ∷ es) zero d lt = refl
first_at (e ∷ es) (suc i) d lt = first_at es i d (omega arith)

pub first_behind : (es : Entries) (i : ℕ) → length es ≤ i → first_of (drop i es) ≡ None
first_behind es i le = ap first_of (drop_all i es le)
