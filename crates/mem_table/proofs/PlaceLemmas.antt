-- What a search among a table's entries finds.
use Rattle.std.proofs.lemmas.Bool.Decides.{nat_tests}
use Rattle.std.proofs.lemmas.Grind.{common_steps}
use Rattle.std.proofs.Common.{◌≡◌, ◌≤◌, ℕ, zero, suc, ◌⊎◌, inl, inr, T, [], ◌∷◌, length, get_or, Some, None, Result, Ok, Err, IfOk, IfErr, ◌≢◌, true, false, refl, ap, sym, subst, arith}
use Rattle.std.specs.List.{AllWithin}
use Rattle.std.specs.List.Sorted.{IsSearchInRange, IsBinarySearchResult, IsNonDecreasingBy, IsSortedBy}
use Rattle.std.specs.Ordering.{is_lt, is_eq, eq_by_cmp, ordering_index}
use Rattle.std.specs.Cmp.{tied_itself}
use Rattle.std.specs.declared.cmp.Ordering.TheVariants.{Less, Equal, Greater}
use Rattle.std.specs.FinMap.{slice_cmp-IsAntisymmetric, nat_cmp-IsAntisymmetric, is_sorted}
use Rattle.std.proofs.lemmas.Bool.{false≢true}
use Rattle.std.proofs.lemmas.Cmp.{nat_list_cmp_total}
use Rattle.std.proofs.lemmas.List.Sorted.{searchable_from_sorted}
use Rattle.blsm_model.specs.declared.key.Key.{Key}
use Rattle.blsm_model.specs.Keys.{key_cmp}
use Rattle.record_delta.specs.declared.record.Rec.{Rec}
use Rattle.record_delta.specs.Entries.{Entries, AreSorted, record_of_key}
use Rattle.mem_table.specs.Tables.{is_there}
use Rattle.mem_table.proofs.SortedLemmas.{both_hold, turned, rising, find_at, Parts, find_apart}
use Rattle.mem_table.proofs.Terms.{IsAt, IsGapFor}

pub sorted_test : (es : Entries) → AreSorted es → T (is_sorted key_cmp es)
sorted_test es sorted = subst T (sym sorted) tt

pub tied : (a b : Key) → key_cmp a b ≡ Equal → a ≡ b
tied a b e = slice_cmp-IsAntisymmetric nat_cmp-IsAntisymmetric a b e

-- ---- the test for a key

pub test_same : (key k : Key) → key ≡ k → eq_by_cmp key_cmp key k ≡ true
test_same key k is = ap is_eq (subst (λ (x : Key). key_cmp key x ≡ Equal) is (tied_itself nat_list_cmp_total key))

pub test_other : (key k : Key) → key ≢ k → eq_by_cmp key_cmp key k ≡ false
test_other key k h1 = grind (arith, common_steps, nat_tests, tied)

pub same_by_test : (key k : Key) → eq_by_cmp key_cmp key k ≡ true → key ≡ k
same_by_test key k h1 = grind (arith, common_steps, nat_tests, tied)

pub there_same : (key k : Key) → 1 ≤ length k → key ≡ k → is_there key k ≡ true
there_same key [] some is = absurd (omega (arith, some))
there_same key (b ∷ k) some is = test_same key (b ∷ k) is

pub there_other : (key k : Key) → (1 ≤ length k → key ≢ k) → is_there key k ≡ false
there_other key [] differs = refl
there_other key (b ∷ k) differs = test_other key (b ∷ k) (differs (omega arith))

pub same_there : (key k : Key) → is_there key k ≡ true → (key ≡ k) × (1 ≤ length k)
same_there key [] is = absurd (false≢true is)
same_there key (b ∷ k) is = (same_by_test key (b ∷ k) is, omega arith)

-- no key is below the one before it
not_falling : (es : Entries) → AreSorted es → IsSortedBy (λ a b. is_lt (key_cmp a.0 b.0)) es
not_falling es h1 = grind (arith, common_steps, nat_tests, turned, nat_list_cmp_total, get_or, rising, sorted_test)

comparisons_rise : (es : Entries) (key : Key) → AreSorted es → IsNonDecreasingBy (λ e. ordering_index (key_cmp e.0 key)) es
comparisons_rise es key sorted = searchable_from_sorted nat_list_cmp_total (λ e. e.0) es key (not_falling es sorted)

-- a binary search ends at the key, or at the gap for it
pub record Searched (es : Entries) (key : Key) (r : Result ℕ ℕ) : Type 0 where
  pub found : IfOk r (IsAt es key)
  pub absent : IfErr r (IsGapFor es key)

pub searched : (es : Entries) (key : Key) (r : Result ℕ ℕ) → AreSorted es → IsSearchInRange r (length es) → IsBinarySearchResult (λ e. key_cmp e.0 key) es r → Searched es key r
searched es key (Ok at) sorted in_range equal = grind (arith, common_steps, nat_tests, tied)
searched es key (Err at) sorted in_range parted =
    let parts = parted (comparisons_rise es key sorted) in
    record { found = tt; absent = record { in_range = in_range; before = parts.0; after = parts.1 } }

-- what the entries have at a key that was found, and at one that wasn't
pub present_at : (es : Entries) (key : Key) (i : ℕ) (d : Key × Rec) → AreSorted es → IsAt es key i → record_of_key key es ≡ Some (get_or es i d).1
present_at es key i d h1 h2 = grind (arith, common_steps, nat_tests, find_at, nat_list_cmp_total, sorted_test)

pub parts_of_gap : (es : Entries) (key : Key) (i : ℕ) → IsGapFor es key i → Parts key_cmp nat_list_cmp_total es key i
parts_of_gap es key i gap = record { before = λ j d lt. gap.before j d (omega arith) lt; after = gap.after }

pub absent_at : (es : Entries) (key : Key) (i : ℕ) → IsGapFor es key i → record_of_key key es ≡ None
absent_at es key i gap = find_apart key_cmp nat_list_cmp_total es key i (parts_of_gap es key i gap)

-- ---- each key has a place

at_later : (e : Key × Rec) (es : Entries) (key : Key) (i : ℕ) → IsAt es key i → IsAt (e ∷ es) key (suc i)
at_later e es key i at = record { in_range = omega (arith, at.in_range); has_key = at.has_key }

gap_later : (e : Key × Rec) (es : Entries) (key : Key) (i : ℕ) → key_cmp e.0 key ≡ Less → IsGapFor es key i → IsGapFor (e ∷ es) key (suc i)
gap_later e es key i less gap = grind (arith, common_steps, nat_tests)

gap_first : (e : Key × Rec) (es : Entries) (key : Key) → T (is_sorted key_cmp (e ∷ es)) → key_cmp e.0 key ≡ Greater → IsGapFor (e ∷ es) key 0
gap_first e es key sorted greater = record { in_range = omega arith; before = λ k d low high. absurd (omega arith); after = after }
  where
    after : AllWithin (λ f. key_cmp f.0 key ≡ Greater) (e ∷ es) 0 (length (e ∷ es))
    after zero d low high = greater
    after (suc k) d low high = grind (arith, common_steps, nat_list_cmp_total.trans key e.0 (get_or es k d).0, turned key_cmp nat_list_cmp_total e.0 key Greater greater, turned key_cmp nat_list_cmp_total key (get_or es k d).0 Less, rising key_cmp nat_list_cmp_total (e ∷ es) 0 (suc k) d sorted (omega arith) (omega arith))

pub place_of : (es : Entries) (key : Key) → T (is_sorted key_cmp es) → ((i : ℕ) × IsAt es key i) ⊎ ((i : ℕ) × IsGapFor es key i)
place_of [] key sorted = inr (0, record { in_range = omega arith; before = λ k d low high. absurd (omega arith); after = λ k d low high. absurd (omega arith) })
place_of (e ∷ es) key sorted =
    elim (key_cmp e.0 key) as (λ o. key_cmp e.0 key ≡ o → ((i : ℕ) × IsAt (e ∷ es) key i) ⊎ ((i : ℕ) × IsGapFor (e ∷ es) key i)) [
      | Less ↦ λ less.
          elim (place_of es key (both_hold _ _ sorted).1) [
            | inl p ↦ inl (suc p.0, at_later e es key p.0 p.1)
            | inr p ↦ inr (suc p.0, gap_later e es key p.0 less p.1)
          ]
      | Equal ↦ λ same. inl (0, record { in_range = omega arith; has_key = λ d. tied e.0 key same })
      | Greater ↦ λ greater. inr (0, gap_first e es key sorted greater)
    ] refl
