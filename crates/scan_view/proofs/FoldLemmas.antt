-- The first entry of two sorted lists that are folded.
use Rattle.std.proofs.Common.{◌≡◌, Bool, cond, T, [], ◌∷◌, Option, Some, None, refl, ap, sym, ◌∙◌, arith}
use Rattle.std.proofs.lemmas.Grind.{common_steps}
use Rattle.std.proofs.lemmas.Bool.Decides.{nat_tests}
use Rattle.std.proofs.Common.{arith}
use Rattle.std.specs.Ordering.{is_eq}
use Rattle.std.specs.declared.cmp.Ordering.{Ordering}
use Rattle.std.specs.declared.cmp.Ordering.TheVariants.{Less, Equal, Greater}
use Rattle.std.specs.Cmp.{tied_itself}
use Rattle.std.specs.FinMap.{find, is_sorted, slice_cmp-IsAntisymmetric, nat_cmp-IsAntisymmetric}
use Rattle.std.specs.FinMap.Entries.{below_all, where_key, find-where_key, is_sorted-where_key, same_entries}
use Rattle.std.proofs.lemmas.Cmp.{nat_list_cmp_total}
use Rattle.blsm_model.specs.declared.key.Key.{Key}
use Rattle.blsm_model.specs.Keys.{key_cmp}
use Rattle.record_delta.specs.declared.record.Rec.{Rec}
use Rattle.record_delta.specs.Folding.{fold}
use Rattle.record_delta.specs.Entries.{Entries, AreSorted, folded_over, over_any, is_above, above, first_of}
use Rattle.merge_step.specs.Group.{least_of, group_of}
use Rattle.merge_step.proofs.MergedLemmas.{left, right, less, test, is_true, turned, same, find_folded, sorted_folded}
use Rattle.scan_view.specs.Left.{entry_of}

-- ---- what stands first

-- a key below the first of a sorted list's isn't in it
below_first : (q : Key) (e : Key × Rec) (es : Entries) → T (is_sorted key_cmp (e ∷ es)) → key_cmp q e.0 ≡ Less → find key_cmp q (e ∷ es) ≡ None
below_first q e es sorted is =
    ap (λ r. cond (is_eq r) (Some e.1) (find key_cmp q es)) is ∙ rest es (left _ _ sorted)
  where
    rest : (fs : Entries) → T (below_all key_cmp e.0 fs) → find key_cmp q fs ≡ None
    rest [] below = refl
    rest (f ∷ fs) below =
        ap (λ r. cond (is_eq r) (Some f.1) (find key_cmp q fs)) (nat_list_cmp_total.trans q e.0 f.0 is (less _ (left _ _ below))) ∙ rest fs (right _ _ below)

found_first : (e : Key × Rec) (es : Entries) → find key_cmp e.0 (e ∷ es) ≡ Some e.1
found_first e es = ap (λ r. cond (is_eq r) (Some e.1) (find key_cmp e.0 es)) (tied_itself nat_list_cmp_total e.0)

pair_is : (a b : Key × Rec) → a.0 ≡ b.0 → Some a.1 ≡ Some b.1 → a ≡ b
pair_is a b keys recs = let same_recs : a.1 ≡ b.1 = cc in λ i. (keys i, same_recs i)

-- the entry whose key is in a sorted list, and below which no key is
first_is : (es : Entries) (e : Key × Rec) → T (is_sorted key_cmp es) → find key_cmp e.0 es ≡ Some e.1 → ((q : Key) → key_cmp q e.0 ≡ Less → find key_cmp q es ≡ None)
    → first_of es ≡ Some e
first_is es e h1 h2 h3 = grind (arith, common_steps, nat_tests, below_first, same, found_first, pair_is, turned)

-- ---- what is above a key in a folded list

tied : (p : Key → Bool) (q k : Key) → key_cmp q k ≡ Equal → p k ≡ p q
tied p q k is = ap p (sym (same q k is))

pub find_where : (p : Key → Bool) (q : Key) (es : Entries) → find key_cmp q (where_key key_cmp p es) ≡ cond (p q) (find key_cmp q es) None
find_where p q es = find-where_key key_cmp p q (tied p q) es

pub sorted_where : (p : Key → Bool) (es : Entries) → AreSorted es → AreSorted (where_key key_cmp p es)
sorted_where p es sorted = is_true _ (is_sorted-where_key key_cmp p es (test _ sorted))

pub same_lists : (es fs : Entries) → AreSorted es → AreSorted fs → ((q : Key) → find key_cmp q es ≡ find key_cmp q fs) → es ≡ fs
same_lists es fs sorted_es sorted_fs alike =
    same_entries key_cmp nat_list_cmp_total (slice_cmp-IsAntisymmetric nat_cmp-IsAntisymmetric) es fs (test _ sorted_es) (test _ sorted_fs) alike

-- of a folded list those that pass a test are those of the lists, folded
pub where_folded : (p : Key → Bool) (xs ys : Entries) → AreSorted xs → AreSorted ys
    → where_key key_cmp p (folded_over xs ys) ≡ folded_over (where_key key_cmp p xs) (where_key key_cmp p ys)
where_folded p xs ys sorted_xs sorted_ys = grind (arith, common_steps, nat_tests, same_lists, sorted_where, sorted_folded, find_where, find_folded)

pub sorted_above : (at : Option Key) (es : Entries) → AreSorted es → AreSorted (above at es)
sorted_above at es sorted = sorted_where (λ k. is_above at k) es sorted

-- ---- the first of two lists, folded

first_folded : (xs ys : Entries) → AreSorted xs → AreSorted ys → entry_of (group_of (first_of xs) (first_of ys)) ≡ first_of (folded_over xs ys)
first_folded [] [] sorted_xs sorted_ys = refl
first_folded [] (y ∷ ys) sorted_xs sorted_ys = refl
first_folded (x ∷ xs) [] sorted_xs sorted_ys =
    sym (first_is (folded_over (x ∷ xs) []) x (test _ (sorted_folded (x ∷ xs) [] refl))
    (find_folded x.0 (x ∷ xs) [] sorted_xs ∙ ap (λ o. over_any o None) (found_first x xs))
    (λ q below. find_folded q (x ∷ xs) [] sorted_xs ∙ ap (λ o. over_any o None) (below_first q x xs (test _ sorted_xs) below)))
first_folded (x ∷ xs) (y ∷ ys) sorted_xs sorted_ys = by_order (key_cmp x.0 y.0) refl
  where
    folded : Entries
    folded = folded_over (x ∷ xs) (y ∷ ys)

    found : (q : Key) → find key_cmp q folded ≡ over_any (find key_cmp q (x ∷ xs)) (find key_cmp q (y ∷ ys))
    found q = find_folded q (x ∷ xs) (y ∷ ys) sorted_xs

    neither : (q : Key) → key_cmp q x.0 ≡ Less → key_cmp q y.0 ≡ Less → find key_cmp q folded ≡ None
    neither q h1 h2 = grind (arith, common_steps, nat_tests, found, below_first, test)

    sorted : T (is_sorted key_cmp folded)
    sorted = test _ (sorted_folded (x ∷ xs) (y ∷ ys) sorted_ys)

    by_order : (r : Ordering) → key_cmp x.0 y.0 ≡ r → entry_of (Some (least_of r x y)) ≡ first_of folded
    by_order Less is = grind (arith, common_steps, nat_tests, first_is, folded, sorted, found, found_first, below_first, test, neither, nat_list_cmp_total)
    by_order Equal is =
        let keys : x.0 ≡ y.0 = same x.0 y.0 is in
        grind (arith, common_steps, nat_tests, first_is folded (x.0, fold x.1 y.1) sorted, found, found_first, neither)
    by_order Greater is = grind (arith, common_steps, nat_tests, turned, first_is, folded, sorted, found, below_first, test, found_first, neither, nat_list_cmp_total)

pub first_above_folded : (at : Option Key) (xs ys : Entries) → AreSorted xs → AreSorted ys
    → entry_of (group_of (first_of (above at xs)) (first_of (above at ys))) ≡ first_of (above at (folded_over xs ys))
first_above_folded at xs ys sorted_xs sorted_ys =
    first_folded (above at xs) (above at ys) (sorted_above at xs sorted_xs) (sorted_above at ys sorted_ys)
    ∙ ap first_of (sym (where_folded (λ k. is_above at k) xs ys sorted_xs sorted_ys))
