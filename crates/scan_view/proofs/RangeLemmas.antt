-- The entries of a range, and the rows of a hold that has copies of them.
use Rattle.std.proofs.Common.{◌≡◌, ◌∙◌, Bool, false, cond, [], ◌∷◌, ◌++◌, Option, Some, None, refl, ap, sym, subst, arith}
use Rattle.std.proofs.lemmas.Grind.{common_steps}
use Rattle.std.proofs.lemmas.Bool.Decides.{nat_tests}
use Rattle.std.proofs.Common.{arith}
use Rattle.std.specs.Ordering.{is_lt}
use Rattle.std.specs.FinMap.{find, is_sorted}
use Rattle.std.specs.FinMap.Entries.{below_all}
use Rattle.blsm_model.specs.declared.key.Key.{Key}
use Rattle.blsm_model.specs.Keys.{key_cmp, in_range}
use Rattle.record_delta.specs.declared.record.Rec.{Rec}
use Rattle.record_delta.specs.Entries.{Entries, AreSorted, folded_over, over_any, above, first_of}
use Rattle.merge_step.proofs.MergedLemmas.{left, right, less, test, is_true, find_folded, sorted_folded}
use Rattle.merge_step.proofs.TakenLemmas.{first_above, taken}
use Rattle.scan_view.specs.Told.{is_before}
use Rattle.std.proofs.lemmas.Bool.{false≢true}
use Rattle.tree_machine.proofs.FoldLemmas.{over_any_assoc}
use Rattle.scan_view.specs.Hold.{within, rows_of}
use Rattle.scan_view.proofs.FoldLemmas.{find_where, sorted_where, same_lists, sorted_above}
use Rattle.scan_view.proofs.RowLemmas.{rows_cons, rows_outside, outside, still_past}

-- ---- the entries

within_cons : (low high : Key) (e : Key × Rec) (es : Entries) → within low high (e ∷ es) ≡ within low high (e ∷ []) ++ within low high es
within_cons low high e es = grind (arith, common_steps, nat_tests)

within_past : (low high : Key) (e : Key × Rec) (es : Entries) → AreSorted (e ∷ es) → is_lt (key_cmp e.0 high) ≡ false → within low high (e ∷ es) ≡ []
within_past low high e [] sorted past = ap (λ b. cond b (e ∷ []) []) (outside low high e.0 past)
within_past low high e (f ∷ es) sorted past =
    ap (λ b. cond b (e ∷ within low high (f ∷ es)) (within low high (f ∷ es))) (outside low high e.0 past)
    ∙ within_past low high f es (is_true _ (right _ _ (test _ sorted))) (still_past high e.0 f.0 past (less _ (left _ _ (left _ _ (test _ sorted)))))

pub within_step : (low high : Key) (at : Option Key) (es : Entries) (e : Key × Rec) → AreSorted es → first_of (above at es) ≡ Some e
    → within low high (above at es) ≡ within low high (e ∷ []) ++ within low high (above (Some e.0) es)
within_step low high at es e sorted is = grind (arith, common_steps, nat_tests, within_cons, taken)

pub within_ended : (low high : Key) (at : Option Key) (es : Entries) (e : Key × Rec) → AreSorted es → first_of (above at es) ≡ Some e → is_lt (key_cmp e.0 high) ≡ false
    → within low high (above at es) ≡ []
within_ended low high at es e sorted is past = grind (arith, common_steps, nat_tests, within_past, sorted_above)

pub above_none : (es : Entries) → above None es ≡ es
above_none [] = refl
above_none (e ∷ es) = ap (λ (l : Entries). e ∷ l) (above_none es)

pub within_sorted : (low high : Key) (es : Entries) → AreSorted es → AreSorted (within low high es)
within_sorted low high es sorted = sorted_where (in_range low high) es sorted

-- ---- the rows

pub rows_within : (low high : Key) (es : Entries) → AreSorted es → rows_of low high es ≡ rows_of low high (within low high es)
rows_within low high [] sorted = refl
rows_within low high (e ∷ es) sorted =
    let rest : AreSorted es = is_true (is_sorted key_cmp es) (right (below_all key_cmp e.0 es) (is_sorted key_cmp es) (test (is_sorted key_cmp (e ∷ es)) sorted)) in
    let inside : AreSorted (within low high (e ∷ es)) = within_sorted low high (e ∷ es) sorted in
    grind (arith, common_steps, nat_tests, rows_cons, rows_outside, rows_within low high es rest)

rows_past : (low high : Key) (e : Key × Rec) (es : Entries) → AreSorted (e ∷ es) → is_lt (key_cmp e.0 high) ≡ false → rows_of low high (e ∷ es) ≡ []
rows_past low high e es sorted past = rows_within low high (e ∷ es) sorted ∙ ap (rows_of low high) (within_past low high e es sorted past)

-- above a key that isn't before the range's end nothing is left
pub rows_behind : (low high : Key) (at : Option Key) (es : Entries) → is_before high at ≡ false → AreSorted es → rows_of low high (above at es) ≡ []
rows_behind low high None es past sorted = absurd (false≢true (sym past))
rows_behind low high (Some key) es past sorted = by_list (above (Some key) es) refl
  where
    by_list : (rest : Entries) → above (Some key) es ≡ rest → rows_of low high rest ≡ []
    by_list [] left_is = refl
    by_list (e ∷ more) left_is =
        rows_past low high e more (subst AreSorted left_is (sorted_above (Some key) es sorted))
        (still_past high key e.0 past (less _ (test _ (first_above (Some key) es more e left_is))))

-- the records of the range alone, folded over what is older, have the same rows
pub held_rows : (low high : Key) (b a older : Entries) → AreSorted b → AreSorted a → AreSorted older
    → rows_of low high (folded_over b (folded_over a older)) ≡ rows_of low high (folded_over (within low high (folded_over b a)) older)
held_rows low high b a older sorted_b sorted_a sorted_older =
    rows_within low high all sorted_all ∙ ap (rows_of low high) (same_lists _ _ (within_sorted low high all sorted_all) (within_sorted low high held sorted_held) alike) ∙ sym (rows_within low high held sorted_held)
  where
    memory : Entries
    memory = folded_over b a

    all : Entries
    all = folded_over b (folded_over a older)

    held : Entries
    held = folded_over (within low high memory) older

    sorted_all : AreSorted all
    sorted_all = sorted_folded b (folded_over a older) (sorted_folded a older sorted_older)

    sorted_held : AreSorted held
    sorted_held = sorted_folded (within low high memory) older sorted_older

    by : (p : Bool) (x y z : Option Rec) → cond p (over_any x (over_any y z)) None ≡ cond p (over_any (cond p (over_any x y) None) z) None
    by p x y z = grind (arith, common_steps, nat_tests, over_any_assoc)

    alike : (q : Key) → find key_cmp q (within low high all) ≡ find key_cmp q (within low high held)
    alike q =
        find_where (in_range low high) q all
        ∙ ap (λ o. cond (in_range low high q) o None) (find_folded q b (folded_over a older) sorted_b ∙ ap (over_any (find key_cmp q b)) (find_folded q a older sorted_a))
        ∙ by (in_range low high q) (find key_cmp q b) (find key_cmp q a) (find key_cmp q older)
        ∙ sym (find_where (in_range low high) q held
        ∙ ap (λ o. cond (in_range low high q) o None) (find_folded q (within low high memory) older (within_sorted low high memory (sorted_folded b a sorted_a))
        ∙ ap (λ o. over_any o (find key_cmp q older)) (find_where (in_range low high) q memory ∙ ap (λ o. cond (in_range low high q) o None) (find_folded q b a sorted_b))))

pub rows_from : (low high copied_low copied_high : Key) (memory b a older : Entries) → copied_low ≡ low → copied_high ≡ high → memory ≡ within low high (folded_over b a)
    → AreSorted b → AreSorted a → AreSorted older
    → rows_of low high (folded_over b (folded_over a older)) ≡ rows_of copied_low copied_high (above None (folded_over memory older))
rows_from low high copied_low copied_high memory b a older low_is high_is memory_is sorted_b sorted_a sorted_older = grind (arith, common_steps, nat_tests, held_rows, above_none)
