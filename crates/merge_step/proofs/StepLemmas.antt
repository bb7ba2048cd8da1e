-- One step of a merge of two sorted lists.
use Rattle.std.proofs.Common.{◌≡◌, ℕ, true, false, not, cond, T, ◌+◌, [], ◌∷◌, ◌++◌, Option, Some, None, refl, ap, sym, subst, ◌∙◌, inl, inr, arith}
use Rattle.std.specs.declared.cmp.Ordering.{Ordering}
use Rattle.std.specs.declared.cmp.Ordering.TheVariants.{Less, Equal, Greater}
use Rattle.std.specs.FinMap.{is_sorted}
use Rattle.std.specs.FinMap.Entries.{below_all, is_sorted-where_key}
use Rattle.std.proofs.lemmas.List.Sums.{sum_by-cons}
use Rattle.std.proofs.lemmas.Cmp.{nat_list_cmp_total}
use Rattle.blsm_model.specs.declared.key.Key.{Key}
use Rattle.blsm_model.specs.Keys.{key_cmp}
use Rattle.record_delta.specs.declared.record.Rec.{Rec}
use Rattle.record_delta.specs.Records.{weight}
use Rattle.record_delta.specs.Folding.{fold}
use Rattle.merge_step.specs.Group.{least_of, group_of}
use Rattle.record_delta.specs.Entries.{Entries, entries_weight, first_of, folded_over, is_above, above, up_to}
use Rattle.merge_step.specs.Merged.{IsTaken, IsPast, AreBeyond}
use Rattle.merge_step.proofs.MergedLemmas.{left, right, less, test, turned, same, step_newer, step_older, step_both}
use Rattle.merge_step.proofs.TakenLemmas.{taken, passed, first_above, below_above}

-- what isn't above at is past by each key that is
past : (at : Option Key) (key : Key) (es : Entries) → is_above at key ≡ true → IsPast (up_to at es) key
past at key [] key_above = tt
past at key (e ∷ es) key_above =
    elim (is_above at e.0) as (λ b. is_above at e.0 ≡ b → IsPast (cond (not b) (e ∷ up_to at es) (up_to at es)) key) [
      | true ↦ λ here. past at key es key_above
      | false ↦ λ not_here. (below_above at e.0 key not_here key_above, past at key es key_above)
    ] refl

beyond_below : (key : Key) (es : Entries) → T (below_all key_cmp key es) → AreBeyond key es
beyond_below key [] below = tt
beyond_below key (e ∷ es) below = (less _ (left _ _ below), beyond_below key es (right _ _ below))

beyond_less : (key low : Key) (es : Entries) → key_cmp key low ≡ Less → AreBeyond low es → AreBeyond key es
beyond_less key low [] is beyond = tt
beyond_less key low (e ∷ es) is beyond = (nat_list_cmp_total.trans key low e.0 is beyond.0, beyond_less key low es is beyond.1)

-- a key below the first of a sorted list's entries above at is below them all
beyond : (at : Option Key) (es more : Entries) (key : Key) (e : Key × Rec) → is_sorted key_cmp es ≡ true → above at es ≡ e ∷ more → key_cmp key e.0 ≡ Less
    → AreBeyond key (above at es)
beyond at es more key e sorted is key_less =
    let rising : T (is_sorted key_cmp (e ∷ more)) =
    subst (λ (l : Entries). T (is_sorted key_cmp l)) is (is_sorted-where_key key_cmp (λ k. is_above at k) es (test _ sorted)) in
    subst (λ (l : Entries). AreBeyond key l) (sym is) (key_less, beyond_less key e.0 more key_less (beyond_below e.0 more (left _ _ rising)))

weights_cons : (e : Key × Rec) (es : Entries) → entries_weight (e ∷ es) ≡ weight e.0 e.1 + entries_weight es
weights_cons e es = sum_by-cons (λ (x : Key × Rec). weight x.0 x.1) e es

-- what is left above a key that was the first of a list's
weight_less : (at : Option Key) (es more : Entries) (e : Key × Rec) → above at es ≡ e ∷ more → above (Some e.0) es ≡ more
    → weight e.0 e.1 + entries_weight (above (Some e.0) es) ≡ entries_weight (above at es)
weight_less at es more e is left_is = omega (arith, ap (λ (l : Entries). entries_weight l) left_is, ap (λ (l : Entries). entries_weight l) is, weights_cons e more)

from_newer : (at : Option Key) (newer older more : Entries) (e : Key × Rec) → is_sorted key_cmp newer ≡ true → above at newer ≡ e ∷ more
    → AreBeyond e.0 (above at older) → IsTaken at newer older e.0 e.1 (weight e.0 e.1)
from_newer at newer older more e sorted is others =
    let above_at = first_above at newer more e is in
    let mine = taken at newer more e sorted is in
    let theirs = passed at older e.0 above_at others in
    record {
      above_at = above_at;
      out = ap (λ l. folded_over l (up_to (Some e.0) older)) mine.1 ∙ ap (λ l. folded_over (up_to at newer ++ e ∷ []) l) theirs.1
          ∙ step_newer (up_to at newer) (up_to at older) e.0 e.1 (past at e.0 newer above_at) (past at e.0 older above_at);
      of_newer = weight e.0 e.1;
      of_older = 0;
      taken_is = omega arith;
      newer_is = inr (e.1, ap first_of is, refl);
      newer_left = weight_less at newer more e is mine.0;
      older_left = omega (arith, ap entries_weight theirs.0);
    }

from_older : (at : Option Key) (newer older more : Entries) (e : Key × Rec) → is_sorted key_cmp older ≡ true → above at older ≡ e ∷ more
    → AreBeyond e.0 (above at newer) → IsTaken at newer older e.0 e.1 (weight e.0 e.1)
from_older at newer older more e sorted is others =
    let above_at = first_above at older more e is in
    let mine = taken at older more e sorted is in
    let theirs = passed at newer e.0 above_at others in
    record {
      above_at = above_at;
      out = ap (λ l. folded_over l (up_to (Some e.0) older)) theirs.1 ∙ ap (λ l. folded_over (up_to at newer) l) mine.1
          ∙ step_older (up_to at newer) (up_to at older) e.0 e.1 (past at e.0 newer above_at);
      of_newer = 0;
      of_older = weight e.0 e.1;
      taken_is = omega arith;
      newer_is = inl refl;
      newer_left = omega (arith, ap entries_weight theirs.0);
      older_left = weight_less at older more e is mine.0;
    }

from_both : (at : Option Key) (newer older more less_more : Entries) (e f : Key × Rec) → is_sorted key_cmp newer ≡ true → is_sorted key_cmp older ≡ true
    → above at newer ≡ e ∷ more → above at older ≡ f ∷ less_more → e.0 ≡ f.0 → IsTaken at newer older e.0 (fold e.1 f.1) (weight e.0 e.1 + weight f.0 f.1)
from_both at newer older more less_more e f sorted_newer sorted_older is is_older keys =
    let above_at = first_above at newer more e is in
    let mine = taken at newer more e sorted_newer is in
    let theirs = taken at older less_more f sorted_older is_older in
    let theirs_here : up_to (Some e.0) older ≡ up_to at older ++ (e.0, f.1) ∷ [] =
    subst (λ (k : Key). up_to (Some k) older ≡ up_to at older ++ (k, f.1) ∷ []) (sym keys) theirs.1 in
    record {
      above_at = above_at;
      out = ap (λ l. folded_over l (up_to (Some e.0) older)) mine.1 ∙ ap (λ l. folded_over (up_to at newer ++ e ∷ []) l) theirs_here
          ∙ step_both (up_to at newer) (up_to at older) e.0 e.1 f.1 (past at e.0 newer above_at) (past at e.0 older above_at);
      of_newer = weight e.0 e.1;
      of_older = weight f.0 f.1;
      taken_is = refl;
      newer_is = inr (e.1, ap first_of is, refl);
      newer_left = weight_less at newer more e is mine.0;
      older_left = subst (λ (k : Key). weight f.0 f.1 + entries_weight (above (Some k) older) ≡ entries_weight (above at older)) (sym keys) (weight_less at older less_more f is_older theirs.0);
    }

-- what a group is
given : {at : Option Key} {newer older : Entries} {g h : Key × Rec × ℕ} → Some g ≡ Some h → IsTaken at newer older g.0 g.1 g.2 → IsTaken at newer older h.0 h.1 h.2
given {at} {newer} {older} {g} {h} same_group step = let groups : g ≡ h = cc in subst (λ (k : Key × Rec × ℕ). IsTaken at newer older k.0 k.1 k.2) groups step

nothing : {g : Key × Rec × ℕ} → None ≡ Some g → ⊥
nothing is = cc

pub goes_on : (at : Option Key) (newer older : Entries) (key : Key) (rec : Rec) (weight_taken : ℕ) → is_sorted key_cmp newer ≡ true → is_sorted key_cmp older ≡ true
    → group_of (first_of (above at newer)) (first_of (above at older)) ≡ Some (key, rec, weight_taken) → IsTaken at newer older key rec weight_taken
goes_on at newer older key rec weight_taken sorted_newer sorted_older group =
    by_lists (above at newer) (above at older) refl refl group
  where
    by_order : (e f : Key × Rec) (more less_more : Entries) (r : Ordering) → key_cmp e.0 f.0 ≡ r → above at newer ≡ e ∷ more → above at older ≡ f ∷ less_more
        → Some (least_of r e f) ≡ Some (key, rec, weight_taken) → IsTaken at newer older key rec weight_taken
    by_order e f more less_more Less order is is_older same_group =
        given same_group (from_newer at newer older more e sorted_newer is (beyond at older less_more e.0 f sorted_older is_older order))
    by_order e f more less_more Equal order is is_older same_group =
        given same_group (from_both at newer older more less_more e f sorted_newer sorted_older is is_older (same e.0 f.0 order))
    by_order e f more less_more Greater order is is_older same_group =
        given same_group (from_older at newer older less_more f sorted_older is_older (beyond at newer more f.0 e sorted_newer is (turned e.0 f.0 Greater order)))

    by_lists : (xs ys : Entries) → above at newer ≡ xs → above at older ≡ ys → group_of (first_of xs) (first_of ys) ≡ Some (key, rec, weight_taken)
        → IsTaken at newer older key rec weight_taken
    by_lists [] [] is is_older same_group = absurd (nothing same_group)
    by_lists (e ∷ more) [] is is_older same_group =
        given same_group (from_newer at newer older more e sorted_newer is (subst (λ (l : Entries). AreBeyond e.0 l) (sym is_older) tt))
    by_lists [] (f ∷ less_more) is is_older same_group =
        given same_group (from_older at newer older less_more f sorted_older is_older (subst (λ (l : Entries). AreBeyond f.0 l) (sym is) tt))
    by_lists (e ∷ more) (f ∷ less_more) is is_older same_group = by_order e f more less_more (key_cmp e.0 f.0) refl is is_older same_group
