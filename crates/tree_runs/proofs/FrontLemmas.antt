-- What two sorted lists have up to a key, folded and settled, begins what they have in all.
use Rattle.std.proofs.Common.{◌≡◌, ◌∙◌, ◌≤◌, Bool, true, false, cond, not, T, ◌&&◌, [], ◌∷◌, ◌++◌, length, Option, Some, None, refl, ap, sym, length-append, arith}
use Rattle.std.specs.List.{AllByRecursion}
use Rattle.std.specs.declared.cmp.Ordering.{Ordering}
use Rattle.std.specs.declared.cmp.Ordering.TheVariants.{Less, Equal, Greater}
use Rattle.std.specs.FinMap.{find, is_sorted, put}
use Rattle.std.specs.FinMap.Entries.{below_all, by_order, find-where_key}
use Rattle.std.specs.Ordering.{is_lt}
use Rattle.std.proofs.lemmas.Bool.{false≢true}
use Rattle.blsm_model.specs.declared.key.Key.{Key}
use Rattle.blsm_model.specs.declared.row.Value.{Value}
use Rattle.blsm_model.specs.Keys.{key_cmp}
use Rattle.record_delta.specs.declared.record.Rec.{Rec}
use Rattle.record_delta.specs.declared.record.Rec.TheVariants.{Base}
use Rattle.record_delta.specs.Folding.{over}
use Rattle.record_delta.specs.Records.{settle}
use Rattle.record_delta.specs.Entries.{AreSorted, Entries, above, folded_over, is_above, settled_base, settled_entries, up_to, with_record}
use Rattle.merge_step.proofs.MergedLemmas.{ahead, is_true, left, right, same, sorted_folded, test, turned}
use Rattle.merge_ends.proofs.GroupLemmas.{further}
use Rattle.tree_file.specs.Output.{settled_fold, settled_up_to}

-- ---- a sorted list is what it has up to a key, and what it has above it

abbrev AllAbove : Option Key → Entries → Type 0
AllAbove at es = AllByRecursion (λ e. is_above at e.0 ≡ true) es

all_above : (at : Option Key) (x : Key) (es : Entries) → is_above at x ≡ true → T (below_all key_cmp x es) → AllAbove at es
all_above at x [] here below = tt
all_above at x (e ∷ es) here below = (further at x e.0 here (is_true _ (left _ _ below)), all_above at x es here (right _ _ below))

none_up_to : (at : Option Key) (es : Entries) → AllAbove at es → up_to at es ≡ []
none_up_to at [] all = refl
none_up_to at (e ∷ es) all = ap (λ (b : Bool). cond (not b) (e ∷ up_to at es) (up_to at es)) all.0 ∙ none_up_to at es all.1

all_left : (at : Option Key) (es : Entries) → AllAbove at es → above at es ≡ es
all_left at [] all = refl
all_left at (e ∷ es) all = ap (λ (b : Bool). cond b (e ∷ above at es) (above at es)) all.0 ∙ ap (λ (l : Entries). e ∷ l) (all_left at es all.1)

splits : (at : Option Key) (es : Entries) → is_sorted key_cmp es ≡ true → es ≡ up_to at es ++ above at es
splits at [] sorted = refl
splits at (e ∷ es) sorted =
    let parts : T (below_all key_cmp e.0 es && is_sorted key_cmp es) = test _ sorted in
    elim (is_above at e.0) as (λ b. is_above at e.0 ≡ b → e ∷ es ≡ cond (not b) (e ∷ up_to at es) (up_to at es) ++ cond b (e ∷ above at es)
    (above at es)) [
      | true ↦ λ here.
          let all = all_above at e.0 es here (left _ _ parts) in
          sym (ap (λ (l : Entries). l ++ (e ∷ above at es)) (none_up_to at es all) ∙ ap (λ (l : Entries). e ∷ l) (all_left at es all))
      | false ↦ λ behind. ap (λ (l : Entries). e ∷ l) (splits at es (is_true _ (right _ _ parts)))
    ] refl

-- ---- what is up to a key of a fold is the fold of that

find_up_to : (at : Option Key) (key : Key) (es : Entries) → is_above at key ≡ false → find key_cmp key (up_to at es) ≡ find key_cmp key es
find_up_to at key es behind =
    find-where_key key_cmp (λ k. not (is_above at k)) key (λ x tied. ap (λ (k : Key). not (is_above at k)) (sym (same key x tied))) es
    ∙ ap (λ (b : Bool). cond (not b) (find key_cmp key es) None) behind

put_up_to : (at : Option Key) (key : Key) (rec : Rec) (es : Entries) → is_sorted key_cmp es ≡ true → is_above at key ≡ false → up_to at
    (put key_cmp key rec es) ≡ put key_cmp key rec (up_to at es)
put_up_to at key rec [] sorted behind = ap (λ (b : Bool). cond (not b) ((key, rec) ∷ []) []) behind
put_up_to at key rec (e ∷ es) sorted behind = by (put_up_to at key rec es (is_true _ (right _ _ (test _ sorted))) behind) (key_cmp key e.0) refl
    (is_above at e.0) refl
  where
    parts : T (below_all key_cmp e.0 es && is_sorted key_cmp es)
    parts = test _ sorted

    by : up_to at (put key_cmp key rec es) ≡ put key_cmp key rec (up_to at es) → (r : Ordering) → key_cmp key e.0 ≡ r → (b : Bool) → is_above at e.0
        ≡ b
        → up_to at (by_order r ((key, rec) ∷ e ∷ es) ((e.0, rec) ∷ es) (e ∷ put key_cmp key rec es)) ≡ put key_cmp key rec
        (cond (not b) (e ∷ up_to at es) (up_to at es))
    by more Less order false is =
        ap (λ (b : Bool). cond (not b) ((key, rec) ∷ up_to at (e ∷ es)) (up_to at (e ∷ es))) behind ∙ ap
        (λ (b : Bool). (key, rec) ∷ cond (not b) (e ∷ up_to at es) (up_to at es)) is
        ∙ sym (ap (λ (r : Ordering). by_order r ((key, rec) ∷ e ∷ up_to at es) ((e.0, rec) ∷ up_to at es) (e ∷ put key_cmp key rec (up_to at es)))
        order)
    by more Less order true is =
        let none = none_up_to at es (all_above at e.0 es is (left _ _ parts)) in
        ap (λ (b : Bool). cond (not b) ((key, rec) ∷ up_to at (e ∷ es)) (up_to at (e ∷ es))) behind ∙ ap
        (λ (b : Bool). (key, rec) ∷ cond (not b) (e ∷ up_to at es) (up_to at es)) is
        ∙ ap (λ (l : Entries). (key, rec) ∷ l) none ∙ sym (ap (put key_cmp key rec) none)
    by more Equal order true is = absurd (false≢true (sym behind ∙ ap (is_above at) (same key e.0 order) ∙ is))
    by more Equal order false is =
        ap (λ (b : Bool). cond (not b) ((e.0, rec) ∷ up_to at es) (up_to at es)) is
        ∙ sym (ap (λ (r : Ordering). by_order r ((key, rec) ∷ e ∷ up_to at es) ((e.0, rec) ∷ up_to at es) (e ∷ put key_cmp key rec (up_to at es)))
        order)
    by more Greater order true is = absurd (false≢true (sym behind ∙ further at e.0 key is (ap is_lt (turned key e.0 Greater order))))
    by more Greater order false is =
        ap (λ (b : Bool). cond (not b) (e ∷ up_to at (put key_cmp key rec es)) (up_to at (put key_cmp key rec es))) is
        ∙ ap (λ (l : Entries). e ∷ l) more
        ∙ sym (ap (λ (r : Ordering). by_order r ((key, rec) ∷ e ∷ up_to at es) ((e.0, rec) ∷ up_to at es) (e ∷ put key_cmp key rec (up_to at es)))
        order)

fold_up_to : (at : Option Key) (newer older : Entries) → is_sorted key_cmp older ≡ true → up_to at (folded_over newer older) ≡ folded_over
    (up_to at newer) (up_to at older)
fold_up_to at [] older sorted = refl
fold_up_to at (e ∷ newer) older sorted =
    let rest = folded_over newer older in
    let more = fold_up_to at newer older sorted in
    elim (is_above at e.0) as (λ b. is_above at e.0 ≡ b → up_to at (with_record e.0 e.1 (folded_over newer older)) ≡ folded_over
    (cond (not b) (e ∷ up_to at newer) (up_to at newer)) (up_to at older)) [
      | true ↦ λ here. ahead at e.0 e.1 rest here ∙ more
      | false ↦ λ behind.
          put_up_to at e.0 (over e.1 (find key_cmp e.0 rest)) rest (sorted_folded newer older sorted) behind
          ∙ ap (λ (o : Option Rec). put key_cmp e.0 (over e.1 o) (up_to at rest)) (sym (find_up_to at e.0 rest behind))
          ∙ ap (λ (l : Entries). with_record e.0 e.1 l) more
    ] refl

-- ---- settled entries

settled_join : (xs ys : Entries) → settled_entries (xs ++ ys) ≡ settled_entries xs ++ settled_entries ys
settled_join [] ys = refl
settled_join (x ∷ xs) ys = by_value (settle x.1) (settled_join xs ys)
  where
    by_value : (value : Option Value) → settled_entries (xs ++ ys) ≡ settled_entries xs ++ settled_entries ys
        → settled_base x.0 value (settled_entries (xs ++ ys)) ≡ settled_base x.0 value (settled_entries xs) ++ settled_entries ys
    by_value None rest = rest
    by_value (Some value) rest = ap (λ (l : Entries). (x.0, Base value) ∷ l) rest

-- ---- fronts

pub fronts : (at : Option Key) (newer older : Entries) → AreSorted older → (rest : Entries) × (settled_fold newer older ≡ settled_up_to at newer older ++ rest)
fronts at newer older sorted =
    let folded = folded_over newer older in (
      settled_entries (above at folded),
      ap settled_entries (splits at folded (sorted_folded newer older sorted) ∙ ap (λ (l : Entries). l ++ above at folded)
          (fold_up_to at newer older sorted))
          ∙ settled_join (folded_over (up_to at newer) (up_to at older)) (above at folded),
    )

-- so it is no longer
pub no_longer : (at : Option Key) (newer older : Entries) → AreSorted older → length (settled_up_to at newer older) ≤ length (settled_fold newer older)
no_longer at newer older sorted =
    let front = fronts at newer older sorted in
    omega (arith, ap (λ (l : Entries). length l) front.1, length-append (settled_up_to at newer older) front.0)
