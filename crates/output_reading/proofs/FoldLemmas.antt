-- What two sorted lists have up to a key, folded and settled, begins what they have up to a greater one, and what they have in all.
use Rattle.std.proofs.Common.{
  ◌≡◌,
  ◌∙◌,
  ◌⊎◌,
  ◌+◌,
  ℕ,
  Bool,
  true,
  false,
  cond,
  not,
  T,
  ◌&&◌,
  [],
  ◌∷◌,
  ◌++◌,
  Option,
  Some,
  None,
  refl,
  ap,
  sym,
  subst,
  inl,
  inr,
  arith,
}
use mathlib.Core.Path.{subst₂}
use Rattle.std.specs.List.{AllByRecursion}
use Rattle.std.specs.declared.cmp.Ordering.{Ordering}
use Rattle.std.specs.declared.cmp.Ordering.TheVariants.{Less, Equal, Greater}
use Rattle.std.specs.FinMap.{find, is_sorted, put}
use Rattle.std.specs.FinMap.Entries.{below_all, by_order, find-where_key}
use Rattle.std.specs.Ordering.{is_lt}
use Rattle.std.proofs.lemmas.Bool.{false≢true}
use Rattle.std.proofs.lemmas.List.Sums.{sum_by-cons}
use Rattle.blsm_model.specs.declared.key.Key.{Key}
use Rattle.blsm_model.specs.declared.row.Value.{Value}
use Rattle.blsm_model.specs.Keys.{key_cmp}
use Rattle.record_delta.specs.declared.record.Rec.{Rec}
use Rattle.record_delta.specs.declared.record.Rec.TheVariants.{Base}
use Rattle.record_delta.specs.Folding.{over}
use Rattle.record_delta.specs.Records.{settle, weight}
use Rattle.record_delta.specs.Entries.{
  AreSorted,
  Entries,
  above,
  entries_weight,
  first_of,
  folded_over,
  is_above,
  settled_base,
  settled_entries,
  up_to,
  with_record,
}
use Rattle.page_file.specs.Entry.{AreRising}
use Rattle.page_file.proofs.OrderLemmas.{orders}
use Rattle.merge_step.specs.Group.{group_of}
use Rattle.merge_step.specs.Merged.{IsTaken}
use Rattle.merge_step.proofs.MergedLemmas.{ahead, is_true, left, right, same, sorted_folded, test, turned}
use Rattle.merge_ends.specs.Input.{head_above, key_of}
use Rattle.merge_ends.specs.Output.{IsUpTo}
use Rattle.merge_ends.proofs.GroupLemmas.{further, newer_stays, older_stays, up_to_sorted}
use Rattle.tree_file.specs.Output.{settled_fold, settled_up_to, weight_up_to}
use Rattle.output_reading.specs.Output.{IsFront}

-- ---- a sorted list is what it has up to a key, and what it has above it

abbrev AllAbove : Option Key → Entries → Type 0
AllAbove at es = AllByRecursion (λ e. is_above at e.0 ≡ true) es

all_above : (at : Option Key) (x : Key) (es : Entries) → is_above at x ≡ true → T (below_all key_cmp x es) → AllAbove at es
all_above at x [] here below = tt
all_above at x (e ∷ es) here below = (further at x e.0 here (is_true _ (left _ _ below)), all_above at x es here (right _ _ below))

none_up_to : (at : Option Key) (es : Entries) → AllAbove at es → up_to at es ≡ []
none_up_to at [] all = refl
none_up_to at (e ∷ es) all = ap (λ (b : Bool). cond (not b) (e ∷ up_to at es) (up_to at es)) all.0 ∙ none_up_to at es all.1

all_left : (at : Option Key) (es : Entries) → AllAbove at es → above at es ≡ es
all_left at [] all = refl
all_left at (e ∷ es) all = ap (λ (b : Bool). cond b (e ∷ above at es) (above at es)) all.0 ∙ ap (λ (l : Entries). e ∷ l) (all_left at es all.1)

splits : (at : Option Key) (es : Entries) → is_sorted key_cmp es ≡ true → es ≡ up_to at es ++ above at es
splits at [] sorted = refl
splits at (e ∷ es) sorted =
    let parts : T (below_all key_cmp e.0 es && is_sorted key_cmp es) = test _ sorted in
    elim (is_above at e.0) as (λ b. is_above at e.0 ≡ b → e ∷ es ≡ cond (not b) (e ∷ up_to at es) (up_to at es) ++ cond b (e ∷ above at es)
    (above at es)) [
      | true ↦ λ here.
          let all = all_above at e.0 es here (left _ _ parts) in
          sym (ap (λ (l : Entries). l ++ (e ∷ above at es)) (none_up_to at es all) ∙ ap (λ (l : Entries). e ∷ l) (all_left at es all))
      | false ↦ λ behind. ap (λ (l : Entries). e ∷ l) (splits at es (is_true _ (right _ _ parts)))
    ] refl

-- ---- what is up to a key of a fold is the fold of that

find_up_to : (at : Option Key) (key : Key) (es : Entries) → is_above at key ≡ false → find key_cmp key (up_to at es) ≡ find key_cmp key es
find_up_to at key es behind =
    find-where_key key_cmp (λ k. not (is_above at k)) key (λ x tied. ap (λ (k : Key). not (is_above at k)) (sym (same key x tied))) es
    ∙ ap (λ (b : Bool). cond (not b) (find key_cmp key es) None) behind

put_up_to : (at : Option Key) (key : Key) (rec : Rec) (es : Entries) → is_sorted key_cmp es ≡ true → is_above at key ≡ false → up_to at
    (put key_cmp key rec es) ≡ put key_cmp key rec (up_to at es)
put_up_to at key rec [] sorted behind = ap (λ (b : Bool). cond (not b) ((key, rec) ∷ []) []) behind
put_up_to at key rec (e ∷ es) sorted behind = by (put_up_to at key rec es (is_true _ (right _ _ (test _ sorted))) behind) (key_cmp key e.0) refl
    (is_above at e.0) refl
  where
    parts : T (below_all key_cmp e.0 es && is_sorted key_cmp es)
    parts = test _ sorted

    by : up_to at (put key_cmp key rec es) ≡ put key_cmp key rec (up_to at es) → (r : Ordering) → key_cmp key e.0 ≡ r → (b : Bool) → is_above at e.0
        ≡ b
        → up_to at (by_order r ((key, rec) ∷ e ∷ es) ((e.0, rec) ∷ es) (e ∷ put key_cmp key rec es)) ≡ put key_cmp key rec
        (cond (not b) (e ∷ up_to at es) (up_to at es))
    by more Less order false is =
        ap (λ (b : Bool). cond (not b) ((key, rec) ∷ up_to at (e ∷ es)) (up_to at (e ∷ es))) behind ∙ ap
        (λ (b : Bool). (key, rec) ∷ cond (not b) (e ∷ up_to at es) (up_to at es)) is
        ∙ sym (ap (λ (r : Ordering). by_order r ((key, rec) ∷ e ∷ up_to at es) ((e.0, rec) ∷ up_to at es) (e ∷ put key_cmp key rec (up_to at es)))
        order)
    by more Less order true is =
        let none = none_up_to at es (all_above at e.0 es is (left _ _ parts)) in
        ap (λ (b : Bool). cond (not b) ((key, rec) ∷ up_to at (e ∷ es)) (up_to at (e ∷ es))) behind ∙ ap
        (λ (b : Bool). (key, rec) ∷ cond (not b) (e ∷ up_to at es) (up_to at es)) is
        ∙ ap (λ (l : Entries). (key, rec) ∷ l) none ∙ sym (ap (put key_cmp key rec) none)
    by more Equal order true is = absurd (false≢true (sym behind ∙ ap (is_above at) (same key e.0 order) ∙ is))
    by more Equal order false is =
        ap (λ (b : Bool). cond (not b) ((e.0, rec) ∷ up_to at es) (up_to at es)) is
        ∙ sym (ap (λ (r : Ordering). by_order r ((key, rec) ∷ e ∷ up_to at es) ((e.0, rec) ∷ up_to at es) (e ∷ put key_cmp key rec (up_to at es)))
        order)
    by more Greater order true is = absurd (false≢true (sym behind ∙ further at e.0 key is (ap is_lt (turned key e.0 Greater order))))
    by more Greater order false is =
        ap (λ (b : Bool). cond (not b) (e ∷ up_to at (put key_cmp key rec es)) (up_to at (put key_cmp key rec es))) is
        ∙ ap (λ (l : Entries). e ∷ l) more
        ∙ sym (ap (λ (r : Ordering). by_order r ((key, rec) ∷ e ∷ up_to at es) ((e.0, rec) ∷ up_to at es) (e ∷ put key_cmp key rec (up_to at es)))
        order)

fold_up_to : (at : Option Key) (newer older : Entries) → is_sorted key_cmp older ≡ true → up_to at (folded_over newer older) ≡ folded_over
    (up_to at newer) (up_to at older)
fold_up_to at [] older sorted = refl
fold_up_to at (e ∷ newer) older sorted =
    let rest = folded_over newer older in
    let more = fold_up_to at newer older sorted in
    elim (is_above at e.0) as (λ b. is_above at e.0 ≡ b → up_to at (with_record e.0 e.1 (folded_over newer older)) ≡ folded_over
    (cond (not b) (e ∷ up_to at newer) (up_to at newer)) (up_to at older)) [
      | true ↦ λ here. ahead at e.0 e.1 rest here ∙ more
      | false ↦ λ behind.
          put_up_to at e.0 (over e.1 (find key_cmp e.0 rest)) rest (sorted_folded newer older sorted) behind
          ∙ ap (λ (o : Option Rec). put key_cmp e.0 (over e.1 o) (up_to at rest)) (sym (find_up_to at e.0 rest behind))
          ∙ ap (λ (l : Entries). with_record e.0 e.1 l) more
    ] refl

-- what is up to the lesser of two keys
up_to_both : (at high : Option Key) (es : Entries) → IsUpTo at high → up_to at (up_to high es) ≡ up_to at es
up_to_both at high [] up = refl
up_to_both at high (e ∷ es) up =
    elim (is_above high e.0) as (λ b. is_above high e.0 ≡ b → up_to at (cond (not b) (e ∷ up_to high es) (up_to high es)) ≡ up_to at (e ∷ es)) [
      | true ↦ λ past. up_to_both at high es up ∙ sym (ap (λ (b : Bool). cond (not b) (e ∷ up_to at es) (up_to at es)) (up e.0 past))
      | false ↦ λ behind. ap (λ (l : Entries). cond (not (is_above at e.0)) (e ∷ l) l) (up_to_both at high es up)
    ] refl

-- ---- settled entries

settled_join : (xs ys : Entries) → settled_entries (xs ++ ys) ≡ settled_entries xs ++ settled_entries ys
settled_join [] ys = refl
settled_join (x ∷ xs) ys = by_value (settle x.1) (settled_join xs ys)
  where
    by_value : (value : Option Value) → settled_entries (xs ++ ys) ≡ settled_entries xs ++ settled_entries ys
        → settled_base x.0 value (settled_entries (xs ++ ys)) ≡ settled_base x.0 value (settled_entries xs) ++ settled_entries ys
    by_value None rest = rest
    by_value (Some value) rest = ap (λ (l : Entries). (x.0, Base value) ∷ l) rest

both : (a b : Bool) → T a → T b → T (a && b)
both true b ha hb = hb
both false b ha hb = absurd ha

below_settled : (key : Key) (es : Entries) → T (below_all key_cmp key es) → T (below_all key_cmp key (settled_entries es))
below_settled key [] below = tt
below_settled key (e ∷ es) below = by_value (below_settled key es (right _ _ below)) (settle e.1)
  where
    by_value : T (below_all key_cmp key (settled_entries es)) → (value : Option Value) → T
        (below_all key_cmp key (settled_base e.0 value (settled_entries es)))
    by_value rest None = rest
    by_value rest (Some value) = both _ _ (left _ _ below) rest

sorted_settled : (es : Entries) → T (is_sorted key_cmp es) → T (is_sorted key_cmp (settled_entries es))
sorted_settled [] sorted = tt
sorted_settled (e ∷ es) sorted = by_value (sorted_settled es (right _ _ sorted)) (settle e.1)
  where
    by_value : T (is_sorted key_cmp (settled_entries es)) → (value : Option Value) → T
        (is_sorted key_cmp (settled_base e.0 value (settled_entries es)))
    by_value rest None = rest
    by_value rest (Some value) = both _ _ (below_settled e.0 es (left _ _ sorted)) rest

settled_rises : (newer older : Entries) → AreSorted older → AreRising (settled_fold newer older)
settled_rises newer older sorted = (orders (settled_fold newer older)).1
    (is_true _ (sorted_settled (folded_over newer older) (test _ (sorted_folded newer older sorted))))

pub up_to_rises : (at : Option Key) (newer older : Entries) → AreSorted older → AreRising (settled_up_to at newer older)
up_to_rises at newer older sorted = settled_rises (up_to at newer) (up_to at older) (up_to_sorted at older sorted)

-- ---- fronts

pub fronts : (at : Option Key) (newer older : Entries) → AreSorted older → IsFront (settled_up_to at newer older) (settled_fold newer older)
fronts at newer older sorted =
    let folded = folded_over newer older in (
      settled_entries (above at folded),
      ap settled_entries (splits at folded (sorted_folded newer older sorted) ∙ ap (λ (l : Entries). l ++ above at folded)
          (fold_up_to at newer older sorted))
          ∙ settled_join (folded_over (up_to at newer) (up_to at older)) (above at folded),
    )

pub front_up_to : (at high : Option Key) (newer older : Entries) → AreSorted older → IsUpTo at high → IsFront (settled_up_to at newer older)
    (settled_up_to high newer older)
front_up_to at high newer older sorted up =
    subst₂ (λ (n o : Entries). IsFront (settled_fold n o) (settled_up_to high newer older)) (up_to_both at high newer up)
    (up_to_both at high older up)
    (fronts at (up_to high newer) (up_to high older) (up_to_sorted high older sorted))

-- one group more
pub group_settled : {at : Option Key} {newer older : Entries} {key : Key} {rec : Rec} {taken : ℕ} → IsTaken at newer older key rec taken
    → settled_up_to (Some key) newer older ≡ settled_up_to at newer older ++ settled_entries ((key, rec) ∷ [])
group_settled {at} {newer} {older} {key} {rec} t = ap settled_entries t.out ∙ settled_join (folded_over (up_to at newer) (up_to at older))
    ((key, rec) ∷ [])

-- ---- where nothing comes up to a key

not_above : (at high : Option Key) (q : Key) → IsUpTo at high → is_above at q ≡ false → is_above high q ≡ false
not_above at high q up behind =
    elim (is_above high q) as (λ b. is_above high q ≡ b → b ≡ false) [
      | true ↦ λ is. absurd (false≢true (sym behind ∙ up q is))
      | false ↦ λ is. refl
    ] refl

nothing_between : (at : Option Key) (key : Key) (es : Entries) → is_sorted key_cmp es ≡ true → IsUpTo at (Some key) →
    ((e : Key × Rec) → first_of (above at es) ≡ Some e → is_above (Some key) e.0 ≡ true)
    → up_to (Some key) es ≡ up_to at es
nothing_between at key [] sorted up first = refl
nothing_between at key (x ∷ es) sorted up first =
    let parts : T (below_all key_cmp x.0 es && is_sorted key_cmp es) = test _ sorted in
    elim (is_above at x.0) as (λ b. is_above at x.0 ≡ b → ((e : Key × Rec) → first_of (cond b (x ∷ above at es) (above at es)) ≡ Some e → is_above
    (Some key) e.0 ≡ true)
    → up_to (Some key) (x ∷ es) ≡ cond (not b) (x ∷ up_to at es) (up_to at es)) [
      | true ↦ λ here of_first.
          let past : is_above (Some key) x.0 ≡ true = of_first x refl in
          ap (λ (b : Bool). cond (not b) (x ∷ up_to (Some key) es) (up_to (Some key) es)) past ∙ none_up_to (Some key) es
          (all_above (Some key) x.0 es past (left _ _ parts))
          ∙ sym (none_up_to at es (all_above at x.0 es here (left _ _ parts)))
      | false ↦ λ behind of_first.
          ap (λ (b : Bool). cond (not b) (x ∷ up_to (Some key) es) (up_to (Some key) es)) (not_above at (Some key) x.0 up behind)
          ∙ ap (λ (l : Entries). x ∷ l) (nothing_between at key es (is_true _ (right _ _ parts)) up of_first)
    ] refl first

weights_cons : (e : Key × Rec) (es : Entries) → entries_weight (e ∷ es) ≡ weight e.0 e.1 + entries_weight es
weights_cons e es = sum_by-cons (λ (x : Key × Rec). weight x.0 x.1) e es

weights_split : (at : Option Key) (es : Entries) → entries_weight (up_to at es) + entries_weight (above at es) ≡ entries_weight es
weights_split at [] = refl
weights_split at (e ∷ es) =
    elim (is_above at e.0) as (λ b. entries_weight (cond (not b) (e ∷ up_to at es) (up_to at es)) + entries_weight
    (cond b (e ∷ above at es) (above at es)) ≡ entries_weight (e ∷ es)) [
      | true ↦ omega (arith, weights_split at es, weights_cons e (above at es), weights_cons e es)
      | false ↦ omega (arith, weights_split at es, weights_cons e (up_to at es), weights_cons e es)
    ]

-- what a group takes, both have more up to its key
pub weight_taken : {at : Option Key} {newer older : Entries} {key : Key} {rec : Rec} {taken : ℕ} → IsTaken at newer older key rec taken
    → weight_up_to (Some key) newer older ≡ weight_up_to at newer older + taken
weight_taken {at} {newer} {older} {key} t =
    omega (
      arith,
      weights_split (Some key) newer,
      weights_split at newer,
      weights_split (Some key) older,
      weights_split at older,
      t.newer_left,
      t.older_left,
      t.taken_is,
    )

-- So the fold up to that key has ended, and what was taken is what both weigh up to it.
pub record HasEnded (at : Option Key) (key : Key) (newer older : Entries) : Type 0 where
  pub fold_is : settled_up_to at newer older ≡ settled_up_to (Some key) newer older
  pub weighs : weight_up_to at newer older ≡ weight_up_to (Some key) newer older

ends : (at : Option Key) (key : Key) (newer older : Entries) → AreSorted newer → AreSorted older → IsUpTo at (Some key)
    → ((e : Key × Rec) → first_of (above at newer) ≡ Some e → is_above (Some key) e.0 ≡ true) →
    ((e : Key × Rec) → first_of (above at older) ≡ Some e → is_above (Some key) e.0 ≡ true)
    → HasEnded at key newer older
ends at key newer older sorted_newer sorted_older up first_newer first_older =
    let n = nothing_between at key newer sorted_newer up first_newer in
    let o = nothing_between at key older sorted_older up first_older in
    record {
      fold_is = λ i. settled_fold (sym n i) (sym o i);
      weighs = λ i. entries_weight (sym n i) + entries_weight (sym o i);
    }

some_none : {A : Type 0} {a : A} → Some a ≡ None → ⊥
some_none is = cc

past_first : (x : Option (Key × Rec)) (key k : Key) → is_above (Some key) k ≡ true → ((head_above (Some k) x ≡ true) ⊎ (x ≡ None)) ⊎
    (key_of x ≡ Some k)
    → (e : Key × Rec) → x ≡ Some e → is_above (Some key) e.0 ≡ true
past_first x key k past (inl (inl here)) e is = further (Some key) k e.0 past (sym (ap (head_above (Some k)) is) ∙ here)
past_first x key k past (inl (inr none)) e is = absurd (some_none (sym is ∙ none))
past_first x key k past (inr here) e is =
    let keys : Some e.0 ≡ Some k = sym (ap key_of is) ∙ here in
    let same_key : e.0 ≡ k = cc in
    subst (λ (q : Key). is_above (Some key) q ≡ true) (sym same_key) past

-- where the least group is above it
pub ends_past : (at : Option Key) (key k : Key) (rec : Rec) (taken : ℕ) (newer older : Entries) → AreSorted newer → AreSorted older → IsUpTo at
    (Some key) → is_above (Some key) k ≡ true
    → group_of (first_of (above at newer)) (first_of (above at older)) ≡ Some (k, rec, taken) → HasEnded at key newer older
ends_past at key k rec taken newer older sorted_newer sorted_older up past group =
    let x = first_of (above at newer) in
    let y = first_of (above at older) in
    ends at key newer older sorted_newer sorted_older up (past_first x key k past (newer_stays x y k rec taken group))
    (past_first y key k past (older_stays x y k rec taken group))

-- and where there is none
pub ends_none : (at : Option Key) (key : Key) (newer older : Entries) → AreSorted newer → AreSorted older → IsUpTo at (Some key)
    → first_of (above at newer) ≡ None → first_of (above at older) ≡ None → HasEnded at key newer older
ends_none at key newer older sorted_newer sorted_older up none_newer none_older =
    ends at key newer older sorted_newer sorted_older up (λ e is. absurd (some_none (sym is ∙ none_newer)))
    (λ e is. absurd (some_none (sym is ∙ none_older)))
