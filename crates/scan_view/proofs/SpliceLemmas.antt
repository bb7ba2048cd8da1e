-- What is read of a front and of a component behind it.
use Rattle.std.proofs.Common.{◌≡◌, ◌∙◌, ◌⊎◌, inl, inr, Bool, true, false, cond, T, ◌&&◌, [], ◌∷◌, ◌++◌, Option, Some, None, refl, ap, sym}
use Rattle.std.specs.Prelude.{filter}
use Rattle.std.specs.Ordering.{is_lt}
use Rattle.std.specs.declared.cmp.Ordering.{Ordering}
use Rattle.std.specs.declared.cmp.Ordering.TheVariants.{Less, Equal, Greater}
use Rattle.std.specs.FinMap.{is_sorted}
use Rattle.std.specs.FinMap.Entries.{below_all}
use Rattle.std.proofs.lemmas.List.Elements.{filter-append, filter_agree}
use Rattle.blsm_model.specs.declared.key.Key.{Key}
use Rattle.blsm_model.specs.Keys.{key_cmp}
use Rattle.record_delta.specs.declared.record.Rec.{Rec}
use Rattle.record_delta.specs.Entries.{AreSorted, Entries, above, first_of, is_above}
use Rattle.merge_step.proofs.MergedLemmas.{is_true, left, right, same, test, turned}
use Rattle.merge_step.proofs.TakenLemmas.{below_above}
use Rattle.merge_ends.proofs.GroupLemmas.{further}
use Rattle.scan_view.specs.Hold.{is_above_all, later, splice}
use Rattle.scan_view.proofs.FoldLemmas.{sorted_above, sorted_where}
use Rattle.scan_view.proofs.RangeLemmas.{above_none}

-- ---- the greater of two keys

and_true : (a : Bool) → (a && true) ≡ a
and_true true = refl
and_true false = refl

and_false : (a : Bool) → (a && false) ≡ false
and_false true = refl
and_false false = refl

and_turned : (a b : Bool) → (a && b) ≡ (b && a)
and_turned true b = sym (and_true b)
and_turned false b = sym (and_false b)

pub later_above : (at released : Option Key) (q : Key) → is_above (later at released) q ≡ (is_above at q && is_above released q)
later_above at None q = sym (and_true (is_above at q))
later_above None (Some key) q = refl
later_above (Some low) (Some key) q = by (is_above (Some low) key) refl
  where
    up : (b : Bool) → is_above (Some low) key ≡ true → is_above (Some key) q ≡ b → b ≡ (is_above (Some low) q && b)
    up true over is = sym (ap (λ (b : Bool). b && true) (further (Some low) key q over is))
    up false over is = sym (and_false (is_above (Some low) q))

    down : (b : Bool) → is_above (Some low) key ≡ false → is_above (Some low) q ≡ b → b ≡ (b && is_above (Some key) q)
    down true under is = sym (ap is_lt (below_above (Some low) key q under is))
    down false under is = refl

    by : (b : Bool) → is_above (Some low) key ≡ b
        → is_above (cond b (Some key) (Some low)) q ≡ (is_above (Some low) q && is_above (Some key) q)
    by true is = up (is_above (Some key) q) is refl
    by false is = down (is_above (Some low) q) is refl

-- past a key that is above another one the greater of the two rises to it, or stays the released one
pub later_step : (at released : Option Key) (key : Key) → is_above at key ≡ true
    → (later (Some key) released ≡ later at released) ⊎ ((later (Some key) released ≡ Some key) × (is_above (later at released) key ≡ true))
later_step at None key over = inr (refl, over)
later_step None (Some high) key over = by (key_cmp key high) refl
  where
    by : (o : Ordering) → key_cmp key high ≡ o
        → (later (Some key) (Some high) ≡ Some high) ⊎ ((later (Some key) (Some high) ≡ Some key) × (is_above (Some high) key ≡ true))
    by Less is = inl (ap (λ (o : Ordering). cond (is_lt o) (Some high) (Some key)) is)
    by Equal is = inl (ap (λ (o : Ordering). cond (is_lt o) (Some high) (Some key)) is ∙ ap Some (same key high is))
    by Greater is = inr (ap (λ (o : Ordering). cond (is_lt o) (Some high) (Some key)) is, ap is_lt (turned key high Greater is))
later_step (Some low) (Some high) key over = by (key_cmp key high) refl
  where
    now : is_above (Some low) high ≡ true → later (Some low) (Some high) ≡ Some high
    now is = ap (λ (b : Bool). cond b (Some high) (Some low)) is

    by : (o : Ordering) → key_cmp key high ≡ o → (later (Some key) (Some high) ≡ later (Some low) (Some high))
        ⊎ ((later (Some key) (Some high) ≡ Some key) × (is_above (later (Some low) (Some high)) key ≡ true))
    by Less is =
        inl (ap (λ (o : Ordering). cond (is_lt o) (Some high) (Some key)) is ∙ sym (now (further (Some low) key high over (ap is_lt is))))
    by Equal is =
        let tied = same key high is in
        inl (ap (λ (o : Ordering). cond (is_lt o) (Some high) (Some key)) is ∙ ap Some tied
        ∙ sym (now (ap (λ (k : Key). is_above (Some low) k) (sym tied) ∙ over)))
    by Greater is =
        let behind : is_above (Some high) key ≡ true = ap is_lt (turned key high Greater is) in
        inr (
          ap (λ (o : Ordering). cond (is_lt o) (Some high) (Some key)) is,
          later_above (Some low) (Some high) key ∙ ap (λ (b : Bool). b && is_above (Some high) key) over ∙ behind,
        )

filter_both : (p q : Key → Bool) (es : Entries) → filter (λ e. p e.0) (filter (λ e. q e.0) es) ≡ filter (λ e. q e.0 && p e.0) es
filter_both p q [] = refl
filter_both p q (e ∷ es) = by (filter_both p q es) (q e.0)
  where
    by : filter (λ (f : Key × Rec). p f.0) (filter (λ (f : Key × Rec). q f.0) es) ≡ filter (λ (f : Key × Rec). q f.0 && p f.0) es → (b : Bool)
        → filter (λ (f : Key × Rec). p f.0) (cond b (e ∷ filter (λ (f : Key × Rec). q f.0) es) (filter (λ (f : Key × Rec). q f.0) es))
        ≡ cond (b && p e.0) (e ∷ filter (λ (f : Key × Rec). q f.0 && p f.0) es) (filter (λ (f : Key × Rec). q f.0 && p f.0) es)
    by more true = ap (λ (l : Entries). cond (p e.0) (e ∷ l) l) more
    by more false = more

pub above_later : (at released : Option Key) (es : Entries) → above (later at released) es ≡ above at (above released es)
above_later at released es =
    filter_agree (λ (e : Key × Rec). is_above (later at released) e.0) (λ (e : Key × Rec). is_above released e.0 && is_above at e.0)
    (λ e. later_above at released e.0 ∙ and_turned (is_above at e.0) (is_above released e.0)) es
    ∙ sym (filter_both (λ k. is_above at k) (λ k. is_above released k) es)

-- ---- above a key

-- a key above another one is above all of a list where it is above what the list has above that one
all_left : (at : Option Key) (q : Key) (front : Entries) → is_above at q ≡ true → is_above_all front q ≡ is_above_all (above at front) q
all_left at q [] over = refl
all_left at q (e ∷ es) over = by (all_left at q es over) (is_above at e.0) refl
  where
    by : is_above_all es q ≡ is_above_all (above at es) q → (b : Bool) → is_above at e.0 ≡ b
        → (is_above (Some e.0) q && is_above_all es q) ≡ is_above_all (cond b (e ∷ above at es) (above at es)) q
    by more true is = ap (λ (b : Bool). is_above (Some e.0) q && b) more
    by more false is = ap (λ (b : Bool). b && is_above_all es q) (ap is_lt (below_above at e.0 q is over)) ∙ more

both_left : (at : Option Key) (front : Entries) (q : Key) → (is_above_all front q && is_above at q) ≡ (is_above at q && is_above_all (above at front) q)
both_left at front q = by (is_above at q) refl
  where
    by : (b : Bool) → is_above at q ≡ b → (is_above_all front q && b) ≡ (b && is_above_all (above at front) q)
    by true is = and_true (is_above_all front q) ∙ all_left at q front is
    by false is = and_false (is_above_all front q)

-- what is above a key of both is what is above it of the front, and then what the component has above it, above the released key and above all that
splice_above : (at released : Option Key) (front rest : Entries)
    → above at (splice front released rest) ≡ above at front ++ filter (λ e. is_above_all (above at front) e.0) (above (later at released) rest)
splice_above at released front rest =
    let more = above released rest in
    filter-append (λ (e : Key × Rec). is_above at e.0) front (filter (λ (e : Key × Rec). is_above_all front e.0) more)
    ∙ ap (λ (l : Entries). above at front ++ l)
    (filter_both (λ k. is_above at k) (is_above_all front) more
    ∙ filter_agree (λ (e : Key × Rec). is_above_all front e.0 && is_above at e.0) (λ (e : Key × Rec). is_above at e.0 && is_above_all (above at front) e.0)
    (λ e. both_left at front e.0) more
    ∙ sym (ap (λ (l : Entries). filter (λ (e : Key × Rec). is_above_all (above at front) e.0) l) (above_later at released rest)
    ∙ filter_both (is_above_all (above at front)) (λ k. is_above at k) more))

filter_none : (es : Entries) → filter (λ e. is_above_all [] e.0) es ≡ es
filter_none [] = refl
filter_none (e ∷ es) = ap (λ (l : Entries). e ∷ l) (filter_none es)

-- with no front, and nothing released, it is the component's list
pub splice_none : (rest : Entries) → splice [] None rest ≡ rest
splice_none rest = filter_none (above None rest) ∙ above_none rest

-- where nothing of the front is above the key
pub splice_through : (at released : Option Key) (front rest : Entries) → above at front ≡ []
    → above at (splice front released rest) ≡ above (later at released) rest
splice_through at released front rest none =
    splice_above at released front rest
    ∙ ap (λ (l : Entries). l ++ filter (λ (e : Key × Rec). is_above_all l e.0) (above (later at released) rest)) none
    ∙ filter_none (above (later at released) rest)

-- lists that have the same above the key
pub splice_alike : (at released : Option Key) (xs ys front rest : Entries) → above at xs ≡ above at front
    → above (later at released) ys ≡ above (later at released) rest → above at (splice xs released ys) ≡ above at (splice front released rest)
splice_alike at released xs ys front rest same_front same_rest =
    splice_above at released xs ys
    ∙ (λ i. same_front i ++ filter (λ (e : Key × Rec). is_above_all (same_front i) e.0) (same_rest i))
    ∙ sym (splice_above at released front rest)

first_append : (es fs : Entries) (e : Key × Rec) → first_of es ≡ Some e → first_of (es ++ fs) ≡ Some e
first_append [] fs e is = absurd (let no : ◌≡◌ {A = Option (Key × Rec)} None (Some e) = is in cc)
first_append (f ∷ es) fs e is = is

-- the first of the front is that of both
pub splice_first : (at released : Option Key) (front rest : Entries) (e : Key × Rec) → first_of (above at front) ≡ Some e
    → first_of (above at (splice front released rest)) ≡ Some e
splice_first at released front rest e is =
    ap first_of (splice_above at released front rest)
    ∙ first_append (above at front) (filter (λ (f : Key × Rec). is_above_all (above at front) f.0) (above (later at released) rest)) e is

-- ---- keys rise

both : (a b : Bool) → T a → T b → T (a && b)
both true b h1 h2 = h2
both false b h1 h2 = absurd h1

abbrev AreBelow : Entries → Entries → Type 0
AreBelow [] ys = Unit {0}
AreBelow (x ∷ xs) ys = T (below_all key_cmp x.0 ys) × AreBelow xs ys

below_join : (key : Key) (xs ys : Entries) → T (below_all key_cmp key xs) → T (below_all key_cmp key ys) → T (below_all key_cmp key (xs ++ ys))
below_join key [] ys below_xs below_ys = below_ys
below_join key (x ∷ xs) ys below_xs below_ys = both _ _ (left _ _ below_xs) (below_join key xs ys (right _ _ below_xs) below_ys)

sorted_join : (xs ys : Entries) → AreSorted xs → AreSorted ys → AreBelow xs ys → AreSorted (xs ++ ys)
sorted_join [] ys sorted_xs sorted_ys below = sorted_ys
sorted_join (x ∷ xs) ys sorted_xs sorted_ys below =
    let parts = test _ sorted_xs in
    is_true _ (both _ _ (below_join x.0 xs ys (left _ _ parts) below.0)
    (test _ (sorted_join xs ys (is_true _ (right _ _ parts)) sorted_ys below.1)))

below_those : (key : Key) (p : Key → Bool) (es : Entries) → ((q : Key) → p q ≡ true → is_above (Some key) q ≡ true)
    → T (below_all key_cmp key (filter (λ e. p e.0) es))
below_those key p [] over = tt
below_those key p (e ∷ es) over = by (below_those key p es over) (p e.0) refl
  where
    by : T (below_all key_cmp key (filter (λ (f : Key × Rec). p f.0) es)) → (b : Bool) → p e.0 ≡ b
        → T (below_all key_cmp key (cond b (e ∷ filter (λ (f : Key × Rec). p f.0) es) (filter (λ (f : Key × Rec). p f.0) es)))
    by more true is = both _ _ (test _ (over e.0 is)) more
    by more false is = more

are_below : (xs : Entries) (p : Key → Bool) (es : Entries) → ((q : Key) → p q ≡ true → is_above_all xs q ≡ true) → AreBelow xs (filter (λ e. p e.0) es)
are_below [] p es over = tt
are_below (x ∷ xs) p es over = (
  below_those x.0 p es (λ q is. is_true _ (left _ _ (test _ (over q is)))),
  are_below xs p es (λ q is. is_true _ (right _ _ (test _ (over q is)))),
)

pub sorted_splice : (front : Entries) (released : Option Key) (rest : Entries) → AreSorted front → AreSorted rest → AreSorted (splice front released rest)
sorted_splice front released rest sorted_front sorted_rest =
    let more = above released rest in
    sorted_join front (filter (λ (e : Key × Rec). is_above_all front e.0) more) sorted_front
    (sorted_where (is_above_all front) more (sorted_above released rest sorted_rest))
    (are_below front (is_above_all front) more (λ q is. is))
