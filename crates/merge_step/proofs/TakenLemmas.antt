-- Sorted lists whose first entry above a key is taken.
use Rattle.std.proofs.Common.{◌≡◌, true, false, not, cond, ◌&&◌, T, [], ◌∷◌, ◌++◌, Option, Some, None, refl, ap, sym, subst, ◌∙◌}
use Rattle.std.specs.Prelude.{⊤}
use Rattle.std.specs.Ordering.{is_lt}
use Rattle.std.specs.declared.cmp.Ordering.{Ordering}
use Rattle.std.specs.declared.cmp.Ordering.TheVariants.{Less, Equal, Greater}
use Rattle.std.specs.Cmp.{tied_itself}
use Rattle.std.specs.FinMap.{is_sorted}
use Rattle.std.specs.FinMap.Entries.{below_all}
use Rattle.std.proofs.lemmas.Bool.{false≢true}
use Rattle.std.proofs.lemmas.Cmp.{nat_list_cmp_total}
use Rattle.blsm_model.specs.declared.key.Key.{Key}
use Rattle.blsm_model.specs.Keys.{key_cmp}
use Rattle.record_delta.specs.declared.record.Rec.{Rec}
use Rattle.record_delta.specs.Entries.{Entries, is_above, above, up_to}
use Rattle.merge_step.specs.Merged.{AreBeyond}
use Rattle.merge_step.proofs.MergedLemmas.{left, right, less, test, is_true, turned}

less_of_test : (o : Ordering) → is_lt o ≡ true → o ≡ Less
less_of_test o is = less o (test _ is)

-- a key that isn't above at is below one that is
pub below_above : (at : Option Key) (x q : Key) → is_above at x ≡ false → is_above at q ≡ true → key_cmp x q ≡ Less
below_above None x q below q_above = absurd (false≢true (sym below))
below_above (Some low) x q below q_above =
    let low_q : key_cmp low q ≡ Less = less_of_test (key_cmp low q) q_above in
    elim (key_cmp x low) as (λ o. key_cmp x low ≡ o → key_cmp x q ≡ Less) [
      | Less ↦ λ p. nat_list_cmp_total.trans x low q p low_q
      | Equal ↦ λ p. nat_list_cmp_total.congr x low q p ∙ low_q
      | Greater ↦ λ p. absurd (false≢true (sym below ∙ ap is_lt (turned x low Greater p)))
    ] refl

-- what is below a key isn't above it
not_above : (x q : Key) → key_cmp x q ≡ Less → is_above (Some q) x ≡ false
not_above x q is = ap is_lt (turned x q Less is)

-- above what is above: above
still_above : (at : Option Key) (x q : Key) → is_above at x ≡ true → key_cmp x q ≡ Less → is_above at q ≡ true
still_above None x q x_above is = refl
still_above (Some low) x q x_above is = ap is_lt (nat_list_cmp_total.trans low x q (less_of_test _ x_above) is)

abbrev AllAbove : Option Key → Entries → Type 0
AllAbove at [] = ⊤
AllAbove at (e ∷ es) = (is_above at e.0 ≡ true) × AllAbove at es

all_above : (at : Option Key) (x : Key) (es : Entries) → is_above at x ≡ true → T (below_all key_cmp x es) → AllAbove at es
all_above at x [] x_above below = tt
all_above at x (e ∷ es) x_above below = (still_above at x e.0 x_above (less _ (left _ _ below)), all_above at x es x_above (right _ _ below))

all_beyond : (x : Key) (es : Entries) → T (below_all key_cmp x es) → AllAbove (Some x) es
all_beyond x [] below = tt
all_beyond x (e ∷ es) below = (ap is_lt (less _ (left _ _ below)), all_beyond x es (right _ _ below))

above_all : (at : Option Key) (es : Entries) → AllAbove at es → above at es ≡ es
above_all at [] all = refl
above_all at (e ∷ es) all = ap (λ b. cond b (e ∷ above at es) (above at es)) all.0 ∙ ap (λ l. e ∷ l) (above_all at es all.1)

up_to_none : (at : Option Key) (es : Entries) → AllAbove at es → up_to at es ≡ []
up_to_none at [] all = refl
up_to_none at (e ∷ es) all = ap (λ b. cond (not b) (e ∷ up_to at es) (up_to at es)) all.0 ∙ up_to_none at es all.1

-- the first of those above a key is above it
pub first_above : (at : Option Key) (es more : Entries) (e : Key × Rec) → above at es ≡ e ∷ more → is_above at e.0 ≡ true
first_above at [] more e is = absurd (not_empty is)
  where
    not_empty : [] ≡ e ∷ more → ⊥
    not_empty eq = cc
first_above at (x ∷ es) more e is =
    elim (is_above at x.0) as (λ b. is_above at x.0 ≡ b → cond b (x ∷ above at es) (above at es) ≡ e ∷ more → is_above at e.0 ≡ true) [
      | true ↦ λ here same. let x_is : x ≡ e = cc in subst (λ (y : Key × Rec). is_above at y.0 ≡ true) x_is here
      | false ↦ λ not_here same. first_above at es more e same
    ] refl is

pub taken : (at : Option Key) (entries more : Entries) (e : Key × Rec) → is_sorted key_cmp entries ≡ true → above at entries ≡ e ∷ more
    → (above (Some e.0) entries ≡ more) × (up_to (Some e.0) entries ≡ up_to at entries ++ e ∷ [])
taken at [] more e sorted is = absurd (not_empty is)
  where
    not_empty : [] ≡ e ∷ more → ⊥
    not_empty eq = cc
taken at (x ∷ es) more e sorted is =
    let parts : T (below_all key_cmp x.0 es && is_sorted key_cmp es) = test _ sorted in
    elim (is_above at x.0) as (λ b. is_above at x.0 ≡ b → cond b (x ∷ above at es) (above at es) ≡ e ∷ more
    → (above (Some e.0) (x ∷ es) ≡ more) × (up_to (Some e.0) (x ∷ es) ≡ cond (not b) (x ∷ up_to at es) (up_to at es) ++ e ∷ [])) [
      | true ↦ λ here same.
          let x_is : x ≡ e = cc in
          let more_is : above at es ≡ more = cc in
          let alls = all_above at x.0 es here (left _ _ parts) in
          let itself : is_above (Some x.0) x.0 ≡ false = ap is_lt (tied_itself nat_list_cmp_total x.0) in
          subst (λ (y : Key × Rec). (above (Some y.0) (x ∷ es) ≡ more) × (up_to (Some y.0) (x ∷ es) ≡ up_to at es ++ y ∷ [])) x_is (
            ap (λ b. cond b (x ∷ above (Some x.0) es) (above (Some x.0) es)) itself ∙ above_all (Some x.0) es (all_beyond x.0 es (left _ _ parts)) ∙ sym (above_all at es alls) ∙ more_is,
            ap (λ b. cond (not b) (x ∷ up_to (Some x.0) es) (up_to (Some x.0) es)) itself ∙ ap (λ l. x ∷ l) (up_to_none (Some x.0) es (all_beyond x.0 es (left _ _ parts)))
                ∙ sym (ap (λ l. l ++ x ∷ []) (up_to_none at es alls)),
          )
      | false ↦ λ not_here same.
          let rest = taken at es more e (is_true _ (right _ _ parts)) same in
          let below : is_above (Some e.0) x.0 ≡ false = not_above x.0 e.0 (below_above at x.0 e.0 not_here (first_above at es more e same)) in (
            ap (λ b. cond b (x ∷ above (Some e.0) es) (above (Some e.0) es)) below ∙ rest.0,
            ap (λ b. cond (not b) (x ∷ up_to (Some e.0) es) (up_to (Some e.0) es)) below ∙ ap (λ l. x ∷ l) rest.1,
          )
    ] refl is

pub passed : (at : Option Key) (entries : Entries) (key : Key) → is_above at key ≡ true → AreBeyond key (above at entries)
    → (above (Some key) entries ≡ above at entries) × (up_to (Some key) entries ≡ up_to at entries)
passed at [] key key_above beyond = (refl, refl)
passed at (x ∷ es) key key_above beyond =
    elim (is_above at x.0) as (λ b. is_above at x.0 ≡ b → AreBeyond key (cond b (x ∷ above at es) (above at es))
    → (above (Some key) (x ∷ es) ≡ cond b (x ∷ above at es) (above at es)) × (up_to (Some key) (x ∷ es) ≡ cond (not b) (x ∷ up_to at es) (up_to at es))) [
      | true ↦ λ here more.
          let rest = passed at es key key_above more.1 in
          let is : is_above (Some key) x.0 ≡ true = ap is_lt more.0 in (
            ap (λ b. cond b (x ∷ above (Some key) es) (above (Some key) es)) is ∙ ap (λ l. x ∷ l) rest.0,
            ap (λ b. cond (not b) (x ∷ up_to (Some key) es) (up_to (Some key) es)) is ∙ rest.1,
          )
      | false ↦ λ not_here more.
          let rest = passed at es key key_above more in
          let below : is_above (Some key) x.0 ≡ false = not_above x.0 key (below_above at x.0 key not_here key_above) in (
            ap (λ b. cond b (x ∷ above (Some key) es) (above (Some key) es)) below ∙ rest.0,
            ap (λ b. cond (not b) (x ∷ up_to (Some key) es) (up_to (Some key) es)) below ∙ ap (λ l. x ∷ l) rest.1,
          )
    ] refl beyond
