-- One key group of an input and of another list.
use Rattle.std.proofs.lemmas.Bool.Decides.{nat_tests}
use Rattle.std.proofs.lemmas.Grind.{common_steps}
use Rattle.std.proofs.Common.{◌≡◌, ◌∙◌, ◌⊎◌, ℕ, true, false, cond, not, List, [], ◌∷◌, ◌++◌, length, Option, Some, None, refl, ap, sym, inl, inr, arith}
use Rattle.std.specs.Ordering.{is_lt}
use Rattle.std.specs.Cmp.{tied_itself}
use Rattle.std.specs.declared.cmp.Ordering.{Ordering}
use Rattle.std.specs.declared.cmp.Ordering.TheVariants.{Less, Equal, Greater}
use Rattle.std.specs.FinMap.Entries.{is_sorted-where_key}
use Rattle.std.proofs.lemmas.Bool.{false≢true}
use Rattle.std.proofs.lemmas.Cmp.{nat_list_cmp_total}
use Rattle.std.proofs.lemmas.List.Sums.{sum_by-cons}
use Rattle.blsm_model.specs.declared.key.Key.{Key}
use Rattle.blsm_model.specs.Keys.{key_cmp}
use Rattle.blsm_model.specs.Sizes.{Sizes}
use Rattle.record_delta.specs.declared.record.Rec.{Rec}
use Rattle.record_delta.specs.Records.{weight}
use Rattle.record_delta.specs.Entries.{Entries, AreSorted, entries_weight, first_of, is_above, above, up_to}
use Rattle.page_space.specs.Space.{SpaceState}
use Rattle.run_cursor.specs.Cursor.{CursorState, from_head}
use Rattle.merge_step.specs.Group.{least_of, group_of}
use Rattle.merge_step.proofs.MergedLemmas.{less, test, is_true, turned, same}
use Rattle.merge_step.proofs.TakenLemmas.{below_above}
use Rattle.merge_ends.specs.Input.{key_of, head_above, left_in, IsReady, IsBehind, IsInput}
use Rattle.merge_ends.specs.Output.{EndBy}

-- ---- keys above keys

pub further : (at : Option Key) (key q : Key) → is_above at key ≡ true → is_above (Some key) q ≡ true → is_above at q ≡ true
further at key q h1 h2 = grind (arith, common_steps, nat_tests, nat_list_cmp_total, less, test)

-- what is above a key that is above another is among what is above that one
pub above_further : (at : Option Key) (key : Key) (es : Entries) → is_above at key ≡ true → above (Some key) es ≡ above (Some key) (above at es)
above_further at key [] key_above = refl
above_further at key (e ∷ es) key_above =
    elim (is_above at e.0) as (λ b. is_above at e.0 ≡ b → above (Some key) (e ∷ es) ≡ above (Some key) (cond b (e ∷ above at es) (above at es))) [
      | true ↦ λ here. ap (λ l. cond (is_above (Some key) e.0) (e ∷ l) l) (above_further at key es key_above)
      | false ↦ λ not_here.
          let below : is_above (Some key) e.0 ≡ false = ap is_lt (turned e.0 key Less (below_above at e.0 key not_here key_above)) in
          ap (λ b. cond b (e ∷ above (Some key) es) (above (Some key) es)) below ∙ above_further at key es key_above
    ] refl

pub ends_more : (at : Option Key) (entries : Entries) (key : Key) (rec : Rec) → EndBy at entries → is_above at key ≡ true → EndBy (Some key) (entries ++ (key, rec) ∷ [])
ends_more at [] key rec ends key_above = (ap is_lt (tied_itself nat_list_cmp_total key), tt)
ends_more at (e ∷ es) key rec ends key_above = (ap is_lt (turned e.0 key Less (below_above at e.0 key ends.0 key_above)), ends_more at es key rec ends.1 key_above)

pub up_to_sorted : (at : Option Key) (es : Entries) → AreSorted es → AreSorted (up_to at es)
up_to_sorted at es sorted = is_true _ (is_sorted-where_key key_cmp (λ k. not (is_above at k)) es (test _ sorted))

-- ---- the head

none_in : (head : Option (Key × Rec)) → head ≡ None → (at : Option Key) → head_above at head ≡ true → ⊥
none_in head none at is = false≢true (sym (ap (head_above at) none) ∙ is)

-- A cursor that is ready has its head, or nothing, above the key.
pub head_first : (at : Option Key) (cursor : CursorState) → IsReady at cursor → first_of (above at (from_head cursor.head [])) ≡ cursor.head
head_first at cursor h1 = grind (arith, common_steps, nat_tests)

pub head_sorted : (head : Option (Key × Rec)) → AreSorted (from_head head [])
head_sorted head = grind (arith, common_steps, nat_tests)

none_of : (es : Entries) → length es ≡ 0 → es ≡ []
none_of es h1 = grind (arith, common_steps, nat_tests)

-- It is the first of what the input has left.
pub head_is : {pages : List ℕ} (sizes : Sizes) (file : List ℕ) (space : SpaceState) (role : ℕ) (at : Option Key) (cursor : CursorState) (entries : Entries) → IsReady at cursor
    → IsInput sizes file space role at cursor pages entries → first_of (above at entries) ≡ cursor.head
head_is sizes file space role at cursor entries h1 h2 = grind (arith, common_steps, nat_tests)

-- Nothing is left of an input that is through by its numbers.
pub end_left : (at : Option Key) (cursor : CursorState) → IsReady at cursor → cursor.head ≡ None → left_in at cursor ≡ 0
end_left at cursor h1 h2 = grind (arith, common_steps, nat_tests)

-- ---- a group

some_none : {A : Type 0} {a : A} → Some a ≡ None → ⊥
some_none is = cc

none_some : {A : Type 0} {a : A} → None ≡ Some a → ⊥
none_some is = cc

pub first_none : (es : Entries) → first_of es ≡ None → es ≡ []
first_none es h1 = grind (arith, common_steps, nat_tests)

pub group_none : (x y : Option (Key × Rec)) → group_of x y ≡ None → (x ≡ None) × (y ≡ None)
group_none x y h1 = grind (arith, common_steps, nat_tests)

key_is : (g h : Key × Rec × ℕ) → Some g ≡ Some h → g.0 ≡ h.0
key_is g h is = let groups : g ≡ h = cc in ap (λ (k : Key × Rec × ℕ). k.0) groups

-- The head's key isn't below the group's.
pub older_stays : (x y : Option (Key × Rec)) (key : Key) (rec : Rec) (taken : ℕ) → group_of x y ≡ Some (key, rec, taken)
    → ((head_above (Some key) y ≡ true) ⊎ (y ≡ None)) ⊎ (key_of y ≡ Some key)
older_stays None None key rec taken is = absurd (none_some is)
older_stays (Some e) None key rec taken is = inl (inr refl)
older_stays None (Some f) key rec taken is = inr (ap Some (key_is _ _ is))
older_stays (Some e) (Some f) key rec taken is = by_order (key_cmp e.0 f.0) refl is
  where
    by_order : (r : Ordering) → key_cmp e.0 f.0 ≡ r → Some (least_of r e f) ≡ Some (key, rec, taken)
        → ((is_above (Some key) f.0 ≡ true) ⊎ (Some f ≡ None)) ⊎ (Some f.0 ≡ Some key)
    by_order Less order same_group = inl (inl (ap (λ k. is_lt (key_cmp k f.0)) (sym (key_is _ _ same_group)) ∙ ap is_lt order))
    by_order Equal order same_group = inr (ap Some (sym (same e.0 f.0 order) ∙ key_is _ _ same_group))
    by_order Greater order same_group = inr (ap Some (key_is _ _ same_group))

pub newer_stays : (x y : Option (Key × Rec)) (key : Key) (rec : Rec) (taken : ℕ) → group_of x y ≡ Some (key, rec, taken)
    → ((head_above (Some key) x ≡ true) ⊎ (x ≡ None)) ⊎ (key_of x ≡ Some key)
newer_stays x y key rec taken h1 = grind (arith, common_steps, nat_tests, none_some, key_is, turned)

-- So the cursor is behind the group.
pub behind_group : (at : Option Key) (cursor : CursorState) (key : Key) → IsReady at cursor
    → ((head_above (Some key) cursor.head ≡ true) ⊎ (cursor.head ≡ None)) ⊎ (key_of cursor.head ≡ Some key) → IsBehind (Some key) cursor
behind_group at cursor key h1 h2 = grind (arith, common_steps, nat_tests)

-- What is left above the group is left of the input.
pub input_further : {pages : List ℕ} (sizes : Sizes) (file : List ℕ) (space : SpaceState) (role : ℕ) (at : Option Key) (key : Key) (cursor : CursorState) (entries : Entries) → is_above at key ≡ true
    → IsInput sizes file space role at cursor pages entries → IsInput sizes file space role (Some key) cursor pages entries
input_further sizes file space role at key cursor entries key_above input = record {
  sorted = input.sorted;
  rest = input.rest;
  ahead = input.ahead;
  left_is = above_further at key (from_head cursor.head input.rest) key_above ∙ ap (above (Some key)) input.left_is ∙ sym (above_further at key entries key_above);
  among = input.among;
  apart = input.apart;
  in_use = input.in_use;
}

-- ---- what is done

weight_some : (e : Key × Rec) (es : Entries) → entries_weight (e ∷ es) ≡ 0 → ⊥
weight_some e es is = omega (arith, is, sum_by-cons (λ (x : Key × Rec). weight x.0 x.1) e es)

pub weightless : (es : Entries) → entries_weight es ≡ 0 → es ≡ []
weightless [] is = refl
weightless (e ∷ es) is = absurd (weight_some e es is)

-- An input of which nothing is left by the numbers has nothing left.
pub input_done : {pages : List ℕ} (sizes : Sizes) (file : List ℕ) (space : SpaceState) (role : ℕ) (at : Option Key) (cursor : CursorState) (entries : Entries) → left_in at cursor ≡ 0
    → IsInput sizes file space role at cursor pages entries → above at entries ≡ []
input_done sizes file space role at cursor entries h1 h2 = grind (arith, common_steps, nat_tests, weightless)

pub all_up_to : (at : Option Key) (es : Entries) → above at es ≡ [] → up_to at es ≡ es
all_up_to at [] none = refl
all_up_to at (e ∷ es) none =
    elim (is_above at e.0) as (λ b. cond b (e ∷ above at es) (above at es) ≡ [] → cond (not b) (e ∷ up_to at es) (up_to at es) ≡ e ∷ es) [
      | true ↦ λ some. absurd (not_empty some)
      | false ↦ λ rest. ap (λ l. e ∷ l) (all_up_to at es rest)
    ] none
  where
    not_empty : e ∷ above at es ≡ [] → ⊥
    not_empty eq = cc

pub above_none : (es : Entries) → above None es ≡ es
above_none [] = refl
above_none (e ∷ es) = ap (λ l. e ∷ l) (above_none es)

pub up_to_none : (es : Entries) → up_to None es ≡ []
up_to_none [] = refl
up_to_none (e ∷ es) = up_to_none es
