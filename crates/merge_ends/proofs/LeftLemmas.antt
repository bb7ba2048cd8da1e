-- How much of the components is left above a key.
use Rattle.std.proofs.lemmas.Bool.Decides.{nat_tests}
use Rattle.std.proofs.lemmas.Grind.{common_steps}
use Rattle.std.proofs.Common.{◌≡◌, ◌∙◌, ◌+◌, ◌-◌, ◌<◌, ◌≤◌, ◌^◌, ◌⊎◌, ℕ, Bool, true, false, List, [], ◌∷◌, length, Option, Some, None, IsSome, cond, refl, ap, sym, subst, inl, inr, arith}
use Rattle.std.specs.Prelude.{if◌then◌else◌, nat_lt}
use Rattle.std.specs.Ordering.{is_lt}
use Rattle.std.specs.List.Sorted.{IsStrictlySortedBy}
use Rattle.std.proofs.lemmas.Bool.{false≢true}
use Rattle.std.proofs.lemmas.List.Sums.{sum_by-cons}
use Rattle.blsm_model.specs.Components.{no_page}
use Rattle.blsm_model.specs.declared.component.Component.{Component}
use Rattle.blsm_model.specs.declared.key.Key.{Key}
use Rattle.blsm_model.specs.Sizes.{Sizes}
use Rattle.record_delta.specs.declared.record.Rec.{Rec}
use Rattle.record_delta.specs.Records.{weight}
use Rattle.record_delta.specs.Entries.{Entries, entries_weight, is_above, above}
use Rattle.page_space.specs.Space.{SpaceState}
use Rattle.page_file.specs.Entry.{AreRising}
use Rattle.page_file.specs.Page.{most_used}
use Rattle.run_cursor.specs.Cursor.{CursorState, from_head}
use Rattle.run_writer.specs.Writer.{WriterState, IsCounted}
use Rattle.merge_ends.specs.Input.{head_above, left_in, FillsPages, IsAtEnd, IsReady, IsInput}
use Rattle.merge_ends.specs.Newer.{at_hand, component_left, components_above, newer_calls, newer_left, IsNewer, IsNewerReady}
use Rattle.merge_ends.specs.Output.{HasRoom}
use Rattle.merge_ends.proofs.GroupLemmas.{further}

-- ---- of a cursor

pub head_weighs : (at : Option Key) (key : Key) (rec : Rec) → is_above at key ≡ true → entries_weight (above at ((key, rec) ∷ [])) ≡ weight key rec
head_weighs at key rec h1 = grind (arith, common_steps, nat_tests)

pub head_gone : (at : Option Key) (head : Option (Key × Rec)) → head_above at head ≡ false → entries_weight (above at (from_head head [])) ≡ 0
head_gone at head h1 = grind (arith, common_steps, nat_tests)

-- what rises from a key above another is above that one
rises_above : (at : Option Key) (h : Key × Rec) (rest : Entries) → is_above at h.0 ≡ true → AreRising (h ∷ rest) → above at rest ≡ rest
unfolding IsStrictlySortedBy
rises_above at h [] h_above rise = refl
rises_above at h (e ∷ es) h_above rise =
    let here : is_above at e.0 ≡ true = further at h.0 e.0 h_above (ap is_lt rise.0.0) in
    ap (λ (b : Bool). cond b (e ∷ above at es) (above at es)) here ∙ ap (λ (l : Entries). e ∷ l) (rises_above at h es h_above (rise.0.1, rise.1.1))

no_entries : (es : Entries) → length es ≡ 0 → es ≡ []
no_entries es h1 = grind (arith, common_steps, nat_tests)

-- What is left of an input by the numbers is what its list has above the key.
pub input_left : {pages : List ℕ} (sizes : Sizes) (file : List ℕ) (space : SpaceState) (role : ℕ) (at : Option Key) (cursor : CursorState) (entries : Entries) → IsReady at cursor
    → IsInput sizes file space role at cursor pages entries → left_in at cursor ≡ entries_weight (above at entries)
input_left sizes file space role at cursor entries ready input = by_head cursor.head refl ready
  where
    by_head : (head : Option (Key × Rec)) → cursor.head ≡ head → (head_above at cursor.head ≡ true) ⊎ IsAtEnd cursor → left_in at cursor ≡ entries_weight (above at entries)
    by_head None is (inl here) = absurd (false≢true (sym (ap (head_above at) is) ∙ here))
    by_head (Some h) is (inl here) =
        let h_above : is_above at h.0 ≡ true = sym (ap (head_above at) is) ∙ here in
        let rise = subst (λ (x : Option (Key × Rec)). AreRising (from_head x input.rest)) is input.ahead.rise in
        let whole : above at (from_head cursor.head input.rest) ≡ h ∷ input.rest =
        ap (λ (x : Option (Key × Rec)). above at (from_head x input.rest)) is ∙ ap (λ (b : Bool). cond b (h ∷ above at input.rest) (above at input.rest)) h_above
        ∙ ap (λ (l : Entries). h ∷ l) (rises_above at h input.rest h_above rise) in
        omega (
          arith,
          ap (λ (x : Option (Key × Rec)). entries_weight (above at (from_head x []))) is,
          head_weighs at h.0 h.1 h_above,
          input.ahead.weight_is,
          ap (λ (l : Entries). entries_weight l) (sym input.left_is ∙ whole),
          sum_by-cons (λ (x : Key × Rec). weight x.0 x.1) h input.rest,
        )
    by_head head is (inr end) =
        let none = no_entries input.rest (input.ahead.entries_is ∙ end.entries) in
        let gone : above at (from_head cursor.head input.rest) ≡ [] = ap (λ (x : Option (Key × Rec)). above at (from_head x input.rest)) end.head ∙ ap (above at) none in
        omega (arith, ap (λ (x : Option (Key × Rec)). entries_weight (above at (from_head x []))) end.head, end.weight, ap (λ (l : Entries). entries_weight l) (sym input.left_is ∙ gone))

-- ---- of both inputs

pub components_are : {under_pages : List ℕ} (sizes : Sizes) (file : List ℕ) (space : SpaceState) (role : ℕ) (at : Option Key) (input : Option CursorState) (table : Entries) (pages : List ℕ) (older : CursorState) (over under : Entries)
    → IsNewerReady at input → IsNewer sizes file space role at input table pages over → IsReady at older → IsInput sizes file space role at older under_pages under
    → component_left at input + left_in at older ≡ components_above at input over under
components_are sizes file space role at None table pages older over under ready is below_ready below = omega (arith, input_left sizes file space role at older under below_ready below)
components_are sizes file space role at (Some cursor) table pages older over under ready is below_ready below =
    omega (arith, input_left sizes file space role at cursor over ready is, input_left sizes file space role at older under below_ready below)

-- an input of the other kind has nothing to do with it
pub same_above : (at : Option Key) (input next : Option CursorState) (over under : Entries) → newer_calls next ≡ newer_calls input → components_above at next over under ≡ components_above at input over under
same_above at None None over under same = refl
same_above at (Some c) (Some d) over under same = refl
same_above at None (Some d) over under same = absurd (omega (arith, same))
same_above at (Some c) None over under same = absurd (omega (arith, same))

pub same_left : (at : Option Key) (input next : Option CursorState) (table table_after : Entries) → newer_calls next ≡ newer_calls input → newer_left at next table_after ≡ newer_left at input table
    → component_left at next ≡ component_left at input
same_left at None None table table_after same left = refl
same_left at (Some c) (Some d) table table_after same left = left
same_left at None (Some d) table table_after same left = absurd (omega (arith, same))
same_left at (Some c) None table table_after same left = absurd (omega (arith, same))

-- no more than with a table's
pub component_few : (at : Option Key) (input : Option CursorState) (table : Entries) → component_left at input ≤ newer_left at input table
component_few at None table = omega arith
component_few at (Some cursor) table = omega arith

-- a group takes nothing back
pub component_less : (at : Option Key) (key : Key) (input : Option CursorState) (table : Entries) (gone : ℕ) → gone + entries_weight (above (Some key) (at_hand input table)) ≡ entries_weight (above at (at_hand input table))
    → component_left (Some key) input ≤ component_left at input
component_less at key None table gone less = omega arith
component_less at key (Some cursor) table gone less = omega (arith, less)

-- ---- what was left when a page was taken

pub left_behind_is : (turned : Bool) (at closed next : Option Key) (left now old : ℕ) (of : Option Key → ℕ) → next ≡ (if turned then at else closed) → left ≡ (if turned then now else old)
    → now ≡ of at → (IsSome closed → old ≡ of closed) → IsSome next → left ≡ of next
left_behind_is true at closed next left now old of is left_is here there some = left_is ∙ here ∙ ap of (sym is)
left_behind_is false at closed next left now old of is left_is here there some = left_is ∙ there (subst (λ (k : Option Key). IsSome k) is some) ∙ ap of (sym is)

pub left_covers : (turned : Bool) (at closed next : Option Key) (left now old after before : ℕ) → next ≡ (if turned then at else closed) → left ≡ (if turned then now else old)
    → after ≤ now → now ≡ before → (IsSome closed → before ≤ old) → IsSome next → after ≤ left
left_covers true at closed next left now old after before is left_is less same covers some = omega (arith, left_is, less)
left_covers false at closed next left now old after before is left_is less same covers some = let was = covers (subst (λ (k : Option Key). IsSome k) is some) in omega (arith, left_is, less, same, was)

-- and the part in which the older input stood then
pub part_told : (turned : Bool) (at closed next : Option Key) (here behind told : Component) (P : Option Key → Component → Type 0) → next ≡ (if turned then at else closed)
    → told ≡ (if turned then here else behind) → P at here → P closed behind → P next told
part_told true at closed next here behind told P is told_is now was = subst (λ (k : Option Key). P k told) (sym is) (subst (P at) (sym told_is) now)
part_told false at closed next here behind told P is told_is now was = subst (λ (k : Option Key). P k told) (sym is) (subst (P closed) (sym told_is) was)

pub part_covers : (turned : Bool) (at closed next : Option Key) (left now old : ℕ) (here behind told : Component) → next ≡ (if turned then at else closed)
    → left ≡ (if turned then now else old) → told ≡ (if turned then here else behind) → here.weight ≤ now + most_used → FillsPages here
    → (IsSome closed → (behind.weight ≤ old + most_used) × FillsPages behind) → IsSome next → (told.weight ≤ left + most_used) × FillsPages told
part_covers true at closed next left now old here behind told is left_is told_is light fills covers some =
    subst (λ (part : Component). (part.weight ≤ left + most_used) × FillsPages part) (sym told_is) (omega (arith, left_is, light), fills)
part_covers false at closed next left now old here behind told is left_is told_is light fills covers some =
    let was = covers (subst (λ (k : Option Key). IsSome k) is some) in
    subst (λ (part : Component). (part.weight ≤ left + most_used) × FillsPages part) (sym told_is) (omega (arith, left_is, was.0), was.1)

-- ---- what the run and what is left weigh, with a table

pub table_less : (at : Option Key) (key : Key) (input : Option CursorState) (table : Entries) (gone : ℕ) → input ≡ None
    → gone + entries_weight (above (Some key) (at_hand input table)) ≡ entries_weight (above at (at_hand input table))
    → entries_weight (above (Some key) table) ≤ entries_weight (above at table)
table_less at key input table gone none less =
    let hand = ap (λ (i : Option CursorState). at_hand i table) none in
    omega (arith, less, ap (λ (l : Entries). entries_weight (above at l)) hand, ap (λ (l : Entries). entries_weight (above (Some key) l)) hand)

pub made_more : (at : Option Key) (key : Key) (input : Option CursorState) (table : Entries) (total weighs of_newer of_older comp comp_after left left_after : ℕ) → input ≡ None
    → of_newer + entries_weight (above (Some key) (at_hand input table)) ≡ entries_weight (above at (at_hand input table))
    → of_older + left_after ≡ left → weighs ≤ of_newer + of_older → comp_after ≤ comp + weighs → comp + entries_weight (above at table) + left ≤ total
    → comp_after + entries_weight (above (Some key) table) + left_after ≤ total
made_more at key input table total weighs of_newer of_older comp comp_after left left_after none newer older few light before =
    let hand = ap (λ (i : Option CursorState). at_hand i table) none in
    omega (
      arith,
      newer,
      older,
      few,
      light,
      before,
      ap (λ (l : Entries). entries_weight (above at l)) hand,
      ap (λ (l : Entries). entries_weight (above (Some key) l)) hand,
    )

-- The closed pages have what was pushed before the group, where a page was taken for it, and else what they had.
pub told_more : (turned : Bool) (at closed next : Option Key) (left now old comp comp_after text text_after weighs total before after : ℕ)
    → next ≡ (if turned then at else closed) → left ≡ (if turned then now else old) → text_after ≡ (if turned then 0 else text) + weighs
    → comp_after ≤ comp + weighs → after ≤ before → comp + before + now ≤ total → (IsSome closed → (comp - text) + before + old ≤ total)
    → IsSome next → (comp_after - text_after) + after + left ≤ total
told_more true at closed next left now old comp comp_after text text_after weighs total before after is left_is text_is light less made told some =
    omega (arith, left_is, text_is, light, less, made)
told_more false at closed next left now old comp comp_after text text_after weighs total before after is left_is text_is light less made told some =
    let was = told (subst (λ (k : Option Key). IsSome k) is some) in
    omega (arith, left_is, text_is, light, less, was)

-- ---- how many pages a merge has that doesn't settle

pub weighs_something : (key : Key) (rec : Rec) → 0 < weight key rec
weighs_something key rec = grind (arith, common_steps, nat_tests)

pub pages_begun : (writer : WriterState) (weighs : ℕ) → IsCounted writer → 0 < weighs → weighs ≤ length writer.buffer.text → 0 < writer.component.pages
pages_begun writer weighs counted some here = grind (arith, common_steps, nat_tests, counted.none)

pub more_pages : (old new : ℕ) → nat_lt old new ≡ true → old < new
more_pages old new more = grind (arith, common_steps, nat_tests)

pub closed_turned : (turned : Bool) (at closed next : Option Key) (pages pages_after : ℕ) → next ≡ (if turned then at else closed)
    → (turned ≡ true → pages < pages_after) → pages ≤ pages_after → (IsSome at → 0 < pages) → (IsSome closed → 1 < pages) → IsSome next → 1 < pages_after
closed_turned true at closed next pages pages_after is more onward begun was some =
    let here = begun (subst (λ (k : Option Key). IsSome k) is some) in
    let gone = more refl in
    omega (arith, here, gone)
closed_turned false at closed next pages pages_after is more onward begun was some =
    let here = was (subst (λ (k : Option Key). IsSome k) is some) in
    omega (arith, here, onward)

-- it is a number of 64 bits
pub left_small : (space : SpaceState) (writer : WriterState) (left some : ℕ) → HasRoom space writer left → IsCounted writer → space.pages ≤ no_page → some ≤ left → some < 2 ^ 64
left_small space writer left some room counted pages few = omega (arith, room.room, counted.floor, pages, few)
