-- What a cursor has given of its component.
use Rattle.std.specs.Prelude.{◌≡◌, ◌⊎◌, ℕ, ◌+◌, ◌<◌, Bool, true, false, IsSome, List, [], ◌∷◌, ◌++◌, length, Option, Some, None}
use Rattle.std.specs.List.{last_or}
use Rattle.blsm_model.specs.declared.component.Component.{Component}
use Rattle.blsm_model.specs.declared.key.Key.{Key}
use Rattle.blsm_model.specs.Sizes.{Sizes}
use Rattle.record_delta.specs.declared.record.Rec.{Rec}
use Rattle.page_file.specs.Entry.{entries_bytes, AreEntries, AreRising}
use Rattle.page_file.specs.Page.{page_number}
use Rattle.page_file.specs.Component.{RunPage, entries_of, first_number, AreChained, HasList}
use Rattle.record_delta.specs.Entries.{Entries, entries_weight}
use Rattle.run_cursor.specs.Cursor.{CursorState, HasFront}

-- A front's last page names one more, a component's none.
abbrev pub EndsAs : Bool → Option ℕ → Type 0
EndsAs false end = end ≡ None
EndsAs true end = IsSome end

-- In this file the component, or the front, begins with these entries, which the cursor has given, and with those behind the cursor's head on its
-- page: they are those of the pages that were read, from the first on.
pub record HasGivenOf (is_front : Bool) (sizes : Sizes) (run : Component) (cursor : CursorState) (given : Entries) (file : List ℕ) : Type 0 where
  pub front_is : cursor.is_front ≡ is_front
  pub pages : List RunPage
  pub end : Option ℕ
  pub here : Entries
  pub first_is : page_number (first_number pages end) ≡ run.first
  pub chained : AreChained sizes pages end file
  pub end_is : page_number end ≡ cursor.next
  pub none_next : cursor.pages ≡ 0 → EndsAs is_front end
  pub each : AreEntries here
  pub behind_is : cursor.behind ≡ entries_bytes here
  pub entries_are : entries_of pages ≡ given ++ here
  -- those behind the head are on the last of these pages, and the head is too
  pub on_last : (last : RunPage) → last_or None pages ≡ Some last → length here < length last.entries
  pub rise : AreRising (given ++ here)
  -- the head is the last of them; once no page is left to read it may be none
  pub head_is : (cursor.head ≡ last_or None given) ⊎ (cursor.pages ≡ 0)
  pub pages_is : length pages + cursor.pages ≡ run.pages
  pub entries_is : length given + cursor.entries ≡ run.entries
  pub weight_is : entries_weight given + cursor.weight ≡ run.weight

abbrev pub HasGiven : Sizes → Component → CursorState → Entries → List ℕ → Type 0
HasGiven sizes run cursor given file = HasGivenOf false sizes run cursor given file

-- a component reads as this list, or a front does
abbrev pub HasListOf : Bool → Sizes → Component → Entries → List ℕ → Type 0
HasListOf false sizes run entries file = HasList sizes run entries file
HasListOf true sizes run entries file = (end : ℕ) × HasFront sizes run end entries file

-- and these are its pages
abbrev pub pages_listed : (is_front : Bool) (sizes : Sizes) (run : Component) (entries : Entries) (file : List ℕ)
    → HasListOf is_front sizes run entries file → List RunPage
pages_listed false sizes run entries file list = list.pages
pages_listed true sizes run entries file list = list.1.pages

-- one entry more was given; at the end the component, or the front, reads as those that were
abbrev pub HasGivenMoreOf : Bool → Sizes → Component → CursorState → Option (Key × Rec) → Entries → List ℕ → Type 0
HasGivenMoreOf is_front sizes run new (Some e) given file = HasGivenOf is_front sizes run new (given ++ e ∷ []) file
HasGivenMoreOf is_front sizes run new None given file = HasListOf is_front sizes run given file × HasGivenOf is_front sizes run new given file

abbrev pub HasGivenMore : Sizes → Component → CursorState → Option (Key × Rec) → Entries → List ℕ → Type 0
HasGivenMore sizes run new head given file = HasGivenMoreOf false sizes run new head given file
