-- A component as an input of a merge that has taken all up to a key: a cursor over it, and what is left. Weights are in bytes.
use Rattle.std.specs.Prelude.{◌≡◌, ◌⊎◌, ℕ, ◌+◌, ◌-◌, ◌*◌, ◌≤◌, Bool, true, false, List, [], Option, Some, None}
use Rattle.std.specs.List.{Contains}
use Rattle.blsm_model.specs.Format.{least_full}
use Rattle.blsm_model.specs.declared.component.Component.{Component}
use Rattle.blsm_model.specs.declared.key.Key.{Key}
use Rattle.blsm_model.specs.Sizes.{Sizes}
use Rattle.record_delta.specs.declared.record.Rec.{Rec}
use Rattle.record_delta.specs.Entries.{Entries, AreSorted, entries_weight, is_above, above}
use Rattle.page_space.specs.Space.{SpaceState, HasRole, IsFree}
use Rattle.page_file.specs.Component.{numbers_of}
use Rattle.run_cursor.specs.Cursor.{CursorState, from_head, HasAhead, AreAmong, IsOnPage}

-- the key of an entry, if there is one
abbrev pub key_of : Option (Key × Rec) → Option Key
key_of None = None
key_of (Some e) = Some e.0

-- each page of a part but the last may be full, by its numbers
abbrev pub FillsPages : Component → Type 0
FillsPages part = least_full * (part.pages - 1) ≤ part.weight

-- whether there is an entry, and its key is above another
abbrev pub head_above : Option Key → Option (Key × Rec) → Bool
head_above at None = false
head_above at (Some e) = is_above at e.0

-- how much is left above the key, by the component's numbers: the head, unless it was taken, and what comes after it
abbrev pub left_in : Option Key → CursorState → ℕ
left_in at cursor = entries_weight (above at (from_head cursor.head [])) + cursor.weight

-- the component is through, by its numbers
pub record IsAtEnd (cursor : CursorState) : Type 0 where
  pub head : cursor.head ≡ None
  pub entries : cursor.entries ≡ 0
  pub weight : cursor.weight ≡ 0

-- the cursor is at an entry above the key, or at the end
abbrev pub IsReady : Option Key → CursorState → Type 0
IsReady at cursor = (head_above at cursor.head ≡ true) ⊎ IsAtEnd cursor

-- or it is still at the entry of the key, which was taken; where no key was taken, before the first entry
abbrev pub IsBehind : Option Key → CursorState → Type 0
IsBehind at cursor = IsReady at cursor ⊎ (key_of cursor.head ≡ at)

-- On any disk, by the numbers: the cursor is on the first page of this part, and what is left in the part fills its pages but the last; or nothing of
-- the part was read.
pub record IsInPart (cursor : CursorState) (part : Component) : Type 0 where
  pub on_page : IsOnPage part.weight cursor
  pub filled : FillsPages part ⊎ ((cursor.head ≡ None) × (cursor.behind ≡ []) × (cursor.pages ≡ part.pages))

-- In this file the cursor has what the entries have above the key, on some of these pages, which aren't the role's and aren't free.
pub record IsInput (sizes : Sizes) (file : List ℕ) (space : SpaceState) (role : ℕ) (at : Option Key) (cursor : CursorState) (pages : List ℕ) (entries : Entries) : Type 0 where
  pub sorted : AreSorted entries
  pub rest : Entries
  pub ahead : HasAhead sizes cursor rest file
  pub left_is : above at (from_head cursor.head rest) ≡ above at entries
  pub among : AreAmong ahead.coming pages
  pub apart : (n : ℕ) → Contains (numbers_of ahead.coming) n → HasRole space role n → ⊥
  pub in_use : (n : ℕ) → Contains (numbers_of ahead.coming) n → IsFree space n → ⊥
