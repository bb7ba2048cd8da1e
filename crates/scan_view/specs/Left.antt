-- What a cursor has left of a list above a key, and what it has given up to it.
use Rattle.std.specs.Prelude.{◌≡◌, ◌⊎◌, ℕ, ◌+◌, Bool, true, List, [], Option, Some, None, IfSome, IsTrue, if◌then◌else◌}
use Rattle.blsm_model.specs.declared.component.Component.{Component}
use Rattle.blsm_model.specs.declared.key.Key.{Key}
use Rattle.blsm_model.specs.Sizes.{Sizes}
use Rattle.disk_trait.specs.Disk.{DiskState}
use Rattle.record_delta.specs.declared.record.Rec.{Rec}
use Rattle.record_delta.specs.Entries.{Entries, is_above, above}
use Rattle.run_cursor.specs.declared.walk.Walk.{Walk}
use Rattle.run_cursor.specs.Cursor.{CursorState, from_head, HasAheadTo, AreAmong}
use Rattle.run_cursor.specs.Given.{EndsAs, HasGivenOf, HasListOf, pages_listed}
use Rattle.merge_ends.specs.Input.{key_of, head_above}
use Rattle.scan_view.specs.Told.{IsFront, IsPartOf}

-- an honest disk that reads as this file
pub record IsFile (file : List ℕ) (d : DiskState) : Type 0 where
  pub honest : IsTrue d.is_honest
  pub bytes_are : d.bytes ≡ file

-- the entry's key, where there is an entry, is above this one
abbrev pub IsAheadOf : Option Key → Option (Key × Rec) → Type 0
IsAheadOf at entry = IfSome entry (λ e. is_above at e.0 ≡ true)

-- an entry without the weight of what it was folded from
abbrev pub entry_of : Option (Key × Rec × ℕ) → Option (Key × Rec)
entry_of None = None
entry_of (Some group) = Some (group.0, group.1)

-- In this file a part of a component, or of a front, reads as a list that has above a key just what the entries have, on pages among these.
pub record HasPart (is_front : Bool) (sizes : Sizes) (at : Option Key) (part : Component) (entries : Entries) (pages : List ℕ) (file : List ℕ) : Type 0 where
  pub of_part : Entries
  pub list : HasListOf is_front sizes part of_part file
  pub left_is : above at of_part ≡ above at entries
  pub among : AreAmong (pages_listed is_front sizes part of_part file list) pages

-- In this file a walk's cursor has, of what it is at and what comes after, just what the entries have above a key, and so has the part in which it
-- stands, on pages among these.
pub record HasLeft (is_front : Bool) (sizes : Sizes) (at : Option Key) (walk : Walk) (entries : Entries) (pages : List ℕ) (file : List ℕ) : Type 0 where
  pub end : Option ℕ
  pub ends : EndsAs is_front end
  pub rest : Entries
  pub ahead : HasAheadTo end sizes walk.cursor rest file
  pub left_is : above at (from_head walk.cursor.head rest) ≡ above at entries
  pub among : AreAmong ahead.coming pages
  pub part : HasPart is_front sizes at walk.here entries pages file

-- In this file a walk's cursor has given these entries, with which its component, or its front, begins. Of them its head alone may be above the key,
-- and none that stands before the part.
pub record HasRead (is_front : Bool) (sizes : Sizes) (run : Component) (at : Option Key) (walk : Walk) (given : Entries) (file : List ℕ) : Type 0 where
  pub begins : HasGivenOf is_front sizes run walk.cursor given file
  pub passed : above at given ≡ above at (from_head walk.cursor.head [])
  pub part : IsPartOf is_front sizes run at walk.here file

-- And it has gone on from these, behind which no list can come any more that couldn't before.
pub record HasReadOn (is_front : Bool) (sizes : Sizes) (run : Component) (at : Option Key) (walk : Walk) (before : Entries) (file : List ℕ) : Type 0 where
  pub now : Entries
  pub read : HasRead is_front sizes run at walk now file
  pub onward : (all : Entries) → IsFront run now all → IsFront run before all

-- how many entries a cursor has left above a key, by its component's number
abbrev pub count_left : Option Key → CursorState → ℕ
count_left at cursor = (if head_above at cursor.head then 1 else 0) + cursor.entries

-- the key of what was found, or where there is none the one before it
abbrev pub key_or : Option (Key × Rec) → Option Key → Option Key
key_or None before = before
key_or (Some e) before = Some e.0

-- where there is an entry, it has the key of one of two others
abbrev pub IsFromOne : Option (Key × Rec) → Option (Key × Rec) → Option (Key × Rec) → Type 0
IsFromOne newer older entry = IfSome entry (λ e. (key_of newer ≡ Some e.0) ⊎ (key_of older ≡ Some e.0))
