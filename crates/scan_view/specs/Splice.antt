-- How far a walk over a front, and then over a component behind it, has come.
use Rattle.std.specs.Prelude.{◌≡◌, ℕ, ◌+◌, true, false, List, [], Option, Some, None}
use Rattle.blsm_model.specs.declared.component.Component.{Component}
use Rattle.blsm_model.specs.Components.{empty_component}
use Rattle.blsm_model.specs.declared.key.Key.{Key}
use Rattle.blsm_model.specs.Sizes.{Sizes}
use Rattle.record_delta.specs.Entries.{Entries, above}
use Rattle.page_file.specs.Component.{HasList}
use Rattle.run_cursor.specs.Cursor.{AreAmong}
use Rattle.run_cursor.specs.Given.{HasListOf}
use Rattle.run_cursor.specs.declared.walk.Walk.{Walk}
use Rattle.scan_view.specs.Hold.{later}
use Rattle.scan_view.specs.Left.{HasLeft, HasRead, count_left}
use Rattle.scan_view.specs.Told.{Begins, IsFront}
use Rattle.scan_view.specs.declared.splice.Splice.{Splice}

-- ---- on any disk

abbrev pub pages_of_rest : Option Component → ℕ
pages_of_rest None = 0
pages_of_rest (Some rest) = rest.pages

abbrev pub entries_of_rest : Option Component → ℕ
entries_of_rest None = 0
entries_of_rest (Some rest) = rest.entries

-- how many pages aren't read yet, how many stand in the parts that are ahead, and how many entries are left above a key
abbrev pub splice_pages : Splice → ℕ
splice_pages s = s.walk.cursor.pages + pages_of_rest s.rest

abbrev pub splice_ahead : Splice → ℕ
splice_ahead s = s.walk.here.pages + pages_of_rest s.rest

abbrev pub splice_count : Option Key → Splice → ℕ
splice_count at s = count_left at s.walk.cursor + entries_of_rest s.rest

-- the part that is ahead of the front, and that of the component
abbrev pub AreParts : Option Component → Walk → Component × Component → Type 0
AreParts (Some c1) walk parts = (parts.0 ≡ walk.here) × (parts.1 ≡ c1)
AreParts None walk parts = (parts.0 ≡ empty_component) × (parts.1 ≡ walk.here)

abbrev pub ArePartsBy : Splice → Component × Component → Type 0
ArePartsBy s parts = AreParts s.rest s.walk parts

-- ---- in a file in which both read as lists

-- The walk is in the front, and of the component behind it nothing is read.
pub record IsInFront (sizes : Sizes) (at : Option Key) (walk : Walk) (c1 : Component) (front rest : Entries) (pages : List ℕ) (file : List ℕ) : Type 0 where
  pub left : HasLeft true sizes at walk front pages file
  pub list : HasList sizes c1 rest file
  pub among : AreAmong list.pages pages

-- The front is through, and the walk is in the component, above the released key too.
pub record IsInRest (sizes : Sizes) (at released : Option Key) (walk : Walk) (front rest : Entries) (pages : List ℕ) (file : List ℕ) : Type 0 where
  pub passed : above at front ≡ []
  pub left : HasLeft false sizes (later at released) walk rest pages file

abbrev pub IsIn : Option Component → Sizes → (at released : Option Key) → Walk → (front rest : Entries) → List ℕ → List ℕ → Type 0
IsIn (Some c1) sizes at released walk front rest pages file = IsInFront sizes at walk c1 front rest pages file
IsIn None sizes at released walk front rest pages file = IsInRest sizes at released walk front rest pages file

abbrev pub HasSplice : Sizes → Option Key → Splice → (front rest : Entries) → List ℕ → List ℕ → Type 0
HasSplice sizes at s front rest pages file = IsIn s.rest sizes at s.released s.walk front rest pages file

-- ---- whatever they read as

pub record ReadsFront (sizes : Sizes) (of_front of_c1 : Component) (at : Option Key) (walk : Walk) (c1 : Component) (front rest : Entries) (file : List ℕ) : Type 0 where
  pub c1_is : c1 ≡ of_c1
  pub read : HasRead true sizes of_front at walk front file
  pub none : rest ≡ []

pub record ReadsRest (sizes : Sizes) (of_front of_c1 : Component) (at released : Option Key) (walk : Walk) (front rest : Entries) (file : List ℕ) : Type 0 where
  pub begins : Begins true sizes of_front front file
  pub whole : HasListOf true sizes of_front front file
  pub passed : above at front ≡ []
  pub read : HasRead false sizes of_c1 (later at released) walk rest file

abbrev pub ReadsIn : Option Component → Sizes → (of_front of_c1 : Component) → (at released : Option Key) → Walk → (front rest : Entries) → List ℕ → Type 0
ReadsIn (Some c1) sizes of_front of_c1 at released walk front rest file = ReadsFront sizes of_front of_c1 at walk c1 front rest file
ReadsIn None sizes of_front of_c1 at released walk front rest file = ReadsRest sizes of_front of_c1 at released walk front rest file

abbrev pub HasReadSplice : Sizes → (of_front of_c1 : Component) → Option Key → Splice → (front rest : Entries) → List ℕ → Type 0
HasReadSplice sizes of_front of_c1 at s front rest file = ReadsIn s.rest sizes of_front of_c1 at s.released s.walk front rest file

-- and it has gone on from these, behind which no lists can come any more that couldn't before
pub record HasReadSpliceOn (sizes : Sizes) (of_front of_c1 : Component) (at : Option Key) (s : Splice) (front rest : Entries) (file : List ℕ) : Type 0 where
  pub now_front : Entries
  pub now_rest : Entries
  pub read : HasReadSplice sizes of_front of_c1 at s now_front now_rest file
  pub onward_front : (all : Entries) → IsFront of_front now_front all → IsFront of_front front all
  pub onward_rest : (all : Entries) → IsFront of_c1 now_rest all → IsFront of_c1 rest all
