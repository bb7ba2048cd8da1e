-- The part of a component that a cursor has ahead, as a component of its own.
use Rattle.std.specs.Prelude.{◌≡◌, ◌⊎◌, ◌<◌, [], None}
use Rattle.blsm_model.specs.declared.component.Component.{Component}
use Rattle.run_cursor.specs.Cursor.{CursorState, begun}

-- the part begins at the page that the cursor reads next: a cursor that is started over it has the same ahead
pub record BeginsNext (cursor : CursorState) (part : Component) : Type 0 where
  pub none_left : cursor.behind ≡ []
  pub some : 0 < part.pages
  pub part_is : begun cursor.is_front part ≡ record cursor { head = None }

-- the part in which the entry behind the head stands: it begins at the page that is read next, or where none is read it is the one before
abbrev pub IsNextPart : CursorState → Component → Component → Type 0
IsNextPart cursor before part = BeginsNext cursor part ⊎ ((part ≡ before) × (cursor.behind ≡ [] → cursor.pages ≡ 0))
