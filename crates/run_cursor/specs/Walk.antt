-- A cursor, and the part of its component in which it stands.
use Rattle.std.specs.Prelude.{◌≡◌, ◌+◌, ◌≤◌}
use Rattle.blsm_model.specs.Components.{empty_component}
use Rattle.run_cursor.specs.declared.walk.Walk.{Walk}

-- what each walk keeps, on any disk: of the part in which it stands it has read one page at most
pub record IsWalk (walk : Walk) : Type 0 where
  pub paged : walk.here.pages ≡ 0 → walk.here ≡ empty_component
  pub within : walk.cursor.pages ≤ walk.here.pages
  pub one : walk.here.pages ≤ walk.cursor.pages + 1
