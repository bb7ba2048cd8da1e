-- What a hold does to the free-page map, and what that does for the hold.
use Rattle.std.specs.Prelude.{◌≡◌, ◌↔◌, ◌⊎◌, ⊤, ℕ, ◌+◌, ◌≤◌, List, [], Option, Some, None, slice_index_or}
use Rattle.std.specs.List.{Contains}
use Rattle.disk_trait.specs.Region.{Region, outside}
use Rattle.blsm_model.specs.declared.row.Row.{Row}
use Rattle.blsm_model.specs.Sizes.{Sizes}
use Rattle.page_space.specs.PageSet.{Members, IsIn, union}
use Rattle.page_space.specs.Space.{SpaceState, IsSpace, pages_with, pins_of, HasRole, IsPinnedBy, IsFree, role_size, pin_size, KeepsOtherPins}
use Rattle.page_file.specs.File.{page_region}
use Rattle.scan_view.specs.Hold.{HoldState, HasRows, pages_held}

-- The seat pins just the pages that have one of three roles' tags, and none that it pinned before. Nothing else changes.
pub record Pins (seat c1 c1x c2 : ℕ) (old new : SpaceState) : Type 0 where
  pub this : pins_of new seat ≡ union (pages_with old c1) (union (pages_with old c1x) (pages_with old c2))
  pub others : KeepsOtherPins seat old new
  pub roles : new.roles ≡ old.roles
  pub pages : new.pages ≡ old.pages
  pub shape : IsSpace new
  pub pinned : (page : ℕ) → IsPinnedBy new seat page ↔ (HasRole old c1 page ⊎ (HasRole old c1x page ⊎ HasRole old c2 page))
  pub freed : (page : ℕ) → IsFree new page → (IsFree old page ⊎ IsPinnedBy old seat page)
  pub size : pin_size new seat ≤ role_size old c1 + role_size old c1x + role_size old c2

-- no seat pins a page that has the tag
abbrev pub IsUnpinned : SpaceState → ℕ → Type 0
IsUnpinned space tag = (seat page : ℕ) → IsPinnedBy space seat page → HasRole space tag page → ⊥

-- where no pinned page is, in a map with these pins
abbrev pub beside_pins : Sizes → List Members → Region
beside_pins sizes pins = outside (λ i. (seat : ℕ) × (page : ℕ) × IsIn (slice_index_or pins seat []) page × page_region sizes page i)

-- In this file the hold has these rows to give, from pages that the seat pins.
pub record HasPinned (sizes : Sizes) (pins : List Members) (seat : ℕ) (hold : HoldState) (rows : List Row) (file : List ℕ) : Type 0 where
  pub has : HasRows sizes hold rows file
  pub pinned : (page : ℕ) → Contains (pages_held has) page → IsIn (slice_index_or pins seat []) page

-- a seat's hold has its rows to give, or the seat has no hold
abbrev pub HasHeld : Sizes → List Members → ℕ → Option HoldState → Option (List Row) → List ℕ → Type 0
HasHeld sizes pins seat None None file = ⊤
HasHeld sizes pins seat (Some hold) (Some rows) file = HasPinned sizes pins seat hold rows file
HasHeld sizes pins seat hold rows file = ⊥
