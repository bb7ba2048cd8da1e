-- What contracts see of the free-page map.
use Rattle.std.specs.Prelude.{◌≡◌, ◌≢◌, ◌↔◌, ◌⊎◌, ℕ, ◌+◌, ◌<◌, ◌≤◌, List, [], length, replicate, slice_index_or}
use Rattle.page_space.specs.PageSet.{Members, IsIn, none_of, size, with_page}

-- a page may have the tags of five roles, and be pinned by sixteen seats
abbrev pub role_count : ℕ
role_count = 5

abbrev pub seat_count : ℕ
seat_count = 16

-- How many pages there are, and sets of them: for each role those that have its tag, and for each seat those that it pins.
pub record SpaceState : Type 0 where
  pub pages : ℕ
  pub roles : List Members
  pub pins : List Members

abbrev pub pages_with : SpaceState → ℕ → Members
pages_with space role = slice_index_or space.roles role []

abbrev pub pins_of : SpaceState → ℕ → Members
pins_of space seat = slice_index_or space.pins seat []

abbrev pub HasRole : SpaceState → ℕ → ℕ → Type 0
HasRole space role page = IsIn (pages_with space role) page

abbrev pub IsPinnedBy : SpaceState → ℕ → ℕ → Type 0
IsPinnedBy space seat page = IsIn (pins_of space seat) page

-- the page has no role's tag, and no seat pins it
pub record IsFree (space : SpaceState) (page : ℕ) : Type 0 where
  pub in_range : page < space.pages
  pub no_role : (role : ℕ) → HasRole space role page → ⊥
  pub no_pin : (seat : ℕ) → IsPinnedBy space seat page → ⊥

abbrev pub HasFree : SpaceState → Type 0
HasFree space = (page : ℕ) × IsFree space page

-- no page below this one is free
abbrev pub NoneFreeBelow : SpaceState → ℕ → Type 0
NoneFreeBelow space end = (page : ℕ) → page < end → IsFree space page → ⊥

pub record IsLeastFree (space : SpaceState) (page : ℕ) : Type 0 where
  pub free : IsFree space page
  pub least : NoneFreeBelow space page

-- no page has a role's tag, and none is pinned
abbrev pub unused : ℕ → SpaceState
unused pages = record { pages = pages; roles = replicate role_count (none_of pages); pins = replicate seat_count (none_of pages) }

-- there is a set for each role and for each seat, of the pages that there are
pub record IsSpace (space : SpaceState) : Type 0 where
  pub roles : length space.roles ≡ role_count
  pub pins : length space.pins ≡ seat_count
  pub of_role : (role : ℕ) → role < role_count → length (pages_with space role) ≡ space.pages
  pub of_seat : (seat : ℕ) → seat < seat_count → length (pins_of space seat) ≡ space.pages

-- what a map keeps that was searched for free pages below this one
abbrev pub IsSearchedBelow : SpaceState → ℕ → Type 0
IsSearchedBelow space end = IsSpace space × NoneFreeBelow space end

-- how many pages have the role's tag, and how many the seat pins
abbrev pub role_size : SpaceState → ℕ → ℕ
role_size space role = size (pages_with space role)

abbrev pub pin_size : SpaceState → ℕ → ℕ
pin_size space seat = size (pins_of space seat)

-- the roles have at most so many pages, all together, and each seat pins at most its share
pub record IsWithin (live share : ℕ) (space : SpaceState) : Type 0 where
  pub roles : role_size space 0 + role_size space 1 + role_size space 2 + role_size space 3 + role_size space 4 ≤ live
  pub seats : (seat : ℕ) → seat < seat_count → pin_size space seat ≤ share

-- the same pages have the tag of each other role
abbrev pub KeepsOtherRoles : ℕ → SpaceState → SpaceState → Type 0
KeepsOtherRoles role old new = (other : ℕ) → other ≢ role → pages_with new other ≡ pages_with old other

-- each other seat pins the same pages
abbrev pub KeepsOtherPins : ℕ → SpaceState → SpaceState → Type 0
KeepsOtherPins seat old new = (other : ℕ) → other ≢ seat → pins_of new other ≡ pins_of old other

-- One page gets a role's tag, and nothing else changes: of the pages that were free it uses up this one alone.
pub record Claims (role page : ℕ) (old new : SpaceState) : Type 0 where
  pub this : pages_with new role ≡ with_page page (pages_with old role)
  pub others : KeepsOtherRoles role old new
  pub pins : new.pins ≡ old.pins
  pub pages : new.pages ≡ old.pages
  pub shape : IsSpace new
  pub tags : (tag k : ℕ) → HasRole new tag k ↔ (HasRole old tag k ⊎ ((tag ≡ role) × (k ≡ page)))
  pub free : (other : ℕ) → IsFree new other ↔ (IsFree old other × (other ≢ page))
  pub size : (HasRole old role page → ⊥) → role_size new role ≡ role_size old role + 1

-- The seat pins one page more, and nothing else changes: no page is free that wasn't.
pub record PinsMore (seat page : ℕ) (old new : SpaceState) : Type 0 where
  pub this : pins_of new seat ≡ with_page page (pins_of old seat)
  pub others : KeepsOtherPins seat old new
  pub roles : new.roles ≡ old.roles
  pub pages : new.pages ≡ old.pages
  pub shape : IsSpace new
  pub pinned : (other : ℕ) → IsPinnedBy new seat other ↔ (IsPinnedBy old seat other ⊎ (other ≡ page))
  pub free : (other : ℕ) → IsFree new other → IsFree old other
  pub size : pin_size new seat ≤ pin_size old seat + 1
