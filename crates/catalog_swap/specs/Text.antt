-- The text of a catalogue. Numbers have their highest byte first.
use Rattle.std.specs.Prelude.{◌≡◌, ◌⊎◌, ℕ, ◌<◌, ◌≤◌, ◌^◌, List, [], ◌∷◌, ◌++◌, length, take, Option, Some, None, IfSome}
use Rattle.std.specs.Int.{w16, w32, w64, to_be_bytes}
use Rattle.gated_write.specs.Gated.{open_byte}
use Rattle.blsm_model.specs.Format.{least_weight, most_key}
use Rattle.blsm_model.specs.declared.component.Component.{Component}
use Rattle.blsm_model.specs.Components.{no_page, empty_component}
use Rattle.blsm_model.specs.Lanes.{AreRoles}
use Rattle.blsm_model.specs.Sizes.{Sizes}
use Rattle.blsm_model.specs.Geometry.{page_count}
use Rattle.catalog_swap.specs.declared.catalog.Catalog.{Catalog}
use Rattle.catalog_swap.specs.declared.catalog.Progress.{Progress}

-- a component's numbers fit their fields
pub record AreNumbers (component : Component) : Type 0 where
  pub first : component.first < 2 ^ 32
  pub pages : component.pages < 2 ^ 32
  pub entries : component.entries < 2 ^ 64
  pub weight : component.weight < 2 ^ 64

-- it is the one without entries
pub record IsEmpty (component : Component) : Type 0 where
  pub first : component.first ≡ no_page
  pub pages : component.pages ≡ 0
  pub entries : component.entries ≡ 0
  pub weight : component.weight ≡ 0

-- it has a first page and pages, in a store of so many pages, and at least one entry
pub record IsInRange (pages : ℕ) (component : Component) : Type 0 where
  pub first : component.first < pages
  pub some_page : 1 ≤ component.pages
  pub no_more_pages : component.pages ≤ pages
  pub some_entry : 1 ≤ component.entries
  pub some_weight : least_weight ≤ component.weight

-- what a catalogue may say of a component
abbrev pub IsComponent : ℕ → Component → Type 0
IsComponent pages component = IsEmpty component ⊎ IsInRange pages component

-- each number fits its field, and the key is one
pub record FitsProgress (progress : Progress) : Type 0 where
  pub output : AreNumbers progress.output
  pub next : progress.next < 2 ^ 32
  pub z : progress.z < 2 ^ 64
  pub some_key : 1 ≤ length progress.key
  pub short_key : length progress.key ≤ most_key

-- the key of what is named has 1 to 64 bytes, as each key has
abbrev pub HasKey : Option Progress → Type 0
HasKey progress = IfSome progress (λ p. (1 ≤ length p.key) × (length p.key ≤ most_key))

-- what a catalogue of a store of so many pages, which has this C1', may say of a deep merge's progress
pub record IsProgressOf (pages : ℕ) (c1x : Component) (progress : Progress) : Type 0 where
  pub some_c1x : IsInRange pages c1x
  pub output : IsInRange pages progress.output
  pub next : progress.next < pages

-- each part fits its field
pub record FitsBody (catalog : Catalog) : Type 0 where
  pub version : catalog.version < 2 ^ 64
  pub lanes : length catalog.lanes ≡ 3
  pub c1 : AreNumbers catalog.c1
  pub c1x : AreNumbers catalog.c1x
  pub c2 : AreNumbers catalog.c2
  pub progress : IfSome catalog.progress FitsProgress

-- what a slot of a store of these sizes may say
pub record IsCatalog (sizes : Sizes) (catalog : Catalog) : Type 0 where
  pub fits : FitsBody catalog
  pub some_version : 1 ≤ catalog.version
  pub lanes : AreRoles catalog.lanes
  pub c1 : IsComponent (page_count sizes) catalog.c1
  pub c1x : IsComponent (page_count sizes) catalog.c1x
  pub c2 : IsComponent (page_count sizes) catalog.c2
  pub progress : IfSome catalog.progress (IsProgressOf (page_count sizes) catalog.c1x)

unfoldable pub component_text : Component → List ℕ
component_text c = to_be_bytes w32 c.first ++ to_be_bytes w32 c.pages ++ to_be_bytes w64 c.entries ++ to_be_bytes w64 c.weight

-- the numbers of a slot's body, and how many bytes they have
unfoldable pub numbers_text : Catalog → List ℕ
numbers_text catalog = to_be_bytes w64 catalog.version ++ catalog.lanes ++ component_text catalog.c1 ++ component_text catalog.c1x ++ component_text catalog.c2

abbrev pub numbers_length : ℕ
numbers_length = 83

-- The flag behind the numbers: a body says no more than them, or a deep merge's progress too.
abbrev pub no_flag : ℕ
no_flag = 0

abbrev pub progress_flag : ℕ
progress_flag = 1

unfoldable pub progress_text : Progress → List ℕ
progress_text p = component_text p.output ++ to_be_bytes w32 p.next ++ to_be_bytes w64 p.z ++ to_be_bytes w16 (length p.key) ++ p.key

abbrev pub flagged_text : Option Progress → List ℕ
flagged_text None = no_flag ∷ []
flagged_text (Some progress) = progress_flag ∷ progress_text progress

-- a slot's body: what it has behind its gate
unfoldable pub body_text : Catalog → List ℕ
body_text catalog = numbers_text catalog ++ flagged_text catalog.progress

-- how many bytes that is at most
abbrev pub body_length : ℕ
body_length = 186

-- the slot with its gate open
abbrev pub slot_text : Catalog → List ℕ
slot_text catalog = open_byte ∷ body_text catalog

-- these bytes begin with the body of this catalogue
abbrev pub BeginsWith : List ℕ → Catalog → Type 0
BeginsWith bytes catalog = take (length (body_text catalog)) bytes ≡ body_text catalog

-- the catalogue of a store that was just made
abbrev pub first_catalog : Catalog
first_catalog = record { version = 1; lanes = 0 ∷ 1 ∷ 2 ∷ []; c1 = empty_component; c1x = empty_component; c2 = empty_component; progress = None }
