-- What a walk over a component's pages does to the free-page map, and what it tells.
use Rattle.std.specs.Prelude.{◌≡◌, ◌↔◌, ◌⊎◌, ℕ, ◌+◌, ◌-◌, ◌*◌, ◌<◌, ◌≤◌, IsSome, Bool, List, [], ◌++◌, length, Option, Some, None, Result, Ok, Err, ⊤}
use Rattle.std.specs.List.{Contains}
use Rattle.blsm_model.specs.declared.component.Component.{Component}
use Rattle.blsm_model.specs.Format.{least_full}
use Rattle.blsm_model.specs.Sizes.{Sizes}
use Rattle.record_delta.specs.Entries.{Entries, entries_weight}
use Rattle.page_file.specs.declared.file.Broken.{Broken}
use Rattle.page_file.specs.declared.file.Broken.TheVariants.{Fault, Damaged}
use Rattle.page_file.specs.Component.{RunPage, ReadsAs, entries_of, numbers_of}
use Rattle.page_space.specs.Space.{Claims, HasRole, IsFree, KeepsOtherRoles, SpaceState}
use Rattle.bloom_bits.specs.Filter.{HasKeys}
use Rattle.bloom_bits.specs.Guides.{Guide}
use Rattle.run_cursor.specs.Cursor.{CursorState}
use Rattle.tree_runs.specs.declared.guides.PageStart.{PageStart}
use Rattle.tree_runs.specs.Runs.{GuideState, guide_at}
use Rattle.output_reading.specs.Walk.{TakesUp}
use Rattle.tree_reading.specs.Pages.{AreAllowed, BeginsWith, GoesOnBehind, IsDamagedPage}

-- The cursor reads a page next, which was free and has the tag now; or none, and it stays at its page.
pub data IsEntered (cursor : CursorState) (page role n : ℕ) (old new : SpaceState) : Type 0 where
  due : cursor.behind ≡ [] → 0 < cursor.pages → n ≡ cursor.next → IsFree old n → Claims role n old new → IsEntered cursor page role n old new
  on : (cursor.behind ≡ [] → cursor.pages ≡ 0) → n ≡ page → new ≡ old → IsEntered cursor page role n old new

-- Or the page that it reads next isn't free. Where there is no page of that number, the page is refused that it is at.
pub data IsRefused (cursor : CursorState) (page n : ℕ) (space : SpaceState) : Type 0 where
  not_free : cursor.behind ≡ [] → 0 < cursor.pages → n ≡ cursor.next → n < space.pages → (IsFree space n → ⊥) → IsRefused cursor page n space
  nowhere : cursor.behind ≡ [] → 0 < cursor.pages → n ≡ page → space.pages ≤ cursor.next → IsRefused cursor page n space

abbrev pub Enters : CursorState → ℕ → ℕ → SpaceState → SpaceState → Result ℕ Broken → Type 0
Enters cursor page role old new (Ok n) = IsEntered cursor page role n old new
Enters cursor page role old new (Err (Damaged n)) = (new ≡ old) × IsRefused cursor page n old
Enters cursor page role old new (Err Fault) = ⊥

-- only pages of this tag have changed
pub record ChangesOnly (role : ℕ) (old new : SpaceState) : Type 0 where
  pub pages : new.pages ≡ old.pages
  pub pins : new.pins ≡ old.pins
  pub others : KeepsOtherRoles role old new

-- The component reads as these pages, which just these earlier ones and they take up, and they have the tag.
pub record IsWalked (sizes : Sizes) (run : Component) (bases_only : Bool) (earlier : List ℕ) (role : ℕ) (old new : SpaceState) (file : List ℕ) : Type 0 where
  pub pages : List RunPage
  pub reads : ReadsAs sizes run pages file
  pub allowed : AreAllowed bases_only (entries_of pages)
  pub takes : TakesUp (earlier ++ numbers_of pages) new
  pub tags : (k : ℕ) → HasRole new role k ↔ (HasRole old role k ⊎ Contains (numbers_of pages) k)

-- The page goes on, and with it entries and weight are no more than the component has; where it isn't the last one, weight is left to fill all pages
-- behind it but the last.
pub record GoesOnWithin (sizes : Sizes) (run : Component) (bases_only : Bool) (pages : List RunPage) (n : ℕ) (next : Option ℕ) (entries : Entries) (file : List ℕ) : Type 0 where
  pub goes_on : GoesOnBehind sizes run bases_only pages n next entries file
  pub few : length (entries_of pages) + length entries ≤ run.entries
  pub light : entries_weight (entries_of pages) + entries_weight entries ≤ run.weight
  pub enough : IsSome next → entries_weight (entries_of pages) + entries_weight entries + least_full * (run.pages - (length pages + 2)) ≤ run.weight

-- Where a walk stops that counts them down: at the damaged page, or before it, at the first one with which they are more than that, or leave too
-- little for the pages behind.
pub record IsStoppedAt (sizes : Sizes) (run : Component) (bases_only : Bool) (earlier : List ℕ) (n : ℕ) (file : List ℕ) : Type 0 where
  pub pages : List RunPage
  pub begins : BeginsWith sizes run bases_only earlier pages n file
  pub more : length pages < run.pages
  pub stopped : Contains (earlier ++ numbers_of pages) n ⊎ ((next : Option ℕ) (entries : Entries) → GoesOnWithin sizes run bases_only pages n next entries file → ⊥)

-- What one such walk tells. After a fault nobody knows.
abbrev pub TellsStop : Sizes → Component → Bool → List ℕ → ℕ → SpaceState → SpaceState → List ℕ → Result (Unit {0}) Broken → Type 0
TellsStop sizes run bases_only earlier role old new file (Ok done) = IsWalked sizes run bases_only earlier role old new file
TellsStop sizes run bases_only earlier role old new file (Err (Damaged n)) = IsStoppedAt sizes run bases_only earlier n file
TellsStop sizes run bases_only earlier role old new file (Err Fault) = ⊤

-- What a refusal says of a component: this is its first page at which it doesn't read. After a fault nobody knows.
abbrev pub TellsBroken : Sizes → Component → Bool → List ℕ → List ℕ → Broken → Type 0
TellsBroken sizes run bases_only earlier file (Damaged n) = IsDamagedPage sizes run bases_only earlier n file
TellsBroken sizes run bases_only earlier file Fault = ⊤

-- what an answer says of a component: it was walked, or why not
abbrev pub TellsPages : Sizes → Component → Bool → List ℕ → ℕ → SpaceState → SpaceState → List ℕ → Result (Unit {0}) Broken → Type 0
TellsPages sizes run bases_only earlier role old new file (Ok done) = IsWalked sizes run bases_only earlier role old new file
TellsPages sizes run bases_only earlier role old new file (Err broken) = TellsBroken sizes run bases_only earlier file broken

-- ---- filters and fences

-- Where the page begins that a cursor over a component reads next, behind the entries that it has given; or it reads none.
abbrev pub StartsAt : Component → CursorState → Option PageStart → Type 0
StartsAt run cursor None = cursor.behind ≡ [] → cursor.pages ≡ 0
StartsAt run cursor (Some start) =
    (cursor.behind ≡ []) × (0 < cursor.pages) × (start ≡ record {
      page = cursor.next;
      entries = run.entries - cursor.entries;
      weight = run.weight -
          cursor.weight;
    })

-- The filter and the fences of this tag have nothing, and there is room for as many fences as the component has pages.
pub record IsClear (run : Component) (tag : ℕ) (guides : List GuideState) : Type 0 where
  pub below : tag < length guides
  pub none : HasKeys (guide_at guides tag).filter []
  pub no_fences : (guide_at guides tag).fences.list ≡ []
  pub room : run.pages ≤ (guide_at guides tag).fences.reserved

-- they are those of these pages
abbrev pub IsGuideAt : ℕ → List GuideState → List RunPage → Type 0
IsGuideAt tag guides pages = Guide (guide_at guides tag).filter (guide_at guides tag).fences pages
