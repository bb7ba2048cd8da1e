-- What is read of the pages of a component.
use Rattle.std.specs.Prelude.{◌≡◌, ◌↔◌, ◌⊎◌, ℕ, ◌+◌, ◌<◌, ◌≤◌, Bool, true, false, List, ◌++◌, length, nat_eq, Option, Some, IsSome, ⊤}
use Rattle.std.specs.List.{Contains, IsDistinct}
use Rattle.blsm_model.specs.declared.component.Component.{Component}
use Rattle.blsm_model.specs.Sizes.{Sizes}
use Rattle.blsm_model.specs.Geometry.{page_count}
use Rattle.record_delta.specs.Entries.{Entries, entries_weight}
use Rattle.page_file.specs.Entry.{AreRising}
use Rattle.page_file.specs.Page.{page_number, IsPageOf}
use Rattle.page_file.specs.File.{page_at}
use Rattle.page_file.specs.Component.{RunPage, AreChained, entries_of, first_number, numbers_of}
use Rattle.tree_machine.specs.Layers.{AreBases}

-- the entries that a component may have: any, or bases only
abbrev pub AreAllowed : Bool → Entries → Type 0
AreAllowed true entries = AreBases entries
AreAllowed false entries = ⊤

-- In this file the component begins with these pages, behind which the page of this number comes: each is valid and names the next one, keys
-- rise, the entries may be the component's, and none of the pages is met twice, also not among earlier ones.
pub record BeginsWith (sizes : Sizes) (run : Component) (bases_only : Bool) (earlier : List ℕ) (pages : List RunPage) (next : ℕ) (file : List ℕ) : Type 0 where
  pub first_is : page_number (first_number pages (Some next)) ≡ run.first
  pub chained : AreChained sizes pages (Some next) file
  pub rise : AreRising (entries_of pages)
  pub apart : IsDistinct nat_eq (earlier ++ numbers_of pages)
  pub allowed : AreAllowed bases_only (entries_of pages)
  pub pages_few : length pages ≤ run.pages

-- In this file the page of this number is a valid one with these entries and this next page, and goes on behind these pages: keys rise, it
-- has a next page where it isn't the component's last one, its entries may be the component's, and at the last page entries and weight of
-- all are just what the component has.
pub record GoesOnBehind (sizes : Sizes) (run : Component) (bases_only : Bool) (pages : List RunPage) (n : ℕ) (next : Option ℕ) (entries : Entries) (file : List ℕ) : Type 0 where
  pub inside : n < page_count sizes
  pub valid : IsPageOf (page_count sizes) next entries (page_at sizes n file)
  pub rise : AreRising (entries_of pages ++ entries)
  pub follows : IsSome next ↔ (length pages + 1 < run.pages)
  pub all : length pages + 1 ≡ run.pages → (length (entries_of pages) + length entries ≡ run.entries) × (entries_weight (entries_of pages) + entries_weight entries ≡ run.weight)
  pub allowed : AreAllowed bases_only entries

-- This is the first page at which the component doesn't read, where these were read earlier: it is met again, or doesn't go on.
pub record IsDamagedPage (sizes : Sizes) (run : Component) (bases_only : Bool) (earlier : List ℕ) (n : ℕ) (file : List ℕ) : Type 0 where
  pub pages : List RunPage
  pub begins : BeginsWith sizes run bases_only earlier pages n file
  pub more : length pages < run.pages
  pub damaged : Contains (earlier ++ numbers_of pages) n ⊎ ((next : Option ℕ) (entries : Entries) → GoesOnBehind sizes run bases_only pages n next entries file → ⊥)
