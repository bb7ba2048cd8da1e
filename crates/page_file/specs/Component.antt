-- A component: a sorted run of entries on pages, each of which names the next one.
use Rattle.std.specs.Prelude.{◌≡◌, ℕ, ◌<◌, List, [], ◌∷◌, ◌++◌, length, map, nat_eq, Option, Some, None, ⊤}
use Rattle.std.specs.List.{IsDistinct}
use Rattle.blsm_model.specs.declared.component.Component.{Component}
use Rattle.blsm_model.specs.Sizes.{Sizes}
use Rattle.blsm_model.specs.Geometry.{page_count}
use Rattle.record_delta.specs.Entries.{Entries, entries_weight}
use Rattle.page_file.specs.Entry.{AreRising}
use Rattle.page_file.specs.Page.{page_number, IsPageOf}
use Rattle.page_file.specs.File.{page_at}

-- a page of a run: its number, and its entries
pub record RunPage : Type 0 where
  pub number : ℕ
  pub entries : Entries

abbrev pub numbers_of : List RunPage → List ℕ
numbers_of pages = map (λ p. p.number) pages

-- one page's behind another's
abbrev pub entries_of : List RunPage → Entries
entries_of [] = []
entries_of (p ∷ ps) = p.entries ++ entries_of ps

-- the number of the first page; where there are no pages, the one that comes behind them
abbrev pub first_number : List RunPage → Option ℕ → Option ℕ
first_number [] end = end
first_number (p ∷ ps) end = Some p.number

-- In this file these are valid pages with these entries. Each one's next page is the one behind it, and the last one's this.
abbrev pub AreChained : Sizes → List RunPage → Option ℕ → List ℕ → Type 0
AreChained sizes [] end file = ⊤
AreChained sizes (p ∷ ps) end file =
    (p.number < page_count sizes) × IsPageOf (page_count sizes) (first_number ps end) p.entries (page_at sizes p.number file) × AreChained sizes ps end file

-- In this file the run reads as the entries of these pages, of which the last one names this next page; where there are none, it is the run's first.
pub record ReadsOn (sizes : Sizes) (run : Component) (pages : List RunPage) (next : Option ℕ) (file : List ℕ) : Type 0 where
  -- from the first page on each names the one behind it
  pub first_is : page_number (first_number pages next) ≡ run.first
  pub chained : AreChained sizes pages next file
  -- the keys strictly rise, over the page ends too
  pub rise : AreRising (entries_of pages)
  -- no page is met twice
  pub apart : IsDistinct nat_eq (numbers_of pages)
  -- the numbers are those of the pages
  pub pages_is : length pages ≡ run.pages
  pub entries_is : length (entries_of pages) ≡ run.entries
  pub weight_is : entries_weight (entries_of pages) ≡ run.weight

-- In this file the component reads as the entries of these pages: only the last one has no next one.
abbrev pub ReadsAs : Sizes → Component → List RunPage → List ℕ → Type 0
ReadsAs sizes component pages file = ReadsOn sizes component pages None file

-- In this file the component reads as this list of keys with their records.
pub record HasList (sizes : Sizes) (component : Component) (entries : Entries) (file : List ℕ) : Type 0 where
  pub pages : List RunPage
  pub reads : ReadsAs sizes component pages file
  pub entries_are : entries_of pages ≡ entries
