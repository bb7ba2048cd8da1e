-- The numbers of a deep merge's finished pages, and which of the pages departs first. Weights are in bytes.
use Rattle.std.specs.Prelude.{◌≡◌, ◌⊎◌, ◌*◌, ◌<◌, ◌≤◌, ℕ, List, [], ◌∷◌, ◌++◌, length, nat_eq, Some}
use Rattle.std.specs.List.{Contains, IsDistinct}
use Rattle.blsm_model.specs.declared.component.Component.{Component}
use Rattle.blsm_model.specs.Format.{least_full}
use Rattle.blsm_model.specs.Sizes.{Sizes}
use Rattle.blsm_model.specs.Geometry.{page_count}
use Rattle.record_delta.specs.Entries.{Entries}
use Rattle.page_file.specs.Page.{most_used, page_number, IsPageOf}
use Rattle.page_file.specs.File.{page_at}
use Rattle.page_file.specs.Component.{RunPage, AreChained, entries_of, first_number, numbers_of}
use Rattle.catalog_swap.specs.declared.catalog.Progress.{Progress}
use Rattle.tree_file.specs.Output.{IsOutputOf, settled_up_to}

-- the one list begins the other
abbrev pub IsFront : Entries → Entries → Type 0
IsFront front entries = (rest : Entries) × (entries ≡ front ++ rest)

-- On any disk: each finished page weighs nearly as much as it may, and none of them more; and they have no more than was taken of both components,
-- which weigh so much.
pub record IsLight (progress : Progress) (both : ℕ) : Type 0 where
  pub full : least_full * progress.output.pages ≤ progress.output.weight
  pub fits : progress.output.weight ≤ most_used * progress.output.pages
  pub few : progress.output.entries ≤ progress.output.weight
  pub settled : progress.output.weight ≤ progress.z
  pub taken : progress.z ≤ both

-- ---- the first page that departs

-- In this file the run begins with these pages, behind which the page of this number comes: each is valid and names the next one, they have the
-- first of these entries, and none of them is met twice, also not among earlier ones.
pub record BeginsAs (sizes : Sizes) (run : Component) (entries : Entries) (earlier : List ℕ) (pages : List RunPage) (next : ℕ) (file : List ℕ) : Type
    0 where
  pub first_is : page_number (first_number pages (Some next)) ≡ run.first
  pub chained : AreChained sizes pages (Some next) file
  pub apart : IsDistinct nat_eq (earlier ++ numbers_of pages)
  pub front : IsFront (entries_of pages) entries
  pub pages_few : length pages ≤ run.pages

-- In this file the page of this number is a valid one that names this next one, and has the next of the entries behind these pages.
pub record GoesOnAs (sizes : Sizes) (entries : Entries) (pages : List RunPage) (n next : ℕ) (here : Entries) (file : List ℕ) : Type 0 where
  pub inside : n < page_count sizes
  pub valid : IsPageOf (page_count sizes) (Some next) here (page_at sizes n file)
  pub front : IsFront (entries_of pages ++ here) entries

-- Behind pages that are right this one is met again, or doesn't go on.
pub record IsDepartedPage (sizes : Sizes) (run : Component) (entries : Entries) (earlier : List ℕ) (n : ℕ) (file : List ℕ) : Type 0 where
  pub pages : List RunPage
  pub begins : BeginsAs sizes run entries earlier pages n file
  pub more : length pages < run.pages
  pub departs : Contains (earlier ++ numbers_of pages) n ⊎ ((next : ℕ) (here : Entries) → GoesOnAs sizes entries pages n next here file → ⊥)

-- All pages of the run are right, this one is the last of them, and it names that next page.
pub record IsLastPage (sizes : Sizes) (run : Component) (entries : Entries) (earlier : List ℕ) (n : ℕ) (file : List ℕ) : Type 0 where
  pub before : List RunPage
  pub last : RunPage
  pub next : ℕ
  pub begins : BeginsAs sizes run entries earlier (before ++ last ∷ []) next file
  pub all : length (before ++ last ∷ []) ≡ run.pages
  pub number_is : last.number ≡ n

-- Of the finished pages this is the first that departs from what both lists have up to the key: it isn't right; or all are, and this is the last
-- one, and yet they aren't the output, or the next page isn't a new one.
pub data IsDeparted (sizes : Sizes) (progress : Progress) (newer older : Entries) (earlier : List ℕ) (n : ℕ) (file : List ℕ) : Type 0 where
  page : IsDepartedPage sizes progress.output (settled_up_to (Some progress.key) newer older) earlier n file
      → IsDeparted sizes progress newer older earlier n file
  whole : (end : IsLastPage sizes progress.output (settled_up_to (Some progress.key) newer older) earlier n file)
      → (IsOutputOf sizes progress newer older (end.before ++ end.last ∷ []) file
      → Contains (earlier ++ numbers_of (end.before ++ end.last ∷ [])) progress.next)
      → IsDeparted sizes progress newer older earlier n file
