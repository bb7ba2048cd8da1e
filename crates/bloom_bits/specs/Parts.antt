-- The part of a sorted run from the page on that can have a key.
use Rattle.std.specs.Prelude.{◌≡◌, ◌⊎◌, ℕ, ◌-◌, ◌<◌, ◌≤◌, List, [], ◌++◌, length, take, drop, Option}
use Rattle.std.specs.List.{AllByRecursion}
use Rattle.std.specs.declared.cmp.Ordering.TheVariants.{Less}
use Rattle.blsm_model.specs.declared.component.Component.{Component}
use Rattle.blsm_model.specs.declared.key.Key.{Key}
use Rattle.blsm_model.specs.Keys.{key_cmp}
use Rattle.blsm_model.specs.Sizes.{Sizes}
use Rattle.page_file.specs.Component.{RunPage, ReadsOn, entries_of}
use Rattle.record_delta.specs.declared.record.Rec.{Rec}
use Rattle.bloom_bits.specs.declared.fences.Fence.{Fence}
use Rattle.bloom_bits.specs.Fences.{IsBelowAll, IsPlaceOf}
use Rattle.bloom_bits.specs.Guides.{fences_of}

-- the run from a fence's page on, before which so many pages stand
abbrev pub from_fence : ℕ → Fence → Component → Component
from_fence before fence run =
    record { first = fence.page; pages = run.pages - before; entries = run.entries - fence.entries; weight = run.weight - fence.weight }

-- the fences of a part's pages, which are the last ones of the run: of as many as there are
abbrev pub last_fences : (run part : Component) → List Fence → List Fence
last_fences run part fences = take part.pages (drop (run.pages - part.pages) fences)

-- It is the run from the page on that the fences name for the key; all of it where they name none, or a page behind its last one.
abbrev pub IsPartFrom : Key → List Fence → Component → Component → Type 0
IsPartFrom key fences run part =
    (IsBelowAll key fences × (part ≡ run))
    ⊎ ((page : ℕ) × (place : IsPlaceOf key page fences) × (length place.before < run.pages → part ≡ from_fence (length place.before) place.fence run)
    × (run.pages ≤ length place.before → part ≡ run))

-- these fences are those of the pages; where there are no pages, nobody asks them
abbrev pub AreFencesOf : List Fence → List RunPage → Type 0
AreFencesOf fences pages = (pages ≡ [] → ⊥) → fences ≡ fences_of pages

-- In this file the part reads as these pages of the run from one on, and all entries on those before it are below the key.
pub record ReadsFrom (sizes : Sizes) (key : Key) (part : Component) (pages : List RunPage) (next : Option ℕ) (file : List ℕ) : Type 0 where
  pub before : List RunPage
  pub ahead : List RunPage
  pub parts : pages ≡ before ++ ahead
  pub below : AllByRecursion (λ (e : Key × Rec). key_cmp e.0 key ≡ Less) (entries_of before)
  pub reads : ReadsOn sizes part ahead next file
