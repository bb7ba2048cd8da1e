-- What filters and fences keep while the keys of a run's pages are noted, as these are read.
use Rattle.std.specs.Prelude.{◌≡◌, ℕ, ◌+◌, ◌<◌, List, [], ◌∷◌, ◌++◌, length, Option, None, IfSome}
use Rattle.blsm_model.specs.declared.key.Key.{Key}
use Rattle.bloom_bits.specs.declared.fences.Fence.{Fence}
use Rattle.bloom_bits.specs.Fences.{IsAboveAll}
use Rattle.bloom_bits.specs.Filter.{HasKeys}
use Rattle.catalog_swap.specs.declared.catalog.Catalog.{Catalog}
use Rattle.tree_runs.specs.declared.guides.PageStart.{PageStart}
use Rattle.tree_runs.specs.Runs.{GuideState, IsReserved, first_tags, guide_at}
use Rattle.tree_runs.specs.Holding.{KeepsOtherGuides}

-- where there are pairs at all, those of C1, C1' and C2 have room for these as the catalogue has them, and that of a deep merge's run for both
pub record AreRooms (catalogue : Catalog) (guides : List GuideState) : Type 0 where
  pub c1 : first_tags.c1 < length guides → IsReserved catalogue.c1.weight (guide_at guides first_tags.c1)
  pub c1x : first_tags.c1x < length guides → IsReserved catalogue.c1x.weight (guide_at guides first_tags.c1x)
  pub c2 : first_tags.c2 < length guides → IsReserved catalogue.c2.weight (guide_at guides first_tags.c2)
  pub deep : first_tags.deep < length guides → IsReserved (catalogue.c1x.weight + catalogue.c2.weight) (guide_at guides first_tags.deep)

-- the tag's pair has changed alone, and each has as much room as it had
pub record KeepsRooms (tag : ℕ) (old new : List GuideState) : Type 0 where
  pub many : length new ≡ length old
  pub others : KeepsOtherGuides tag old new
  pub bits : (guide_at new tag).filter.reserved ≡ (guide_at old tag).filter.reserved
  pub fences : (guide_at new tag).fences.reserved ≡ (guide_at old tag).fences.reserved

-- each tag's pair has as much room as it had
pub record HasSameRoom (old new : List GuideState) : Type 0 where
  pub many : length new ≡ length old
  pub bits : (tag : ℕ) → (guide_at new tag).filter.reserved ≡ (guide_at old tag).filter.reserved
  pub fences : (tag : ℕ) → (guide_at new tag).fences.reserved ≡ (guide_at old tag).fences.reserved

-- the fence of a page that begins with this key
abbrev pub fence_at : Key → PageStart → Fence
fence_at key start = record { first = key; page = start.page; entries = start.entries; weight = start.weight }

-- The filter has one key more, among as many bits. Where a page begins with it the fences have that page's, if there is room for it and the key is above the others'.
pub record Notes (key : Key) (start : Option PageStart) (old new : GuideState) : Type 0 where
  pub keys : (keys : List Key) → HasKeys old.filter keys → HasKeys new.filter (keys ++ key ∷ [])
  pub size : length new.filter.bits ≡ length old.filter.bits
  pub none : start ≡ None → new.fences ≡ old.fences
  pub some : IfSome start (λ s. length old.fences.list < old.fences.reserved → IsAboveAll key old.fences.list → new.fences.list ≡ old.fences.list ++
      fence_at key s ∷ [])
  pub bits : new.filter.reserved ≡ old.filter.reserved
  pub fences : new.fences.reserved ≡ old.fences.reserved
