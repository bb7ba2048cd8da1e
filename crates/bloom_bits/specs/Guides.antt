-- What the filter and the fences of a sorted run say of its pages.
use Rattle.std.specs.Prelude.{◌≡◌, ℕ, ◌+◌, List, [], ◌∷◌, ◌++◌, length}
use Rattle.record_delta.specs.Entries.{Entries, entries_weight}
use Rattle.page_file.specs.Entry.{keys_of}
use Rattle.page_file.specs.Component.{RunPage, entries_of}
use Rattle.bloom_bits.specs.BitSet.{BitState}
use Rattle.bloom_bits.specs.Filter.{HasKeys}
use Rattle.bloom_bits.specs.declared.fences.Fence.{Fence}
use Rattle.bloom_bits.specs.Fences.{FencesState}

-- the fence of a page of this number, before which so many entries of this weight stand; a page has an entry at least
abbrev pub fence_of : (count weight number : ℕ) → Entries → List Fence
fence_of count weight number [] = []
fence_of count weight number (e ∷ es) = record { first = e.0; page = number; entries = count; weight = weight } ∷ []

-- the fences of pages, before which so many entries of this weight stand
abbrev pub fences_from : (count weight : ℕ) → List RunPage → List Fence
fences_from count weight [] = []
fences_from count weight (p ∷ ps) =
    fence_of count weight p.number p.entries ++ fences_from (count + length p.entries) (weight + entries_weight p.entries) ps

-- of all pages of a run
abbrev pub fences_of : List RunPage → List Fence
fences_of pages = fences_from 0 0 pages

-- The filter has the keys of all the pages' entries, and no others; the fences are those of the pages.
pub record Guide (filter : BitState) (fences : FencesState) (pages : List RunPage) : Type 0 where
  pub keys : HasKeys filter (keys_of (entries_of pages))
  pub fences_are : fences.list ≡ fences_of pages

-- both may have as many bits and fences as before, and the filter has so many bits
pub record KeepSized (size : ℕ) (filter filter_after : BitState) (fences fences_after : FencesState) : Type 0 where
  pub bits : filter_after.reserved ≡ filter.reserved
  pub fences_are : fences_after.reserved ≡ fences.reserved
  pub size_is : length filter_after.bits ≡ size

-- it has as many as before
abbrev pub KeepReserves : (filter filter_after : BitState) (fences fences_after : FencesState) → Type 0
KeepReserves filter filter_after fences fences_after = KeepSized (length filter.bits) filter filter_after fences fences_after
