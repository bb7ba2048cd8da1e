-- What one page of a component says of a key.
use Rattle.std.specs.Prelude.{◌≡◌, ◌⊎◌, ℕ, ◌<◌, ◌≤◌, List, [], ◌∷◌, Option, None}
use Rattle.std.specs.FinMap.{find}
use Rattle.blsm_model.specs.declared.component.Component.{Component}
use Rattle.blsm_model.specs.declared.key.Key.{Key}
use Rattle.blsm_model.specs.Keys.{key_cmp}
use Rattle.blsm_model.specs.Sizes.{Sizes}
use Rattle.blsm_model.specs.Geometry.{page_count}
use Rattle.bloom_bits.specs.BitSet.{BitState}
use Rattle.bloom_bits.specs.declared.fences.Fence.{Fence}
use Rattle.bloom_bits.specs.Fences.{FencesState, IsAboveAll, IsBelowAll, IsPlaceOf}
use Rattle.bloom_bits.specs.Filter.{MayHave}
use Rattle.bloom_bits.specs.Guides.{Guide}
use Rattle.record_delta.specs.declared.record.Rec.{Rec}
use Rattle.record_delta.specs.Entries.{Entries}
use Rattle.page_file.specs.Component.{RunPage}
use Rattle.page_file.specs.Page.{IsPageOf}
use Rattle.page_file.specs.File.{page_at}

-- Filter and fences are those of these pages; where there are none, nobody asks them.
abbrev pub IsGuided : BitState → FencesState → List RunPage → Type 0
IsGuided filter fences pages = (pages ≡ [] → ⊥) → Guide filter fences pages

-- there are entries, and the first one's key is above those of the fences
abbrev pub IsFirstAbove : Entries → List Fence → Type 0
IsFirstAbove [] fences = ⊥
IsFirstAbove (e ∷ es) fences = IsAboveAll e.0 fences

-- in this file the page is a valid one, and what was found is the record that its entries have of the key
pub record IsOnPage (sizes : Sizes) (n : ℕ) (key : Key) (found : Option Rec) (file : List ℕ) : Type 0 where
  pub next : Option ℕ
  pub entries : Entries
  pub inside : n < page_count sizes
  pub valid : IsPageOf (page_count sizes) next entries (page_at sizes n file)
  pub found_is : found ≡ find key_cmp key entries

-- the component has pages, the filter says that it may have the key, and this is the page that the fences name for it
pub record IsAsked (run : Component) (filter : BitState) (fences : FencesState) (key : Key) (n : ℕ) : Type 0 where
  pub pages : run.pages ≡ 0 → ⊥
  pub yes : MayHave filter key
  pub place : IsPlaceOf key n fences.list

-- no page is asked: the component has none, the filter says no, or the key is below each page's first one
abbrev pub NoneAsked : Component → BitState → FencesState → Key → Type 0
NoneAsked run filter fences key = (run.pages ≡ 0) ⊎ (MayHave filter key → ⊥) ⊎ IsBelowAll key fences.list

-- it was found on the page that is asked, by so many calls of the disk, or none is and nothing was found
abbrev pub IsFoundBy : Sizes → Component → BitState → FencesState → Key → Option Rec → ℕ → List ℕ → Type 0
IsFoundBy sizes run filter fences key found calls file =
    (NoneAsked run filter fences key × (found ≡ None) × (calls ≡ 0)) ⊎ ((n : ℕ) × IsAsked run filter fences key n × IsOnPage sizes n key found file × (calls ≤ 1))

-- the page that is asked isn't a valid page of the store
pub record IsDamaged (sizes : Sizes) (run : Component) (filter : BitState) (fences : FencesState) (key : Key) (n : ℕ) (file : List ℕ) : Type 0 where
  pub asked : IsAsked run filter fences key n
  pub damaged : (next : Option ℕ) (entries : Entries) → n < page_count sizes → IsPageOf (page_count sizes) next entries (page_at sizes n file) → ⊥
