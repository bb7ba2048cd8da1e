-- Fences: the first key of each page of a sorted run, with the page's number, and how many entries of which weight stand before it.
use Rattle.std.specs.Prelude.{◌≡◌, ◌≢◌, ℕ, ◌≤◌, List, ◌∷◌, ◌++◌, length}
use Rattle.std.specs.List.{All, AllPairs}
use Rattle.std.specs.declared.cmp.Ordering.TheVariants.{Less}
use Rattle.blsm_model.specs.declared.key.Key.{Key}
use Rattle.blsm_model.specs.Keys.{key_cmp}
use Rattle.bloom_bits.specs.declared.fences.Fence.{Fence}

-- How many fences there may be, and those that there are.
pub record FencesState : Type 0 where
  pub reserved : ℕ
  pub list : List Fence

-- the key is below each of these first keys, and it is above each
abbrev pub IsBelowAll : Key → List Fence → Type 0
IsBelowAll key fences = All (λ f. key_cmp key f.first ≡ Less) fences

abbrev pub IsAboveAll : Key → List Fence → Type 0
IsAboveAll key fences = All (λ f. key_cmp f.first key ≡ Less) fences

-- This page is the only one that can have the key: its first key isn't above it, and that of each page behind it is.
pub record IsPlaceOf (key : Key) (page : ℕ) (fences : List Fence) : Type 0 where
  pub before : List Fence
  pub fence : Fence
  pub behind : List Fence
  pub parts : fences ≡ before ++ fence ∷ behind
  pub is_page : fence.page ≡ page
  pub not_below : key_cmp key fence.first ≢ Less
  pub below_others : IsBelowAll key behind

-- what always holds of fences: their keys strictly rise, and there is room for them and as many as there may be
pub record AreFences (fences : List Fence) (reserved places : ℕ) : Type 0 where
  pub rise : AllPairs (λ f g. key_cmp f.first g.first ≡ Less) fences
  pub fits : length fences ≤ reserved
  pub room : reserved ≤ places
