-- Regions of a file, and files that are the same outside of one.
use Rattle.std.specs.Prelude.{◌≡◌, ◌<◌, ◌≤◌, ℕ, ◌+◌, List, length}
use Rattle.disk_trait.specs.Disk.{part}

-- a set of offsets
abbrev pub Region : Type 1
Region = ℕ → Type 0

-- n offsets from one on
abbrev pub span : ℕ → ℕ → Region
span at n = λ i. (at ≤ i) × (i < at + n)

abbrev pub nowhere : Region
nowhere = λ i. ⊥

-- all offsets but these
abbrev pub outside : Region → Region
outside region = λ i. region i → ⊥

abbrev pub IsWithin : Region → Region → Type 0
IsWithin small large = (i : ℕ) → small i → large i

abbrev pub AreApart : Region → Region → Type 0
AreApart one other = (i : ℕ) → one i → other i → ⊥

-- no byte is lost, and none outside the region has changed
pub record IsSameOutside (region : Region) (old new : List ℕ) : Type 0 where
  pub no_shorter : length old ≤ length new
  pub bytes : (i : ℕ) → (region i → ⊥) → part new i 1 ≡ part old i 1

-- outside the region the file is one of those from before
abbrev pub IsOldOutside : Region → (List ℕ → Type 0) → List ℕ → Type 0
IsOldOutside region before file = (old : List ℕ) × before old × IsSameOutside region old file
