-- What making a store answers, and what it leaves.
use Rattle.std.specs.Prelude.{◌≡◌, ◌⊎◌, ℕ, ◌<◌, ◌≤◌, IsTrue, List, length}
use Rattle.disk_trait.specs.Disk.{DiskState}
use Rattle.disk_trait.specs.Reads.{OnlyReads}
use Rattle.blsm_model.specs.Sizes.{Sizes}
use Rattle.blsm_model.specs.Geometry.{file_length}
use Rattle.store_file.specs.Layout.{IsStore}
use Rattle.tree_file.specs.Tree.{HoldsTree, first_tree}

-- The file is a store of these sizes that reads as the empty map, by its first catalogue.
abbrev pub IsEmptyStore : Sizes → List ℕ → Type 0
IsEmptyStore sizes file = HoldsTree sizes first_tree file

-- A file that is no store or an empty one of these sizes, and that isn't longer than such a store.
pub record IsEmptyOrNone (sizes : Sizes) (file : List ℕ) : Type 0 where
  pub store : (¬ (IsStore file)) ⊎ IsEmptyStore sizes file
  pub no_longer : length file ≤ file_length sizes

-- The disk had so many bytes, and was only looked at.
pub record WasNotEmpty (n : ℕ) (old new : DiskState) : Type 0 where
  pub some : 0 < n
  pub length_is : IsTrue old.tells_bytes → n ≡ length old.bytes
  pub looked : OnlyReads 0 1 old new

-- the disk reads as an empty store, and so does each image
pub record IsMadeEmpty (sizes : Sizes) (d : DiskState) : Type 0 where
  pub reads : IsEmptyStore sizes d.bytes
  pub each : (c : List ℕ) → d.images c → IsEmptyStore sizes c
