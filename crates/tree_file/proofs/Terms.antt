-- What only lemmas say: no clause names these.
use Rattle.std.specs.Prelude.{◌⊎◌, ℕ, ◌<◌, Bool, IsTrue}
use Rattle.disk_trait.specs.Disk.{DiskState}
use Rattle.disk_trait.specs.Moments.{LeavesOnly}
use Rattle.disk_trait.specs.Region.{Region, span, AreApart}
use Rattle.blsm_model.specs.Sizes.{Sizes}
use Rattle.blsm_model.specs.Geometry.{file_length}
use Rattle.blsm_model.specs.Lanes.{a_of, b_of}
use Rattle.page_file.specs.File.{pages_region}
use Rattle.gated_log.specs.Lane.{lane_region}
use Rattle.catalog_swap.specs.Slots.{slot_of, slot_length}
use Rattle.store_file.specs.Layout.{superblock_length}
use Rattle.tree_file.specs.Tree.{Tree, HoldsTree, kept_pages}
use Rattle.tree_file.specs.Places.{StandsOn}

-- what opening reads of the tree, but for the slots: the superblock, both lanes, and the pages of the components and of the deep merge's progress
abbrev pub body_region : Sizes → Tree → Region
body_region sizes tree =
    λ i. span 0 superblock_length i
    ⊎ (lane_region sizes (a_of tree.catalogue.lanes) i
    ⊎ (lane_region sizes (b_of tree.catalogue.lanes) i
    ⊎ pages_region sizes (kept_pages tree) i))

-- a region of the file in which bytes may change and the tree's body stays
pub record IsBesideBody (sizes : Sizes) (tree : Tree) (region : Region) : Type 0 where
  pub apart : AreApart region (body_region sizes tree)
  pub inside : (i : ℕ) → region i → i < file_length sizes

-- and the slots, too
pub record IsBeside (sizes : Sizes) (tree : Tree) (region : Region) : Type 0 where
  pub body : IsBesideBody sizes tree region
  pub slots : (version : ℕ) → AreApart region (span (slot_of version) slot_length)

-- What a run of calls leaves of a tree that stood: the tree, at each moment and as the disk reads; once it is done, it stands.
pub record Stays (sizes : Sizes) (tree : Tree) (done : Bool) (old new : DiskState) : Type 0 where
  pub each : LeavesOnly old new (HoldsTree sizes tree)
  pub reads : HoldsTree sizes tree new.bytes
  pub stands : IsTrue done → StandsOn sizes tree new
