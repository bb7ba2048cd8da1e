-- From one catalogue to the next.
use Rattle.std.specs.Prelude.{◌≡◌, ◌⊎◌, ℕ, ◌+◌, List}
use Rattle.disk_trait.specs.Disk.{DiskState, Only}
use Rattle.disk_trait.specs.Region.{Region, span}
use Rattle.gated_write.specs.Gated.{IsClosed}
use Rattle.blsm_model.specs.Lanes.{region_start, spare_of}
use Rattle.blsm_model.specs.Sizes.{Sizes}
use Rattle.catalog_swap.specs.declared.catalog.Catalog.{Catalog}
use Rattle.catalog_swap.specs.Text.{IsCatalog}
use Rattle.catalog_swap.specs.Slots.{IsNewest, AreSameSlots, other_slot}

-- where the spare lane of a catalogue begins
abbrev pub spare_start : Sizes → Catalog → ℕ
spare_start sizes catalog = region_start sizes (spare_of catalog.lanes)

-- This catalogue is the newest of the disk as it reads, and each image has the slots as they read.
pub record IsSettled (sizes : Sizes) (now : Catalog) (d : DiskState) : Type 0 where
  pub newest : IsNewest sizes now d.bytes
  pub each : (c : List ℕ) → d.images c → AreSameSlots d.bytes c

-- A crash leaves what a read gives, the slot in which the next version will stand is closed, and the spare lane has no entries.
pub record IsPrepared (sizes : Sizes) (now : Catalog) (d : DiskState) : Type 0 where
  pub only : Only d.bytes d.images
  pub older : IsClosed (other_slot now.version) d.bytes
  pub spare : IsClosed (spare_start sizes now) d.bytes

-- It is settled, and the slot in which the next version will stand is closed.
pub record IsReady (sizes : Sizes) (now : Catalog) (d : DiskState) : Type 0 where
  pub settled : IsSettled sizes now d
  pub closed : IsClosed (other_slot now.version) d.bytes

-- what a preparation may write: the gate of the older slot, and the first gate of the spare lane
abbrev pub prepared : Sizes → Catalog → Region
prepared sizes now = λ i. span (other_slot now.version) 1 i ⊎ span (spare_start sizes now) 1 i

-- a catalogue may follow this one
pub record IsNext (sizes : Sizes) (now next : Catalog) : Type 0 where
  pub fits : IsCatalog sizes next
  pub follows : next.version ≡ now.version + 1

-- the newest catalogue is this one or that one
abbrev pub IsEither : Sizes → Catalog → Catalog → List ℕ → Type 0
IsEither sizes now next file = IsNewest sizes now file ⊎ IsNewest sizes next file
