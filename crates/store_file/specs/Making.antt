-- What making leaves of a disk.
use Rattle.std.specs.Prelude.{◌≡◌, ◌⊎◌, ◌≤◌, ℕ, IsTrue, List, length, ◌+◌, ◌-◌, ◌/◌}
use Rattle.disk_trait.specs.Disk.{DiskState, Only}
use Rattle.disk_trait.specs.Moments.{LeavesOnly, LeavesOnlyOnceSynced, IsOldOr}
use Rattle.gated_write.specs.Gated.{open_byte}
use Rattle.blsm_model.specs.Format.{head_length}
use Rattle.blsm_model.specs.Sizes.{Sizes}
use Rattle.blsm_model.specs.Geometry.{file_length}
use Rattle.store_file.specs.Layout.{IsStore, IsMade, first_file}

-- a file that is no store or one that was just made, and that isn't longer than a store of these sizes
pub record IsHalfMade (sizes : Sizes) (file : List ℕ) : Type 0 where
  pub store : (¬ (IsStore file)) ⊎ IsMade sizes file
  pub no_longer : length file ≤ file_length sizes

-- how many calls of the disk making takes at most: eight, and one for each block that begins behind the first
abbrev pub making_calls : Sizes → ℕ
making_calls sizes = 8 + (file_length sizes - 1) / head_length

-- Each image of each moment is one from before or has P, and since the first sync each has it. So the disk reads.
pub record LeavesOldOr (old new : DiskState) (P : List ℕ → Type 0) : Type 0 where
  pub each : LeavesOnly old new (IsOldOr old.images P)
  pub once_synced : LeavesOnlyOnceSynced old new P
  pub reads : P new.bytes

-- The store was made: the disk has these bytes, which are one, and a crash leaves them.
pub record HasMade (sizes : Sizes) (old new : DiskState) : Type 0 where
  pub bytes : IsTrue old.is_honest → new.bytes ≡ first_file open_byte sizes
  pub made : IsTrue old.is_honest → IsMade sizes new.bytes
  pub durable : IsTrue old.is_honest → Only new.bytes new.images
  pub long : IsTrue old.tells_bytes → length new.bytes ≡ file_length sizes
