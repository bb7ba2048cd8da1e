-- What a run of calls of a disk has done, in one word: how many calls there were, which bytes they may have changed, and how it failed.
use Rattle.std.specs.Prelude.{◌≤◌, ℕ, ◌+◌, max, IsTrue, length}
use Rattle.disk_trait.specs.Disk.{DiskState, GoesOn, IsSure}
use Rattle.disk_trait.specs.Moments.{LeavesOnly, SyncsLater}
use Rattle.disk_trait.specs.Region.{Region, IsSameOutside, IsOldOutside}

-- At most so many calls, none of which ends behind this offset. Outside the region no byte changed, as it reads and in each image of each moment.
pub record Affects (region : Region) (end most : ℕ) (old new : DiskState) : Type 0 where
  pub goes_on : GoesOn old new
  pub calls : new.clock ≤ old.clock + most
  pub syncs : SyncsLater old new
  pub one_fault : new.faults ≤ old.faults + 1
  pub sure : IsSure end old new
  pub no_shorter : IsTrue old.tells_bytes → length old.bytes ≤ length new.bytes
  pub no_longer : IsTrue old.tells_bytes → length new.bytes ≤ max (length old.bytes) end
  pub bytes : IsTrue old.is_honest → IsSameOutside region old.bytes new.bytes
  pub images : IsTrue old.is_honest → LeavesOnly old new (IsOldOutside region old.images)
