-- What a run of calls of a disk that only read has done, in one word.
use Rattle.std.specs.Prelude.{ℕ}
use Rattle.disk_trait.specs.Disk.{DiskState, MarksSync, ChangesNothing}
use Rattle.disk_trait.specs.Effects.{Affects}
use Rattle.disk_trait.specs.Region.{nowhere}

-- At most so many calls, none of which ends behind this offset, writes or syncs. The bytes and the images are those from before.
pub record OnlyReads (end most : ℕ) (old new : DiskState) : Type 0 where
  pub effect : Affects nowhere end most old new
  pub same : ChangesNothing old new
  pub no_sync : MarksSync ⊥ old new
