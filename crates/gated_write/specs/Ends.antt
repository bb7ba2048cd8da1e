-- How calls of a disk end that went well, the last of them a sync.
use Rattle.std.specs.Prelude.{◌≡◌, ℕ, ◌+◌, ◌<◌, ◌^◌, IsTrue}
use Rattle.disk_trait.specs.Disk.{DiskState}

-- So many calls, each of which the clock counts as long as it can. Where images are told, the sync is marked: it ended well now, which is later than the begin.
pub record EndsSynced (calls : ℕ) (old new : DiskState) : Type 0 where
  pub exact : old.clock + calls < 2 ^ 64 → new.clock ≡ old.clock + calls
  pub synced : IsTrue old.tells_images → new.synced_at new.clock
  pub later : IsTrue old.tells_images → old.clock < new.clock
