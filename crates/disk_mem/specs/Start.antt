-- How a disk in memory begins.
use Rattle.std.specs.Prelude.{◌≡◌, ℕ, IsTrue, List}
use Rattle.disk_trait.specs.Disk.{DiskState, Only}

-- it reads as these bytes, a crash leaves them and nothing else, and no call was made
pub record StartsAs (bytes : List ℕ) (s : DiskState) : Type 0 where
  pub bytes_are : s.bytes ≡ bytes
  pub image : s.images bytes
  pub only : Only bytes s.images
  pub tells_bytes : IsTrue s.tells_bytes
  pub tells_images : IsTrue s.tells_images
  pub honest : IsTrue s.is_honest
  pub clock : s.clock ≡ 0
  pub faults : s.faults ≡ 0
