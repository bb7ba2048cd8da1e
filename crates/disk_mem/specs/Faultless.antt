-- A disk in memory that tells its bytes and no images.
use Rattle.std.specs.Prelude.{◌<◌, ◌⊎◌, ℕ, ◌+◌, true, false, IsTrue, List, length}
use Rattle.refusal.specs.Count.{next_count}
use Rattle.disk_trait.specs.Disk.{DiskState}
use Rattle.disk_trait.specs.Moments.{IsTimed}

-- how it reads, how many calls it has answered, how often it has failed, and up to which offset it may be written
pub record Faultless : Type 0 where
  pub bytes : List ℕ
  pub calls : ℕ
  pub faults : ℕ
  pub limit : ℕ

abbrev pub faultless_state : Faultless → DiskState
faultless_state d = record {
  tells_bytes = true;
  bytes = d.bytes;
  tells_images = false;
  images = λ _. ⊥;
  images_since = λ _ _. ⊥;
  is_noted = true;
  clock = d.calls;
  synced_at = λ _. ⊥;
  is_honest = true;
  faults = d.faults;
  sure_up_to = d.limit;
}

pub faultless_timed : (d : Faultless) → IsTimed (faultless_state d)
faultless_timed d = record { counts_now = λ t c le here. here; only_now = λ c left. left; since_earlier = λ t u c le left. left; synced_by_now = λ t at. absurd at }

-- one call more
abbrev pub called : Faultless → Faultless
called d = record d { calls = next_count d.calls }

-- a write fails where it begins past the bytes or ends past the limit
abbrev pub FailsToWrite : ℕ → ℕ → Faultless → Type 0
FailsToWrite at n d = (length d.bytes < at) ⊎ (d.limit < at + n)

-- It tells no image.
pub faultless_as_read : (d : Faultless) → IsTrue (faultless_state d).is_honest → IsTrue (faultless_state d).tells_images → (faultless_state d).images (faultless_state d).bytes
faultless_as_read d honest tells = absurd (cc)
