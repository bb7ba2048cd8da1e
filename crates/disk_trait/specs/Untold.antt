-- A disk that tells nothing but how often it was called and has failed, as a real file.
use Rattle.std.specs.Prelude.{ℕ, true, false, IsTrue, []}
use Rattle.disk_trait.specs.Disk.{DiskState}
use Rattle.disk_trait.specs.Moments.{IsTimed}

abbrev pub untold_state : ℕ → ℕ → DiskState
untold_state calls faults = record {
  tells_bytes = false;
  bytes = [];
  tells_images = false;
  images = λ _. ⊥;
  images_since = λ _ _. ⊥;
  is_noted = true;
  clock = calls;
  synced_at = λ _. ⊥;
  is_honest = false;
  faults = faults;
  sure_up_to = 0;
}

pub untold_timed : (calls faults : ℕ) → IsTimed (untold_state calls faults)
untold_timed calls faults = record { counts_now = λ t c le here. here; only_now = λ c left. left; since_earlier = λ t u c le left. left; synced_by_now = λ t at. absurd at }

-- It has no image, so none that it doesn't read as.
pub untold_as_read : (calls faults : ℕ) → IsTrue (untold_state calls faults).is_honest → IsTrue (untold_state calls faults).tells_images → (untold_state calls faults).images (untold_state calls faults).bytes
untold_as_read calls faults honest tells = absurd (cc)
