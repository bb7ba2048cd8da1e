-- What a shelf of named disks holds, and what it notes of its fetches.
use Rattle.std.specs.Prelude.{◌≡◌, ◌≢◌, ◌⊎◌, ◌↔◌, ℕ, Bool, IsTrue, false, Option, Some, None, List, [], ◌∷◌, ◌++◌, Result, MatchResult}
use Rattle.disk_trait.specs.Disk.{DiskState}

-- a fetch as it is noted: the name and whether a missing disk might be made; none where the shelf doesn't hold the disk or has no room to note it
abbrev pub Fetch : Type 0
Fetch = Option (List ℕ × Bool)

pub record ShelfState (D : Type 0) : Type 0 where
  -- whether it tells its disks; the one that stands under a name, and whether one of that name is out
  pub tells_disks : Bool
  pub disk_at : List ℕ → Option D
  pub is_out : List ℕ → Bool
  -- whether it tells its fetches, and these in order
  pub tells_fetches : Bool
  pub fetches : List Fetch
  -- how often it has failed, with the faults of the disks that were given back
  pub faults : ℕ

-- the same disk with its count of faults at 0
pub record IsFreshCount (old new : DiskState) : Type 0 where
  pub faults : new.faults ≡ 0
  pub tells_bytes : new.tells_bytes ≡ old.tells_bytes
  pub bytes : new.bytes ≡ old.bytes
  pub tells_images : new.tells_images ≡ old.tells_images
  pub images : (c : List ℕ) → new.images c ↔ old.images c
  pub images_since : (t : ℕ) (c : List ℕ) → new.images_since t c ↔ old.images_since t c
  pub is_noted : new.is_noted ≡ old.is_noted
  pub clock : new.clock ≡ old.clock
  pub synced_at : (t : ℕ) → new.synced_at t ↔ old.synced_at t
  pub is_honest : new.is_honest ≡ old.is_honest
  pub sure_up_to : new.sure_up_to ≡ old.sure_up_to

-- what stands under each name but this one stays
pub record KeepsOthers {D : Type 0} (name : List ℕ) (old new : ShelfState D) : Type 0 where
  pub disks : (other : List ℕ) → other ≢ name → new.disk_at other ≡ old.disk_at other
  pub out : (other : List ℕ) → other ≢ name → new.is_out other ≡ old.is_out other

-- the disk of this name was taken out
pub record TakesOut {D : Type 0} (state : D → DiskState) (name : List ℕ) (old new : ShelfState D) (disk : D) : Type 0 where
  pub stood : (before : D) × (old.disk_at name ≡ Some before) × IsFreshCount (state before) (state disk)
  pub gone : new.disk_at name ≡ None
  pub out : IsTrue (new.is_out name)
  pub others : KeepsOthers name old new

-- the disk stands under this name, which is no longer out
pub record PutsBack {D : Type 0} (name : List ℕ) (old new : ShelfState D) (disk : D) : Type 0 where
  pub stands : new.disk_at name ≡ Some disk
  pub in_again : new.is_out name ≡ false
  pub others : KeepsOthers name old new

-- nothing was taken out or put back
pub record KeepsDisks {D : Type 0} (old new : ShelfState D) : Type 0 where
  pub disks : (name : List ℕ) → new.disk_at name ≡ old.disk_at name
  pub out : (name : List ℕ) → new.is_out name ≡ old.is_out name

-- One fetch more is noted, by name and flag where it answered Ok.
abbrev pub NotesFetch : {T E : Type 0} → List ℕ → Bool → Result T E → List Fetch → List Fetch → Type 0
NotesFetch name fresh result old new = MatchResult result
    (λ _. new ≡ old ++ Some (name, fresh) ∷ [])
    (λ _. (new ≡ old ++ Some (name, fresh) ∷ []) ⊎ (new ≡ old ++ None ∷ []))

-- What is told stays told.
pub record KeepsTold {D : Type 0} (old new : ShelfState D) : Type 0 where
  pub disks : new.tells_disks ≡ old.tells_disks
  pub fetches : new.tells_fetches ≡ old.tells_fetches
