-- What every image has, over a run of calls of a disk.
use Rattle.std.specs.Prelude.{◌<◌, ◌⊎◌, ℕ, ◌≤◌, List}
use Rattle.disk_trait.specs.Disk.{DiskState}

-- What the trait promises of each of its states.
pub record IsTimed (d : DiskState) : Type 0 where
  -- now counts among the moments since an earlier one
  pub counts_now : (t : ℕ) (c : List ℕ) → t ≤ d.clock → d.images c → d.images_since t c
  -- since now there is no other moment
  pub only_now : (c : List ℕ) → d.images_since d.clock c → d.images c
  -- what a crash might have left since a moment, it might have left since an earlier one
  pub since_earlier : (t u : ℕ) (c : List ℕ) → t ≤ u → d.images_since u c → d.images_since t c
  -- no sync has ended well later than now
  pub synced_by_now : (t : ℕ) → d.synced_at t → t ≤ d.clock

-- a crash at any moment since old leaves a file that has P
pub record LeavesOnly (old new : DiskState) (P : List ℕ → Type 0) : Type 0 where
  pub later : old.clock ≤ new.clock
  pub each : (c : List ℕ) → new.images_since old.clock c → P c
  -- for a run that began earlier
  pub before : (t : ℕ) (c : List ℕ) → t ≤ old.clock → new.images_since t c → old.images_since t c ⊎ P c

-- a crash at any moment since the first sync after old that ended well leaves a file that has P
pub record LeavesOnlyOnceSynced (old new : DiskState) (P : List ℕ → Type 0) : Type 0 where
  pub later : old.clock ≤ new.clock
  pub each : (t : ℕ) (c : List ℕ) → old.clock < t → new.synced_at t → new.images_since t c → P c
  -- for a run that began earlier
  pub before : (t : ℕ) → new.synced_at t → old.synced_at t ⊎ (old.clock < t)

-- a file from before, or one that has P
abbrev pub IsOldOr : (List ℕ → Type 0) → (List ℕ → Type 0) → List ℕ → Type 0
IsOldOr before P file = before file ⊎ P file

-- a sync has ended well since then
abbrev pub HasSynced : DiskState → DiskState → Type 0
HasSynced old new = (t : ℕ) × (old.clock < t) × new.synced_at t

-- As long as no sync has ended well, a crash leaves what it might have left before.
abbrev pub IsUnwritten : DiskState → DiskState → Type 0
IsUnwritten old new = LeavesOnly old new old.images ⊎ HasSynced old new

-- each sync that ended well did so before, or since then; those from before stay
pub record SyncsLater (old new : DiskState) : Type 0 where
  pub none_else : (t : ℕ) → new.synced_at t → old.synced_at t ⊎ (old.clock < t)
  pub none_lost : (t : ℕ) → old.synced_at t → new.synced_at t
