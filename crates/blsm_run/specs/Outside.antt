-- What is seen of one call from outside, but for the text that it writes, and what it did to the shelf.
use Rattle.std.specs.Prelude.{◌≡◌, ◌⊎◌, ◌<◌, ◌≤◌, ℕ, ◌+◌, ◌-◌, ◌^◌, Bool, IsTrue, Some, None, List, [], ◌∷◌, ◌++◌, length}
use Rattle.refusal.specs.Count.{HasRisen}
use Rattle.disk_trait.specs.Disk.{DiskState}
use Rattle.disk_trait.specs.Shelf.{ShelfState, IsFreshCount, KeepsOthers}
use Rattle.text_io.specs.Text.{SourceState}

-- The words, the source and the shelf: before the call and after it.
pub record Outside (D : Type 0) : Type 0 where
  pub words : List (List ℕ)
  pub source : SourceState
  pub source_after : SourceState
  pub shelf : ShelfState D
  pub shelf_after : ShelfState D

abbrev pub outside : {D : Type 0} → List (List ℕ) → SourceState → SourceState → ShelfState D → ShelfState D → Outside D
outside words source source_after shelf shelf_after = record { words = words; source = source; source_after = source_after; shelf = shelf; shelf_after = shelf_after }

-- A count of faults rose, and by one at most: after a call that failed none is made again.
abbrev pub HasRisenOnce : ℕ → ℕ → Type 0
HasRisenOnce old new = HasRisen old new × (new ≤ old + 1)

-- a count that didn't rise, and doesn't stand at the end of its type
abbrev pub IsQuietCount : ℕ → ℕ → Type 0
IsQuietCount old new = (new < 2 ^ 64 - 1) × (new ≡ old)

-- One fetch was made, of the name, with or without leave to make a missing disk: it is noted so where no count rose, and else so or as one that was
-- refused. No other disk changed.
pub record HasFetched {D : Type 0} (name : List ℕ) (fresh : Bool) (old new : ShelfState D) : Type 0 where
  pub fetches : IsTrue old.tells_fetches → length old.fetches < 2 ^ 64 - 1
      → (new.fetches ≡ old.fetches ++ Some (name, fresh) ∷ []) ⊎ (new.fetches ≡ old.fetches ++ None ∷ [])
  pub named : IsTrue old.tells_fetches → length old.fetches < 2 ^ 64 - 1 → IsQuietCount old.faults new.faults → new.fetches ≡ old.fetches ++ Some (name, fresh) ∷ []
  pub others : IsTrue old.tells_disks → KeepsOthers name old new

-- A disk stood under the name, and one stands there again, and this holds of it as it was fetched, its count at 0 and all else as it stood, and as it was
-- given back.
abbrev pub OfTheDisk : {D : Type 0} → (D → DiskState) → List ℕ → ShelfState D → ShelfState D → (DiskState → DiskState → Type 0) → Type 0
OfTheDisk {D} state name old new P = IsTrue old.tells_disks
    → (stood : D) × (first : D) × (last : D) × (old.disk_at name ≡ Some stood) × IsFreshCount (state stood) (state first) × (new.disk_at name ≡ Some last) × P (state first) (state last)
