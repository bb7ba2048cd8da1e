-- A text behind a gate: one byte that is open only once the text stands.
use Rattle.std.specs.Prelude.{◌≡◌, ◌≢◌, ℕ, ◌+◌, List, [], ◌∷◌, length}
use Rattle.disk_trait.specs.Disk.{DiskState, part}
use Rattle.disk_trait.specs.Moments.{LeavesOnly}
use Rattle.disk_trait.specs.Region.{span, IsOldOutside}

-- the value of an open gate; any other is closed
abbrev pub open_byte : ℕ
open_byte = 1

-- The gate at this offset isn't open.
abbrev pub IsClosed : ℕ → List ℕ → Type 0
IsClosed at file = part file at 1 ≢ open_byte ∷ []

-- the gate is open, and the text stands whole behind it
abbrev pub IsWhole : ℕ → List ℕ → List ℕ → Type 0
IsWhole at text file = part file at (1 + length text) ≡ open_byte ∷ text

-- A file is one of those from before, or one of them with the range torn behind a closed gate, or one of them with the text whole behind an open gate.
pub data IsGated (before : List ℕ → Type 0) (at : ℕ) (text file : List ℕ) : Type 0 where
  untouched : before file → IsGated before at text file
  behind_gate : IsOldOutside (span at (1 + length text)) before file → IsClosed at file → IsGated before at text file
  whole : IsOldOutside (span at (1 + length text)) before file → IsWhole at text file → IsGated before at text file

-- Where the gate was closed, in each image or as the disk read: each image of each moment since, and what the disk reads as now, is one of these.
pub record LeavesGated (at : ℕ) (text : List ℕ) (old new : DiskState) : Type 0 where
  pub each : ((c : List ℕ) → old.images c → IsClosed at c) → LeavesOnly old new (IsGated old.images at text)
  pub reads : IsClosed at old.bytes → IsGated (λ c. c ≡ old.bytes) at text new.bytes
