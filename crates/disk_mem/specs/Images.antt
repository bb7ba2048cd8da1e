-- Which image a number picks.
use Rattle.std.specs.Prelude.{◌≡◌, ◌≢◌, ◌≤◌, ◌<◌, ℕ, ◌+◌, ◌/◌, ◌%◌, ◌^◌, Bool, true, false, not, nat_eq, nat_lt, nat_le, if◌then◌else◌, Some, List, [], ◌∷◌, ◌++◌, length, take, drop, slice_get, replicate}
use Rattle.disk_trait.specs.Disk.{overwritten}
use Rattle.disk_mem.specs.Events.{Event, wrote, tore, synced, passed}
use Rattle.disk_mem.specs.Recorded.{Change, changed_by, Recorded}

-- What stands in an image of a write of this text, of which so many bytes are kept, where `old` stood before: these bytes; where it is garbled, one byte more that is neither the old nor the new one, or, where all are kept, zeros in their place.
pub data IsPiece (old text : List ℕ) (kept : ℕ) (garbled : Bool) (piece : List ℕ) : Type 0 where
  front : garbled ≡ false → piece ≡ take kept text → IsPiece old text kept garbled piece
  neither : (byte : ℕ) → garbled ≡ true → kept < length text → slice_get old kept ≢ Some byte → slice_get text kept ≢ Some byte → piece ≡ take kept text ++ byte ∷ [] → IsPiece old text kept garbled piece
  zeros : garbled ≡ true → kept ≡ length text → piece ≡ replicate (length text) 0 → IsPiece old text kept garbled piece

-- A piece of the write stands in the image. Where the image ends before the write begins, nothing of it does.
pub data IsTornBy (at : ℕ) (text : List ℕ) (kept : ℕ) (garbled : Bool) (old new : List ℕ) : Type 0 where
  beyond : length old < at → new ≡ old → IsTornBy at text kept garbled old new
  inside : (piece : List ℕ) → at ≤ length old → IsPiece (drop at old) text kept garbled piece → new ≡ overwritten old at piece → IsTornBy at text kept garbled old new

-- The two lowest digits of a number tear a write: the first says how many of its bytes are kept, the second whether it is garbled.
abbrev pub IsTornAs : ℕ → ℕ → List ℕ → List ℕ → List ℕ → Type 0
IsTornAs number at text old new = IsTornBy at text (number % (length text + 1)) (nat_eq (number / (length text + 1) % 2) 1) old new

-- what a number leaves for the writes behind one of so many bytes
abbrev pub others : ℕ → ℕ → ℕ
others number size = number / (size + 1) / 2

-- From 10^18 on a number has four decimal parts: its kind, 12 digits, the place of a write that is torn, and a place.
abbrev pub kind_of : ℕ → ℕ
kind_of number = number / 10 ^ 18

abbrev pub tear_of : ℕ → ℕ
tear_of number = number / 1000000 % 10 ^ 12

abbrev pub torn_place : ℕ → ℕ
torn_place number = number / 1000 % 1000

abbrev pub place_of : ℕ → ℕ
place_of number = number % 1000

-- Which writes stand in whole, counted from 0: those before the place, all but the one there, that one alone.
abbrev pub stands : ℕ → ℕ → ℕ → Bool
stands kind place index = if nat_eq kind 1 then nat_lt index place else if nat_eq kind 2 then not (nat_eq index place) else nat_eq index place

-- The number by whose digits a write of so many bytes is torn. Below 10^18 it is what the writes before it have left of the number that picks.
abbrev pub share : ℕ → ℕ → ℕ → ℕ → ℕ
share number left index size =
    if nat_eq (kind_of number) 0 then left else if nat_eq index (torn_place number) then tear_of number else if stands (kind_of number) (place_of number) index then size else 0

-- what came since the last sync: a write, which a crash may tear, or what somebody else changed before a call, which stays
pub data Pending : Type 0 where
  write : ℕ → List ℕ → Pending
  change : List Change → ℕ → Pending

-- how many writes are among them
abbrev pub writes_in : List Pending → ℕ
writes_in [] = 0
writes_in (write at text ∷ pending) = writes_in pending + 1
writes_in (change changes number ∷ pending) = writes_in pending

-- the bytes as they read, the bytes at the last sync that ended well, and what came since, the newest first
pub record Track : Type 0 where
  pub bytes : List ℕ
  pub base : List ℕ
  pub pending : List Pending

abbrev pub start : List ℕ → Track
start bytes = record { bytes = bytes; base = bytes; pending = [] }

-- what somebody else changed before the call of this number
abbrev pub poked : List Change → ℕ → Track → Track
poked [] number t = t
poked (c ∷ cs) number t = record { bytes = changed_by (c ∷ cs) number t.bytes; base = t.base; pending = change (c ∷ cs) number ∷ t.pending }

abbrev pub called : Event → Track → Track
called (wrote at text) t = if nat_le at (length t.bytes) then record { bytes = overwritten t.bytes at text; base = t.base; pending = write at text ∷ t.pending } else t
called (tore at text) t = record { bytes = t.bytes; base = t.base; pending = write at text ∷ t.pending }
called synced t = start t.bytes
called passed t = t

-- the calls from this number on, and the changes before each
abbrev pub follow : List Change → ℕ → Track → List Event → Track
follow changes number t [] = t
follow changes number t (e ∷ es) = follow changes (number + 1) (called e (poked changes number t)) es

-- The number picks the base, torn by each write, and leaves so much for the writes to come.
abbrev pub Picks : ℕ → ℕ → List ℕ → List Pending → List ℕ → Type 0
Picks number left base [] c = (c ≡ base) × (left ≡ number)
Picks number left base (write at text ∷ pending) c =
    (before : ℕ) × (d : List ℕ) × Picks number before base pending d × IsTornAs (share number before (writes_in pending) (length text)) at text d c × (left ≡ others before (length text))
Picks number left base (change changes call ∷ pending) c = (d : List ℕ) × Picks number left base pending d × (c ≡ changed_by changes call d)

-- the number picks this image of what a disk may leave
abbrev pub IsPickedOf : ℕ → Track → List ℕ → Type 0
IsPickedOf number t c = (left : ℕ) × Picks number left t.base t.pending c

abbrev pub IsPicked : ℕ → Recorded → List ℕ → Type 0
IsPicked number d c = IsPickedOf number (follow d.changes 1 (start d.first) d.events) c
