-- The calls of a disk in memory, and what a crash at each moment may leave.
use Rattle.std.specs.Prelude.{◌≡◌, ◌⊎◌, ◌≤◌, ℕ, zero, suc, true, false, if◌then◌else◌, nat_le, List, [], ◌∷◌, length, refl}
use Rattle.std.proofs.Common.{inr, arith}
use Rattle.std.proofs.lemmas.Bool.Decides.{nat_tests}
use Rattle.disk_trait.specs.Disk.{overwritten, Torn}
use Rattle.disk_trait.specs.Parts.{torn_overwritten, torn_same}

-- one call: a write that was done, a write that failed, a sync that ended well, or any other, which changes nothing
pub data Event : Type 0 where
  wrote : ℕ → List ℕ → Event
  tore : ℕ → List ℕ → Event
  synced : Event
  passed : Event

-- the bytes as they read, the bytes at the last sync that ended well, and the writes since, each with its offset, those that failed too, the newest first
pub record Medium : Type 0 where
  pub bytes : List ℕ
  pub base : List ℕ
  pub writes : List (ℕ × List ℕ)

-- a medium that holds these bytes, all of them synced
abbrev pub fresh : List ℕ → Medium
fresh bytes = record { bytes = bytes; base = bytes; writes = [] }

abbrev pub after : Event → Medium → Medium
after (wrote at bytes) m = if nat_le at (length m.bytes) then record { bytes = overwritten m.bytes at bytes; base = m.base; writes = (at, bytes) ∷ m.writes } else m
after (tore at bytes) m = record { bytes = m.bytes; base = m.base; writes = (at, bytes) ∷ m.writes }
after synced m = fresh m.bytes
after passed m = m

abbrev pub replay : Medium → List Event → Medium
replay m [] = m
replay m (e ∷ es) = replay (after e m) es

-- what a crash may leave: the base, torn by each write since
abbrev pub MayLeave : List ℕ → List (ℕ × List ℕ) → List ℕ → Type 0
MayLeave base [] c = c ≡ base
MayLeave base (w ∷ writes) c = (d : List ℕ) × MayLeave base writes d × Torn w.0 (length w.1) d c

abbrev pub IsImage : Medium → List ℕ → Type 0
IsImage m c = MayLeave m.base m.writes c

-- What a crash after t of the events or more might have left.
abbrev pub LeftSince : Medium → List Event → ℕ → List ℕ → Type 0
LeftSince m [] t c = IsImage m c
LeftSince m (e ∷ es) zero c = IsImage m c ⊎ LeftSince (after e m) es zero c
LeftSince m (e ∷ es) (suc t) c = LeftSince (after e m) es t c

abbrev pub IsSync : Event → Type 0
IsSync synced = Unit {0}
IsSync e = ⊥

-- The event of this number, counted from 1, is a sync that ended well.
abbrev pub IsSyncAt : List Event → ℕ → Type 0
IsSyncAt [] t = ⊥
IsSyncAt (e ∷ es) zero = ⊥
IsSyncAt (e ∷ es) (suc zero) = IsSync e
IsSyncAt (e ∷ es) (suc (suc t)) = IsSyncAt es (suc t)

-- now counts among the moments since any
pub left_now : (m : Medium) (es : List Event) (t : ℕ) (c : List ℕ) → IsImage (replay m es) c → LeftSince m es t c
left_now m [] t c here = here
left_now m (e ∷ es) zero c here = inr (left_now (after e m) es zero c here)
left_now m (e ∷ es) (suc t) c here = left_now (after e m) es t c here

-- since the last event there is no other moment
pub left_only_now : (m : Medium) (es : List Event) (t : ℕ) (c : List ℕ) → length es ≤ t → LeftSince m es t c → IsImage (replay m es) c
left_only_now m [] t c le left = left
left_only_now m (e ∷ es) zero c le left = absurd (omega arith)
left_only_now m (e ∷ es) (suc t) c le left = left_only_now (after e m) es t c (omega arith) left

-- what might be left since a moment might be left since an earlier one
pub left_earlier : (m : Medium) (es : List Event) (t u : ℕ) (c : List ℕ) → t ≤ u → LeftSince m es u c → LeftSince m es t c
left_earlier m [] t u c le left = left
left_earlier m (e ∷ es) zero zero c le left = left
left_earlier m (e ∷ es) zero (suc u) c le left = inr (left_earlier (after e m) es zero u c (omega arith) left)
left_earlier m (e ∷ es) (suc t) zero c le left = absurd (omega arith)
left_earlier m (e ∷ es) (suc t) (suc u) c le left = left_earlier (after e m) es t u c (omega arith) left

pub sync_bound : (es : List Event) (t : ℕ) → IsSyncAt es t → t ≤ length es
sync_bound [] t at = absurd at
sync_bound (e ∷ es) zero at = absurd at
sync_bound (e ∷ es) (suc zero) at = omega arith
sync_bound (e ∷ es) (suc (suc t)) at = omega (arith, sync_bound es (suc t) at)

-- the bytes as they read are one of the images
keeps_as_read : (e : Event) (m : Medium) → IsImage m m.bytes → IsImage (after e m) (after e m).bytes
keeps_as_read (wrote at bytes) m here =
    elim (nat_le at (length m.bytes)) as (λ b. nat_le at (length m.bytes) ≡ b
    → IsImage (if b then record { bytes = overwritten m.bytes at bytes; base = m.base; writes = (at, bytes) ∷ m.writes } else m)
    (if b then record { bytes = overwritten m.bytes at bytes; base = m.base; writes = (at, bytes) ∷ m.writes } else m).bytes) [
      | true ↦ λ fits. (m.bytes, here, torn_overwritten m.bytes at bytes (grind (arith, nat_tests)))
      | false ↦ λ _. here
    ] refl
keeps_as_read (tore at bytes) m here = (m.bytes, here, torn_same at (length bytes) m.bytes)
keeps_as_read synced m here = refl
keeps_as_read passed m here = here

pub as_read : (m : Medium) (es : List Event) → IsImage m m.bytes → IsImage (replay m es) (replay m es).bytes
as_read m [] here = here
as_read m (e ∷ es) here = as_read (after e m) es (keeps_as_read e m here)
