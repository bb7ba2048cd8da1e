-- What each call of a disk, and of a shelf, says: of its answer, and of what was told before and after.
use Rattle.std.specs.Prelude.{◌≡◌, ◌⊎◌, ◌+◌, ◌-◌, ◌^◌, ◌<◌, ◌≤◌, List, ℕ, Bool, false, min, max, length, Result, IsTrue, IsErr, IsOk, IfOk, OnOk, OnErr}
use Rattle.refusal.specs.Count.{HasRisen}
use Rattle.disk_trait.specs.Disk.{DiskState, Passes, MarksSync, WritesNothing, WritesWithin, ChangesNothing, Only, IsSure, KeepsImages, LeavesAnyBytes, part, overwritten}
use Rattle.disk_trait.specs.Shelf.{ShelfState, TakesOut, PutsBack, KeepsDisks, KeepsTold, NotesFetch}

pub record TellsLength {E : Type 0} (result : Result ℕ E) (old new : DiskState) : Type 0 where
  pub passes : Passes old new
  pub no_sync : MarksSync ⊥ old new
  pub same : WritesNothing old new
  pub images : KeepsImages old new
  pub sure : IsSure 0 old new
  pub stands : OnOk result (new.faults ≡ old.faults)
  pub failed : IsErr result → HasRisen old.faults new.faults
  pub length : IfOk result (λ n. IsTrue old.tells_bytes → n ≡ length new.bytes)

-- A disk that tells its bytes refuses a read past their end, and its count stands.
pub record ReadsPart {A E : Type 0} (result : Result A E) (at : ℕ) (before after : List ℕ) (old new : DiskState) : Type 0 where
  pub passes : Passes old new
  pub no_sync : MarksSync ⊥ old new
  pub same : WritesNothing old new
  pub images : KeepsImages old new
  pub sure : IsSure (at + length before) old new
  pub past_end : IsTrue old.tells_bytes → length old.bytes < at + length before → IsErr result × (new.faults ≡ old.faults)
  pub stands : OnOk result (new.faults ≡ old.faults)
  pub failed : IsErr result → HasRisen old.faults new.faults ⊎ (IsTrue old.tells_bytes × (length old.bytes < at + length before))
  pub bytes : OnOk result (IsTrue old.tells_bytes → after ≡ part new.bytes at (length before))

-- A write that the images tell of may leave any bytes in its range. One that they can't tell of failed and changed nothing. A disk that tells
-- its bytes refuses a write that begins past their end; its count stands, and nothing changes.
pub record WritesPart {A E : Type 0} (result : Result A E) (at : ℕ) (text : List ℕ) (old new : DiskState) : Type 0 where
  pub passes : Passes old new
  pub no_sync : MarksSync ⊥ old new
  pub within : WritesWithin at (length text) old new
  pub sure : IsSure (at + length text) old new
  pub any_bytes : IsTrue new.is_noted → at ≤ length old.bytes → LeavesAnyBytes at (length text) old new
  pub noted : OnOk result (IsTrue new.is_noted)
  pub unnoted : new.is_noted ≡ false → ChangesNothing old new
  pub past_end : IsTrue old.tells_bytes → length old.bytes < at → IsErr result × (new.faults ≡ old.faults)
  pub untouched : IsTrue old.tells_bytes → length old.bytes < at → ChangesNothing old new
  pub stands : OnOk result (new.faults ≡ old.faults)
  pub failed : IsErr result → HasRisen old.faults new.faults ⊎ (IsTrue old.tells_bytes × (length old.bytes < at))
  pub bytes : OnOk result (IsTrue old.is_honest → new.bytes ≡ overwritten old.bytes at text)
  pub length : OnOk result (IsTrue old.tells_bytes → length new.bytes ≡ max (length old.bytes) (at + length text))

pub record Settles {A E : Type 0} (result : Result A E) (old new : DiskState) : Type 0 where
  pub passes : Passes old new
  pub marks : MarksSync (IsOk result) old new
  pub same : WritesNothing old new
  pub sure : IsSure 0 old new
  pub durable : OnOk result (IsTrue old.is_honest → Only new.bytes new.images)
  pub unsettled : OnErr result (KeepsImages old new)
  pub stands : OnOk result (new.faults ≡ old.faults)
  pub failed : IsErr result → HasRisen old.faults new.faults

-- The count rises by one at most, by a fetch that failed.
pub record Fetches {D E : Type 0} (state : D → DiskState) (name : List ℕ) (fresh : Bool) (result : Result D E) (old new : ShelfState D) : Type 0 where
  pub count : IfOk result (λ disk. (state disk).faults ≡ 0)
  pub taken : IfOk result (λ disk. IsTrue old.tells_disks → TakesOut state name old new disk)
  pub err : OnErr result (IsTrue old.tells_disks → KeepsDisks old new)
  pub noted : IsTrue old.tells_fetches → length old.fetches < 2 ^ 64 - 1 → NotesFetch name fresh result old.fetches new.fetches
  pub told : KeepsTold old new
  pub no_fall : old.faults ≤ new.faults
  pub stands : OnOk result (new.faults ≡ old.faults)
  pub failed : IsErr result → HasRisen old.faults new.faults
  pub one_fault : new.faults ≤ old.faults + 1

pub record GivesBack {D : Type 0} (state : D → DiskState) (name : List ℕ) (disk : D) (old new : ShelfState D) : Type 0 where
  pub put : IsTrue old.tells_disks → IsTrue (old.is_out name) → PutsBack name old new disk
  pub not_out : IsTrue old.tells_disks → old.is_out name ≡ false → KeepsDisks old new
  pub noted : new.fetches ≡ old.fetches
  pub told : KeepsTold old new
  pub faults : new.faults ≡ min (old.faults + (state disk).faults) (2 ^ 64 - 1)
