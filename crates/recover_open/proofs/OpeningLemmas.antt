-- A sync, a reading, and the settling behind them.
use Rattle.std.proofs.lemmas.Bool.Decides.{nat_tests}
use Rattle.std.proofs.lemmas.Grind.{common_steps}
use Rattle.std.specs.Prelude.{◌≡◌, ◌⊎◌, ℕ, ◌+◌, ◌≤◌, IsTrue, length, max, Result, Ok, Err, IfOk, IsErr, OnOk}
use Rattle.std.proofs.Common.{◌∙◌, sym, subst, inl, inr, ⊎_elim, arith}
use Rattle.disk_trait.specs.Disk.{DiskState, IsSure, MarksSync, Only, Passes, WritesNothing}
use Rattle.disk_trait.proofs.EffectLemmas.{affects_more, affects_nothing, affects_wider}
use Rattle.disk_trait.specs.Moments.{IsTimed, LeavesOnly, LeavesOnlyOnceSynced}
use Rattle.disk_trait.proofs.MomentLemmas.{leaves_only_call, leaves_only_run, leaves_only_start, leaves_only_weaken, once_synced_call, once_synced_kept, once_synced_start}
use Rattle.disk_trait.specs.Reads.{OnlyReads}
use Rattle.disk_trait.proofs.ReadLemmas.{only_reads_each}
use Rattle.blsm_model.specs.Geometry.{file_length}
use Rattle.blsm_model.specs.Sizes.{IsGeometry, Sizes}
use Rattle.store_file.specs.Layout.{superblock_length}
use Rattle.tree_reading.specs.declared.found.Found.{Found}
use Rattle.tree_reading.specs.declared.found.Unreadable.{Unreadable}
use Rattle.tree_reading.specs.Reading.{HasLooked, IsFound, calls_of_reading, reading_calls}
use Rattle.tree_settling.specs.Settling.{CallsFew}
use Rattle.recover_open.specs.Opening.{HasLengthOf, StaysInside, most_opening_calls}

-- as many calls as a reading of the sizes makes of which the file's length is, or two
abbrev pub ReadsFew : DiskState → DiskState → Type 0
ReadsFew old new = CallsFew 2 old new ⊎ ((sizes : Sizes) × IsGeometry sizes × HasLengthOf sizes old × CallsFew (reading_calls sizes) old new)

-- Some reads, none of which ends behind the superblock and the file.
pub record ReadsInside (old new : DiskState) : Type 0 where
  pub end : ℕ
  pub calls : ℕ
  pub few : ReadsFew old new
  pub inside : IsTrue old.tells_bytes → end ≤ max superblock_length (length old.bytes)
  pub only : OnlyReads end calls old new

looked : {old new : DiskState} → HasLooked reading_calls old new → ReadsInside old new
looked h1 = grind (arith, common_steps, nat_tests)

pub reads_inside : {old new : DiskState} (result : Result Found Unreadable)
    → IfOk result (λ found. OnlyReads (file_length found.geometry) (reading_calls found.geometry) old new)
    → (IsErr result → HasLooked reading_calls old new)
    → IfOk result (λ found. IsTrue old.tells_bytes → length old.bytes ≡ file_length found.geometry) → IfOk result
    (λ found. IsFound found new.is_honest new.bytes) → ReadsInside old new
reads_inside result h1 h2 h3 h4 = grind (arith, common_steps, nat_tests)

-- a call, and then some
one_more : {old mid : DiskState} {now : ℕ} (calls : ℕ) → Passes old mid → now ≤ mid.clock + calls → now ≤ old.clock + (1 + calls)
one_more calls passes few = omega (arith, few, passes.at_most_one)

-- what a sync and a reading call is within what an opening does
of_opening : (old : ℕ) {new : ℕ} (sizes : Sizes) → new ≤ old + (1 + reading_calls sizes) → new ≤ old + most_opening_calls sizes
of_opening old sizes h1 = grind (arith, common_steps, nat_tests)

pub synced_few : {old mid : DiskState} (new : DiskState) (result : Result Found Unreadable) → Passes old mid → IfOk result (λ found. OnlyReads (file_length found.geometry) (reading_calls found.geometry) mid new)
    → IfOk result (λ found. CallsFew (1 + reading_calls found.geometry) old new)
synced_few new result h1 h2 = grind (arith, common_steps, nat_tests)

pub synced_read : {old mid : DiskState} (new : DiskState) (result : Result Found Unreadable) → Passes old mid
    → IfOk result (λ found. new.clock ≤ mid.clock + calls_of_reading found.catalogue found.records_a found.records_b)
    → IfOk result (λ found. CallsFew (1 + calls_of_reading found.catalogue found.records_a found.records_b) old new)
synced_read new (Ok found) passes few = one_more (calls_of_reading found.catalogue found.records_a found.records_b) passes few
synced_read new (Err why) passes few = tt

-- a sync that failed
pub sync_inside : {old new : DiskState} {ended_well : Type 0} → IsTimed old → Passes old new → MarksSync ended_well old new → WritesNothing old new → IsSure 0 old new → StaysInside old new
sync_inside {old} {new} {ended_well} timed passes marks same sure = record { end = 0; calls = 1; few = inl (omega (arith, passes.at_most_one)); inside = λ tells. omega arith; effect = affects_nothing ended_well timed passes marks same sure }

-- a sync, and then reads
pub synced_inside : {old mid new : DiskState} {ended_well : Type 0} → IsTimed old → IsTimed mid → mid.faults ≡ old.faults → Passes old mid → MarksSync ended_well old mid → WritesNothing old mid → IsSure 0 old mid
    → ReadsInside mid new → StaysInside old new
synced_inside {old} {mid} {new} {ended_well} timed timed' calm passes marks same sure reads = record {
  end = reads.end;
  calls = 1 + reads.calls;
  few = ⊎_elim (λ two. inl (omega (arith, two, passes.at_most_one)))
      (λ of_sizes. inr (of_sizes.0, of_sizes.1, λ tells. sym (same.length tells) ∙ of_sizes.2 (subst IsTrue (sym passes.goes_on.tells_bytes) tells), of_opening old.clock of_sizes.0 (one_more (reading_calls of_sizes.0) passes of_sizes.3)))
      reads.few;
  inside = λ tells. omega (arith, reads.inside (subst IsTrue (sym passes.goes_on.tells_bytes) tells), same.length tells);
  effect = affects_more {most = 1} timed' calm (affects_wider {end = 0} (λ i here. here) (omega arith) (omega arith) (affects_nothing ended_well timed passes marks same sure))
      reads.only.effect (λ i never. absurd never) (omega arith) (omega arith);
}

sync_kept : {old mid : DiskState} → IsTimed old → Passes old mid → WritesNothing old mid → IsTrue old.is_honest → LeavesOnly old mid old.images
sync_kept {old} {mid} timed passes same honest = leaves_only_call (leaves_only_start old old.images timed (λ c left. left)) passes (same.images honest)

pub synced_kept : {old mid new : DiskState} → IsTimed old → Passes old mid → WritesNothing old mid → ReadsInside mid new → IsTrue old.is_honest → LeavesOnly old new old.images
synced_kept {old} {mid} {new} timed passes same reads honest =
    leaves_only_run (sync_kept timed passes same honest)
    (leaves_only_weaken (same.images honest) (only_reads_each reads.only (subst IsTrue (sym passes.goes_on.is_honest) honest)))

pub once_synced : {old mid new : DiskState} {ended_well : Type 0} → IsTimed old → IsTimed mid → Passes old mid → MarksSync ended_well old mid → WritesNothing old mid
    → (IsTrue old.is_honest → Only mid.bytes mid.images) → ReadsInside mid new → IsTrue old.is_honest → LeavesOnlyOnceSynced old new (λ c. c ≡ old.bytes)
once_synced {old} {mid} {new} {ended_well} timed timed' passes marks same only reads honest =
    once_synced_kept timed'
    (once_synced_call ended_well (once_synced_start old (λ c. c ≡ old.bytes) timed) passes marks timed timed' (λ t c after at left. only honest c left ∙ same.bytes honest))
    (only_reads_each reads.only (subst IsTrue (sym passes.goes_on.is_honest) honest)) reads.only.no_sync

pub still_only : {mid new : DiskState} → IsTrue mid.is_honest → Only mid.bytes mid.images → ReadsInside mid new → Only new.bytes new.images
still_only {mid} {new} honest only reads = λ c left. only c (reads.only.same.same.images honest c left) ∙ sym (reads.only.same.same.bytes honest)

-- the file is as long as the geometry that was found says, as it was before
pub was_long : {old mid : DiskState} (result : Result Found Unreadable) → Passes old mid → WritesNothing old mid
    → IfOk result (λ found. IsTrue mid.tells_bytes → length mid.bytes ≡ file_length found.geometry) → IfOk result (λ found. IsTrue old.tells_bytes → length old.bytes ≡ file_length found.geometry)
was_long result h1 h2 h3 = grind (arith, common_steps, nat_tests)

pub still_long : {old mid new : DiskState} (result : Result Found Unreadable) → Passes old mid → ReadsInside mid new
    → IfOk result (λ found. IsTrue mid.tells_bytes → length mid.bytes ≡ file_length found.geometry) → IfOk result (λ found. IsTrue old.tells_bytes → length new.bytes ≡ file_length found.geometry)
still_long result h1 h2 h3 = grind (arith, common_steps, nat_tests)

-- what holds holds once it is done
pub when_done : (result : Result Found Unreadable) {P : Type 0} → P → OnOk result P
when_done result h1 = grind (arith, common_steps, nat_tests)
