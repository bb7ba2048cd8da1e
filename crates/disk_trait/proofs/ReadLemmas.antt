-- Laws of `specs/Reads`.
use Rattle.std.proofs.lemmas.Bool.Decides.{nat_tests}
use Rattle.std.proofs.lemmas.Grind.{common_steps}
use Rattle.std.specs.Prelude.{◌≡◌, ◌≤◌, ℕ, ◌+◌, IsTrue}
use Rattle.std.proofs.Common.{sym, subst, arith}
use Rattle.disk_trait.specs.Disk.{DiskState, IsSure, Passes, MarksSync, WritesNothing, KeepsImages}
use Rattle.disk_trait.proofs.EffectLemmas.{affects_nothing, affects_wider, affects_counted}
use Rattle.disk_trait.specs.Moments.{IsTimed, LeavesOnly}
use Rattle.disk_trait.proofs.MomentLemmas.{leaves_only_weaken}
use Rattle.disk_trait.proofs.RegionLemmas.{same_nowhere}
use Rattle.disk_trait.specs.Reads.{OnlyReads}

-- each image of each moment is one from before
pub only_reads_each : {end most : ℕ} {old new : DiskState} → OnlyReads end most old new → IsTrue old.is_honest → LeavesOnly old new old.images
only_reads_each {end} {most} {old} {new} run honest = leaves_only_weaken (λ c was. subst old.images (sym (same_nowhere was.2)) was.1) (run.effect.images honest)

-- before the first call
pub only_reads_start : {end most : ℕ} (d : DiskState) → IsTimed d → OnlyReads end most d d
only_reads_start d h1 = grind (arith, common_steps, nat_tests)

-- one call that writes nothing: a read, or a look at the length
pub only_reads_call : {end : ℕ} {old new : DiskState} → IsTimed old → Passes old new → MarksSync ⊥ old new → WritesNothing old new → KeepsImages old new → IsSure end old new → OnlyReads end 1 old new
only_reads_call timed passes none same images sure = record { effect = affects_nothing ⊥ timed passes none same sure; same = record { same = same; images = images }; no_sync = none }

-- with more calls, and up to a later end
pub only_reads_wider : {end end' most most' : ℕ} {old new : DiskState} → end ≤ end' → most ≤ most' → OnlyReads end most old new → OnlyReads end' most' old new
only_reads_wider ends calls run = record { effect = affects_wider (λ i inside. inside) ends calls run.effect; same = run.same; no_sync = run.no_sync }

-- a run after a run that didn't fail
pub only_reads_run : {end most more : ℕ} {old mid new : DiskState} → IsTimed mid → mid.faults ≡ old.faults
    → OnlyReads end most old mid → OnlyReads end more mid new → OnlyReads end (most + more) old new
only_reads_run h1 h2 h3 h4 = grind (arith, common_steps, nat_tests)

-- a run more, up to an earlier end, with a total that the caller names
pub only_reads_more : {end end' most more total : ℕ} {old mid new : DiskState} → IsTimed mid → mid.faults ≡ old.faults → OnlyReads end most old mid → OnlyReads end' more mid new
    → end' ≤ end → most + more ≤ total → OnlyReads end total old new
only_reads_more timed calm first second ends calls = only_reads_wider (omega arith) calls (only_reads_run timed calm first (only_reads_wider ends (omega arith) second))

-- the same calls, counted otherwise
pub only_reads_counted : {end most fewer : ℕ} {old new : DiskState} → new.clock ≤ old.clock + fewer → OnlyReads end most old new → OnlyReads end fewer old new
only_reads_counted calls run = record { effect = affects_counted calls run.effect; same = run.same; no_sync = run.no_sync }

-- the file reads as before
pub only_reads_same : {end most : ℕ} {old new : DiskState} → OnlyReads end most old new → IsTrue old.is_honest → new.bytes ≡ old.bytes
only_reads_same run honest = run.same.same.bytes honest

-- a run after a run that didn't fail, of so many calls together
pub only_reads_run_within : {end most more : ℕ} {old mid new : DiskState} (all : ℕ) → IsTimed mid → mid.faults ≡ old.faults → OnlyReads end most old mid → OnlyReads end more mid new
    → new.clock ≤ old.clock + all → OnlyReads end all old new
only_reads_run_within all timed calm first second calls = only_reads_counted calls (only_reads_run timed calm first second)
