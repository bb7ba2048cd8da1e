-- Laws of `specs/Effects`.
use Rattle.std.proofs.lemmas.Bool.Decides.{nat_tests}
use Rattle.std.proofs.lemmas.Grind.{common_steps}
use Rattle.std.specs.Prelude.{◌≡◌, ◌≤◌, ℕ, ◌+◌, IsTrue, length}
use Rattle.std.proofs.Common.{sym, subst, ◌∙◌, arith}
use Rattle.disk_trait.specs.Disk.{DiskState, IsSure, Passes, MarksSync, WritesNothing, WritesWithin}
use Rattle.disk_trait.specs.Moments.{IsTimed}
use Rattle.disk_trait.proofs.MomentLemmas.{goes_on_run, leaves_only_start, leaves_only_call, leaves_only_run, leaves_only_weaken, leaves_only_now, syncs_later_call, syncs_later_run}
use Rattle.disk_trait.specs.Region.{Region, span, IsWithin}
use Rattle.disk_trait.proofs.RegionLemmas.{same_file, same_run, same_torn}
use Rattle.disk_trait.specs.Effects.{Affects}

-- before the first call
pub affects_start : {region : Region} {end most : ℕ} (d : DiskState) → IsTimed d → Affects region end most d d
affects_start d h1 = grind (arith, common_steps, nat_tests)

-- one write
pub affects_write : {end : ℕ} {old new : DiskState} (at n : ℕ) → IsTimed old → Passes old new → MarksSync ⊥ old new → WritesWithin at n old new
    → at + n ≤ end → IsSure end old new
    → Affects (span at n) end 1 old new
affects_write at n h1 h2 h3 h4 h5 h6 = grind (arith, common_steps, nat_tests, syncs_later_call, same_torn, leaves_only_call, leaves_only_start, same_file)

-- one call that writes nothing: a read, a look at the length, a sync
pub affects_nothing : {region : Region} {end : ℕ} {old new : DiskState} (synced : Type 0) → IsTimed old → Passes old new → MarksSync synced old new → WritesNothing old new
    → IsSure end old new → Affects region end 1 old new
affects_nothing synced h1 h2 h3 h4 h5 = grind (arith, common_steps, nat_tests)

-- what a run has done, it has done within a wider region, and with more calls
pub affects_wider : {small large : Region} {end end' most most' : ℕ} {old new : DiskState} → IsWithin small large → end ≤ end' → most ≤ most' → Affects small end most old new
    → Affects large end' most' old new
affects_wider h1 h2 h3 h4 = grind (arith, common_steps, nat_tests)

-- a run after a run that didn't fail
pub affects_run : {region : Region} {end most more : ℕ} {old mid new : DiskState} → IsTimed mid → mid.faults ≡ old.faults
    → Affects region end most old mid → Affects region end more mid new → Affects region end (most + more) old new
affects_run {region} {end} {most} {more} {old} {mid} {new} timed calm first second = record {
  goes_on = goes_on_run first.goes_on second.goes_on;
  calls = omega (arith, first.calls, second.calls);
  syncs = syncs_later_run first.goes_on.clock first.syncs second.syncs;
  one_fault = omega (arith, calm, second.one_fault);
  sure = λ some within. second.sure (omega (arith, first.goes_on.sure_up_to, some)) (omega (arith, first.goes_on.sure_up_to, within)) ∙ first.sure some within;
  no_shorter = λ tells. omega (arith, first.no_shorter tells, second.no_shorter (tells_still tells));
  no_longer = λ tells. omega (arith, first.no_longer tells, second.no_longer (tells_still tells));
  bytes = λ honest. same_run (first.bytes honest) (second.bytes (still honest));
  images = λ honest.
      leaves_only_run (first.images honest)
      (leaves_only_weaken
      (λ c was. let earlier = leaves_only_now timed (first.images honest) was.0 was.1 in (earlier.0, earlier.1, same_run earlier.2 was.2))
      (second.images (still honest)));
}
  where
    still : IsTrue old.is_honest → IsTrue mid.is_honest
    still honest = subst IsTrue (sym first.goes_on.is_honest) honest

    tells_still : IsTrue old.tells_bytes → IsTrue mid.tells_bytes
    tells_still tells = subst IsTrue (sym first.goes_on.tells_bytes) tells

-- so many calls were counted otherwise
pub affects_counted : {region : Region} {end most fewer : ℕ} {old new : DiskState} → new.clock ≤ old.clock + fewer → Affects region end most old new → Affects region end fewer old new
affects_counted h1 h2 = grind (arith, common_steps, nat_tests)

-- a file that ends where the run may end keeps its length
pub affects_length : {region : Region} {end most : ℕ} {old new : DiskState} → Affects region end most old new → IsTrue old.tells_bytes → length old.bytes ≡ end → length new.bytes ≡ end
affects_length run tells long = omega (arith, run.no_shorter tells, run.no_longer tells, long)

-- a run more, in a part of the region
pub affects_more : {region small : Region} {end end' most more total : ℕ} {old mid new : DiskState} → IsTimed mid → mid.faults ≡ old.faults → Affects region end most old mid → Affects small end' more mid new
    → IsWithin small region → end' ≤ end → most + more ≤ total → Affects region end total old new
affects_more timed calm so_far run inside ends calls = affects_wider (λ i here. here) (omega arith) calls (affects_run timed calm so_far (affects_wider inside ends (omega arith) run))

-- one write more
pub affects_write_more : {region : Region} {end most total : ℕ} {old mid new : DiskState} (at n : ℕ) → IsTimed mid → mid.faults ≡ old.faults → Affects region end most old mid
    → Passes mid new → MarksSync ⊥ mid new → WritesWithin at n mid new → IsSure (at + n) mid new
    → IsWithin (span at n) region → at + n ≤ end → most + 1 ≤ total → Affects region end total old new
affects_write_more at n timed calm so_far passes marks within sure inside ends calls =
    affects_more timed calm so_far (affects_write {end = at + n} at n timed passes marks within (omega arith) sure) inside ends calls
