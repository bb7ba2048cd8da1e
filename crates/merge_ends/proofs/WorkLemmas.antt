-- What a merge does to the disk and to the free-page map, call by call.
use Rattle.std.proofs.lemmas.Bool.Decides.{nat_tests}
use Rattle.std.proofs.lemmas.Grind.{common_steps}
use Rattle.std.proofs.Common.{◌≡◌, ◌+◌, ◌≤◌, ℕ, Bool, List, Option, Result, refl, sym, subst, inl, inr, arith}
use Rattle.std.specs.Prelude.{IsTrue}
use Rattle.disk_trait.specs.Disk.{DiskState}
use Rattle.disk_trait.proofs.EffectLemmas.{affects_wider, affects_run, affects_start, affects_counted}
use Rattle.disk_trait.specs.Moments.{IsTimed}
use Rattle.disk_trait.proofs.MomentLemmas.{no_sync_run, no_sync_start}
use Rattle.disk_trait.specs.Reads.{OnlyReads}
use Rattle.disk_trait.specs.Region.{IsWithin}
use Rattle.blsm_model.specs.Sizes.{Sizes}
use Rattle.blsm_model.specs.declared.key.Key.{Key}
use Rattle.blsm_model.specs.Geometry.{file_length}
use Rattle.bloom_bits.specs.BitSet.{BitState}
use Rattle.bloom_bits.specs.Fences.{FencesState}
use Rattle.record_delta.specs.Entries.{Entries}
use Rattle.page_space.specs.Space.{SpaceState}
use Rattle.page_file.specs.File.{Writes}
use Rattle.run_writer.specs.Writer.{WriterState, open_region, role_region, loose_region, HasPushed}
use Rattle.merge_ends.specs.Output.{TakesPages, HasRoom, HasRun}
use Rattle.merge_ends.specs.Quantum.{Grows, Works}
use Rattle.merge_ends.proofs.OutputLemmas.{takes_none, takes_run}

pub role_wider : (sizes : Sizes) (role : ℕ) (space after : SpaceState) → TakesPages role space after → IsWithin (role_region sizes space role) (role_region sizes after role)
role_wider sizes role space after takes i inside = (inside.0, takes.kept inside.0 inside.1, inside.2)

pub works_start : (sizes : Sizes) (most : ℕ) (space : SpaceState) (writer : WriterState) (d : DiskState) → IsTimed d → Grows sizes most space space writer writer d d
works_start sizes most space writer d timed = record { takes = takes_none writer.role space; effect = affects_start d timed; opens = λ i here. inl here; no_sync = no_sync_start d }

-- so many reads
pub works_read : (sizes : Sizes) (most calls : ℕ) (space : SpaceState) (writer : WriterState) (old new : DiskState) → calls ≤ most → OnlyReads (file_length sizes) calls old new → Grows sizes most space space writer writer old new
works_read sizes most calls space writer old new few reads =
    record { takes = takes_none writer.role space; effect = affects_wider (λ i never. absurd never) (omega arith) few reads.effect; opens = λ i here. inl here; no_sync = reads.no_sync }

-- what is loose behind a part of it was loose before
loose_run : (sizes : Sizes) (space middle : SpaceState) (writer next : WriterState) → next.role ≡ writer.role → TakesPages writer.role space middle → IsWithin (open_region sizes next) (loose_region sizes space writer)
    → IsWithin (loose_region sizes middle next) (loose_region sizes space writer)
loose_run sizes space middle writer next same takes opens i (inl here) = opens i here
loose_run sizes space middle writer next same takes opens i (inr out) = inr (λ inside. out (subst (λ (r : ℕ). role_region sizes middle r i) (sym same) (role_wider sizes writer.role space middle takes i inside)))

pub works_run : (sizes : Sizes) (most more : ℕ) (space middle after : SpaceState) (writer between next : WriterState) (old mid new : DiskState) → IsTimed mid → mid.faults ≡ old.faults → between.role ≡ writer.role
    → Grows sizes most space middle writer between old mid → Grows sizes more middle after between next mid new → Grows sizes (most + more) space after writer next old new
works_run sizes most more space middle after writer between next old mid new timed calm same first second =
    let takes = subst (λ (r : ℕ). TakesPages r middle after) same second.takes in
    let loose = loose_run sizes space middle writer between same first.takes first.opens in
    record {
      takes = takes_run writer.role space middle after first.takes takes;
      effect = affects_run timed calm (affects_wider (λ i here. (role_wider sizes writer.role middle after takes i here.0, here.1)) (omega arith) (omega arith) first.effect)
          (affects_wider (λ i here. (subst (λ (r : ℕ). role_region sizes after r i) same here.0, loose i here.1)) (omega arith) (omega arith) second.effect);
      opens = λ i here. loose i (second.opens i here);
      no_sync = no_sync_run first.no_sync second.no_sync;
    }

pub works_counted : (sizes : Sizes) (most fewer : ℕ) (space after : SpaceState) (writer next : WriterState) (old new : DiskState) → new.clock ≤ old.clock + fewer → Grows sizes most space after writer next old new
    → Grows sizes fewer space after writer next old new
works_counted sizes most fewer space after writer next old new calls works = record { takes = works.takes; effect = affects_counted calls works.effect; opens = works.opens; no_sync = works.no_sync }

-- so many calls more may be made
pub works_more : (sizes : Sizes) (most more : ℕ) (space after : SpaceState) (writer next : WriterState) (old new : DiskState) → most ≤ more → Grows sizes most space after writer next old new
    → Grows sizes more space after writer next old new
works_more sizes most more space after writer next old new calls works = works_counted sizes most more space after writer next old new (omega (arith, works.effect.calls, calls)) works

-- a write of the open page, behind what only read
pub works_written : {A E : Type 0} (sizes : Sizes) (most : ℕ) (space after : SpaceState) (writer next : WriterState) (old mid new : DiskState) (result : Result A E) → IsTimed mid → mid.faults ≡ old.faults
    → Grows sizes most space space writer writer old mid → TakesPages writer.role space after → IsWithin (open_region sizes writer) (role_region sizes space writer.role) → IsWithin (open_region sizes next) (loose_region sizes space writer)
    → Writes (open_region sizes writer) (file_length sizes) result mid new → Grows sizes (most + 1) space after writer next old new
works_written sizes most space after writer next old mid new result timed calm so_far takes tagged opens writes =
    works_run sizes most 1 space space after writer writer next old mid new timed calm refl so_far
    (record {
      takes = takes;
      effect = affects_wider (λ i here. (role_wider sizes writer.role space after takes i (tagged i here), inl here)) (omega arith) (omega arith) writes.effect;
      opens = opens;
      no_sync = writes.no_sync;
    })

-- by the run's role alone
pub works_of : {sizes : Sizes} {most : ℕ} {space after : SpaceState} {writer next : WriterState} {old new : DiskState} → Grows sizes most space after writer next old new → Works sizes writer.role most space after old new
works_of grows = record { takes = grows.takes; effect = affects_wider (λ i here. here.0) (omega arith) (omega arith) grows.effect; no_sync = grows.no_sync }

-- ---- what was pushed

pub pushed_read : (sizes : Sizes) (honest : Bool) (old new : List ℕ) (space : SpaceState) (writer : WriterState) (filter : BitState) (fences : FencesState) (out : Entries) → (IsTrue honest → new ≡ old)
    → HasPushed sizes honest old space writer filter fences out → HasPushed sizes honest new space writer filter fences out
pushed_read sizes honest old new space writer filter fences out h1 h2 = grind (arith, common_steps, nat_tests)

-- and is, behind what only read
pub run_read : {sizes : Sizes} {end most : ℕ} {old new : DiskState} {space : SpaceState} {writer : WriterState} {filter : BitState} {fences : FencesState} {at : Option Key} → OnlyReads end most old new
    → HasRun sizes old.is_honest old.bytes space writer filter fences at → HasRun sizes new.is_honest new.bytes space writer filter fences at
run_read h1 h2 = grind (arith, common_steps, nat_tests)

-- ---- room

pub room_less : (space : SpaceState) (writer : WriterState) (more left : ℕ) → left ≤ more → HasRoom space writer more → HasRoom space writer left
room_less space writer more left h1 h2 = grind (arith, common_steps, nat_tests)
