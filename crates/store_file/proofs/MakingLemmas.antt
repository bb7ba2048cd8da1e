-- What each image has, and how the disk reads, run by run, while a store is made.
use Rattle.std.proofs.lemmas.Bool.Decides.{nat_tests}
use Rattle.std.proofs.lemmas.Grind.{common_steps}
use Rattle.std.proofs.Common.{◌≡◌, inl, inr, ⊎_elim, ℕ, ◌-◌, IsTrue, List, length, sym, subst, ◌∙◌, arith}
use Rattle.disk_trait.specs.Disk.{DiskState, Only, HasWritten}
use Rattle.disk_trait.specs.Effects.{Affects}
use Rattle.disk_trait.specs.Moments.{IsTimed, LeavesOnly, IsOldOr}
use Rattle.disk_trait.proofs.MomentLemmas.{leaves_only_run, leaves_only_weaken, leaves_only_now, once_synced_more, once_synced_weaken}
use Rattle.disk_trait.specs.Region.{Region, span, IsSameOutside}
use Rattle.disk_trait.proofs.RegionLemmas.{part_apart, same_no_longer}
use Rattle.blsm_model.specs.Sizes.{Sizes, IsGeometry}
use Rattle.blsm_model.specs.Geometry.{file_length}
use Rattle.store_file.specs.Layout.{zeros, first_file}
use Rattle.store_file.proofs.LayoutLemmas.{IsShut, head_inside, short_half, block_shut, shut_half, gate_torn}
use Rattle.blsm_model.specs.Format.{head_length}
use Rattle.store_file.specs.Making.{IsHalfMade, LeavesOldOr}

-- what is written behind the gate leaves it closed
shut_same : (end : ℕ) (old new : List ℕ) → IsSameOutside (span 1 (end - 1)) old new → IsShut end old → IsShut end new
shut_same end old new same shut = record {
  closed = λ opened. shut.closed (sym (part_apart 0 1 (λ i behind gate. omega (arith, behind.0, gate.1)) same) ∙ opened);
  no_longer = omega (arith, same_no_longer end (λ i behind. omega (arith, behind.0, behind.1)) same, shut.no_longer);
}

module _ (sizes : Sizes) (start : DiskState) (honest : IsTrue start.is_honest) where
  -- the first block was written over a file without bytes, or failed to be
  pub making_first : (d : DiskState) (n : ℕ) → n ≡ head_length → length start.bytes ≡ 0 → LeavesOldOr start d (IsSameOutside (span 0 n) start.bytes) → LeavesOldOr start d (IsHalfMade sizes)
  making_first d n block none run = record {
    each = leaves_only_weaken (λ c. ⊎_elim (λ before. inl before) (λ torn. inr (half c torn))) run.each;
    once_synced = once_synced_weaken half run.once_synced;
    reads = half d.bytes run.reads;
  }
    where
      half : (c : List ℕ) → IsSameOutside (span 0 n) start.bytes c → IsHalfMade sizes c
      half c same = short_half sizes c (record { no_longer = omega (arith, same_no_longer n (λ i inside. omega (arith, inside.1)) same, none, block) })

  -- a run that leaves only what is half made
  making_more : {region : Region} {end most : ℕ} {d e : DiskState} → IsTimed d → IsTimed e → LeavesOldOr start d (IsHalfMade sizes) → Affects region end most d e
      → LeavesOnly d e (IsHalfMade sizes) → IsHalfMade sizes e.bytes → LeavesOldOr start e (IsHalfMade sizes)
  making_more timed timed' so_far effect run reads = record {
    each = leaves_only_run so_far.each (leaves_only_weaken (λ c half. inr half) run);
    once_synced = once_synced_more timed timed' so_far.once_synced run effect.syncs;
    reads = reads;
  }

  -- and it ended well
  pub record IsBlank (d : DiskState) : Type 0 where
    pub making : LeavesOldOr start d (IsHalfMade sizes)
    pub still : IsTrue d.is_honest
    pub blank : d.bytes ≡ zeros head_length
    pub only : Only d.bytes d.images

  pub making_blank : {region : Region} {end most : ℕ} {d : DiskState} (bytes : List ℕ) → bytes ≡ zeros head_length → length start.bytes ≡ 0 → LeavesOldOr start d (IsHalfMade sizes) → Affects region end most start d
      → HasWritten 0 bytes start d → IsBlank d
  making_blank bytes h1 h2 h3 h4 h5 = grind (arith, common_steps, nat_tests)

  -- all but the gate was written behind it, or failed to be: in each image now the gate is closed
  pub record IsBehind (d : DiskState) : Type 0 where
    pub making : LeavesOldOr start d (IsHalfMade sizes)
    pub still : IsTrue d.is_honest
    pub shut : (c : List ℕ) → d.images c → IsShut (file_length sizes) c

  pub making_behind : {end most : ℕ} {d e : DiskState} → IsTimed d → IsTimed e → IsBlank d → Affects (span 1 (file_length sizes - 1)) end most d e → IsBehind e
  making_behind {d = d} {e = e} timed timed' so_far effect =
      let block : IsShut (file_length sizes) d.bytes = block_shut (file_length sizes) d.bytes (omega (arith, head_inside sizes)) so_far.blank in
      let run : LeavesOnly d e (IsShut (file_length sizes)) =
      leaves_only_weaken (λ c was. shut_same (file_length sizes) was.0 c was.2 (subst (IsShut (file_length sizes)) (sym (so_far.only was.0 was.1)) block)) (effect.images so_far.still) in
      record {
        making =
            making_more timed timed' so_far.making effect (leaves_only_weaken (shut_half sizes) run)
            (shut_half sizes e.bytes (shut_same (file_length sizes) d.bytes e.bytes (effect.bytes so_far.still) block));
        still = subst IsTrue (sym effect.goes_on.is_honest) so_far.still;
        shut = leaves_only_now timed' run;
      }

  -- the gate is opened
  pub making_opened : {end most : ℕ} {d e : DiskState} → IsGeometry sizes → IsTimed d → IsTimed e → IsBehind d → d.bytes ≡ first_file 0 sizes
      → LeavesOldOr d e (IsSameOutside (span 0 1) d.bytes) → Affects (span 0 1) end most d e → LeavesOldOr start e (IsHalfMade sizes)
  making_opened {d = d} {e = e} geometry timed timed' so_far written run effect =
      making_more timed timed' so_far.making effect (leaves_only_weaken half run.each) (opened e.bytes run.reads)
    where
      opened : (c : List ℕ) → IsSameOutside (span 0 1) d.bytes c → IsHalfMade sizes c
      opened c same = gate_torn sizes geometry c (subst (λ (l : List ℕ). IsSameOutside (span 0 1) l c) written same)

      half : (c : List ℕ) → IsOldOr d.images (IsSameOutside (span 0 1) d.bytes) c → IsHalfMade sizes c
      half c = ⊎_elim (λ before. shut_half sizes c (so_far.shut c before)) (opened c)
