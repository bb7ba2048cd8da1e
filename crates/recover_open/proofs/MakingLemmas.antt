-- Making behind a look at the disk's length.
use Rattle.std.proofs.lemmas.Bool.Decides.{nat_tests}
use Rattle.std.proofs.lemmas.Grind.{common_steps}
use Rattle.std.specs.Prelude.{◌≡◌, ℕ, ◌+◌, IsTrue, List}
use Rattle.std.proofs.Common.{sym, subst, inl, inr, ⊎_elim, arith}
use Rattle.disk_trait.specs.Disk.{DiskState}
use Rattle.disk_trait.specs.Effects.{Affects}
use Rattle.disk_trait.specs.Moments.{IsTimed, IsUnwritten}
use Rattle.disk_trait.proofs.MomentLemmas.{leaves_only_run, leaves_only_weaken, old_or_behind, once_synced_behind, once_synced_weaken}
use Rattle.disk_trait.specs.Reads.{OnlyReads}
use Rattle.disk_trait.proofs.ReadLemmas.{only_reads_each}
use Rattle.disk_trait.specs.Region.{span}
use Rattle.blsm_model.specs.Sizes.{Sizes}
use Rattle.blsm_model.specs.Geometry.{file_length}
use Rattle.store_file.specs.Layout.{IsMade}
use Rattle.store_file.specs.Making.{HasMade, IsHalfMade, LeavesOldOr, making_calls}
use Rattle.tree_file.specs.Tree.{HoldsTree, first_tree}
use Rattle.recover_open.specs.Making.{IsEmptyOrNone, IsEmptyStore, IsMadeEmpty}

abbrev FirstHolds : Type 0
FirstHolds = (sizes : Sizes) (file : List ℕ) → IsMade sizes file → HoldsTree sizes first_tree file

half_empty : FirstHolds → (sizes : Sizes) (file : List ℕ) → IsHalfMade sizes file → IsEmptyOrNone sizes file
half_empty holds sizes file half = record { store = ⊎_elim (λ none. inl none) (λ made. inr (holds sizes file made)) half.store; no_longer = half.no_longer }

pub leaves_behind : {old mid new : DiskState} → FirstHolds → (sizes : Sizes) → IsTimed old → IsTimed mid → IsTrue old.is_honest → OnlyReads 0 1 old mid → LeavesOldOr mid new (IsHalfMade sizes)
    → LeavesOldOr old new (IsEmptyOrNone sizes)
leaves_behind {old} {mid} {new} holds sizes timed timed' honest looked made =
    let so = half_empty holds sizes in
    record {
      each = leaves_only_weaken (λ c. ⊎_elim (λ before. inl before) (λ half. inr (so c half))) (old_or_behind timed' (only_reads_each looked honest) made.each);
      once_synced = once_synced_behind timed looked.effect.goes_on.clock looked.no_sync (once_synced_weaken so made.once_synced);
      reads = so new.bytes made.reads;
    }

pub unsynced_behind : {old mid new : DiskState} → IsTrue old.is_honest → OnlyReads 0 1 old mid → IsUnwritten mid new → IsUnwritten old new
unsynced_behind {old} {mid} {new} honest looked more =
    ⊎_elim
    (λ kept. inl (leaves_only_run (only_reads_each looked honest) (leaves_only_weaken (looked.same.same.images honest) kept)))
    (λ at. inr (at.0, omega (arith, at.1, looked.effect.goes_on.clock), at.2))
    more

pub effect_behind : {old mid new : DiskState} (sizes : Sizes) → IsTimed mid → mid.faults ≡ old.faults → OnlyReads 0 1 old mid
    → Affects (span 0 (file_length sizes)) (file_length sizes) (making_calls sizes) mid new → Affects (span 0 (file_length sizes)) (file_length sizes) (making_calls sizes + 1) old new
effect_behind sizes h1 h2 h3 h4 = grind (arith, common_steps, nat_tests)

pub made_empty : {old new : DiskState} → FirstHolds → (sizes : Sizes) → HasMade sizes old new → IsTrue old.is_honest → IsMadeEmpty sizes new
made_empty {old} {new} holds sizes made honest =
    let reads = holds sizes new.bytes (made.made honest) in
    record { reads = reads; each = λ c left. subst (IsEmptyStore sizes) (sym (made.durable honest c left)) reads }
