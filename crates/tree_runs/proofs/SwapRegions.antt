-- Where a swap writes: not in the pages of other tags.
use Rattle.std.specs.Prelude.{◌≢◌, ℕ, Bool, List, Result}
use Rattle.std.proofs.lemmas.Grind.{common_steps}
use Rattle.std.proofs.lemmas.Bool.Decides.{nat_tests}
use Rattle.std.proofs.Common.{arith}
use Rattle.disk_trait.specs.Disk.{DiskState}
use Rattle.disk_trait.specs.Region.{AreApart}
use Rattle.disk_trait.proofs.EffectLemmas.{affects_wider}
use Rattle.blsm_model.specs.Sizes.{Sizes, IsGeometry}
use Rattle.blsm_model.specs.Lanes.{AreRoles}
use Rattle.bloom_bits.specs.BitSet.{BitState}
use Rattle.bloom_bits.specs.Fences.{FencesState}
use Rattle.catalog_swap.specs.declared.catalog.Catalog.{Catalog}
use Rattle.record_delta.specs.Entries.{Entries}
use Rattle.page_space.specs.Space.{SpaceState}
use Rattle.page_file.specs.File.{Writes}
use Rattle.run_writer.specs.Writer.{WriterState, open_region, role_region, HasPushed}
use Rattle.run_writer.proofs.RegionLemmas.{open_tagged}
use Rattle.tree_runs.specs.Runs.{HasOneTag}
use Rattle.tree_runs.proofs.Terms.{swap_region}

-- ---- not in the pages of other tags

pub swap_apart : (sizes : Sizes) (space : SpaceState) (of_run tag : ℕ) (now : Catalog) → IsGeometry sizes → AreRoles now.lanes → HasOneTag space → of_run ≢ tag
    → AreApart (swap_region sizes space of_run now) (role_region sizes space tag)
swap_apart sizes space of_run tag now geometry roles once differs i here there = grind (arith, common_steps, nat_tests)

-- ---- but in those of its run

-- the open page of a run has its tag
pub end_writes : {T E : Type 0} {result : Result T E} {sizes : Sizes} {honest : Bool} {file : List ℕ} {space : SpaceState}
    {writer : WriterState} {filter : BitState} {fences : FencesState} {entries : Entries} {end : ℕ} {old new : DiskState}
    → HasPushed sizes honest file space writer filter fences entries → Writes (open_region sizes writer) end result old new
    → Writes (role_region sizes space writer.role) end result old new
end_writes {sizes = sizes} {honest} {file} {space} {writer} {filter} {fences} {entries} has writes =
    let tagged = open_tagged sizes honest file space writer filter fences entries has in
    record {
      effect = affects_wider tagged (omega arith) (omega arith) writes.effect;
      no_sync = writes.no_sync;
      stands = writes.stands;
      failed = writes.failed;
    }
