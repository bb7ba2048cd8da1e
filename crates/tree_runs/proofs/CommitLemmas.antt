-- What the commit of the next catalogue leaves of a tree that stands.
use Rattle.std.specs.Prelude.{Result, is_ok, IsTrue}
use Rattle.std.proofs.Common.{⊎_elim}
use Rattle.disk_trait.specs.Disk.{DiskState}
use Rattle.disk_trait.specs.Moments.{IsTimed}
use Rattle.blsm_model.specs.Sizes.{Sizes}
use Rattle.catalog_swap.specs.Swap.{IsPrepared}
use Rattle.tree_file.specs.Tree.{Tree}
use Rattle.tree_file.specs.Places.{StandsOn, Becomes, ReadsNext}
use Rattle.tree_file.proofs.StandLemmas.{Commits, IsCommitReady, stands_committed, stands_turned}
use Rattle.tree_runs.specs.Swaps.{KeepsLanes, TurnsLanes, MayFollow}

-- a tree that stands and is prepared becomes the next one
pub committed : {T E : Type 0} {result : Result T E} {old new : DiskState} (sizes : Sizes) (tree next : Tree) → MayFollow sizes tree next → Commits sizes next.catalogue result old new → IsTrue old.is_honest → IsTimed new
    → StandsOn sizes tree old → IsPrepared sizes tree.catalogue old → ReadsNext sizes next old.bytes → Becomes sizes tree next (is_ok result) old new
committed {T} {E} {result} {old} {new} sizes tree next may commits honest timed stands ready reads =
    ⊎_elim
    (λ (keeps : KeepsLanes tree next). stands_committed sizes tree next commits honest timed is keeps.roles keeps.lane_a keeps.lane_b)
    (λ (turns : TurnsLanes tree next). stands_turned sizes tree next commits honest timed is turns.roles turns.lane_a turns.lane_b)
    may.lanes
  where
    is : IsCommitReady sizes tree next old
    is = record { stands = stands; ready = ready; follows = may.follows; reads = reads }
