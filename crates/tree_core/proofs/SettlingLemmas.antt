-- What stands where no swap is due.
use Rattle.std.proofs.Common.{Bool, inl}
use Rattle.disk_trait.specs.Disk.{DiskState}
use Rattle.disk_trait.specs.Moments.{IsTimed}
use Rattle.disk_trait.proofs.MomentLemmas.{leaves_only_start}
use Rattle.tree_file.specs.Tree.{Tree}
use Rattle.tree_file.specs.Places.{HoldsEither}
use Rattle.tree_runs.specs.Runs.{RunsState}
use Rattle.tree_runs.specs.Holding.{StandOver, LeavesSwapped}

-- no call was made, and the tree stays
pub rests_over : (runs : RunsState) (tree : Tree) (done : Bool) (d : DiskState) → IsTimed d → StandOver runs tree d
    → LeavesSwapped runs runs tree tree done d d
rests_over runs tree done d timed over = record {
  each = leaves_only_start d (HoldsEither runs.sizes tree tree) timed (λ c left. inl (over.stands.each c left));
  either = record { reads = inl over.stands.reads; each = λ c left. inl (over.stands.each c left) };
  stands = λ yes. over;
}
