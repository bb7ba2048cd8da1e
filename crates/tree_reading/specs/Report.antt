-- What checking a store tells.
use Rattle.std.specs.Prelude.{◌≡◌, ◌≤◌, ℕ, List, length}
use Rattle.blsm_model.specs.Sizes.{Sizes}
use Rattle.tree_file.specs.Tree.{Tree, HoldsTree, FitsSizes}
use Rattle.tree_reading.specs.declared.report.Report.{Report}
use Rattle.tree_reading.specs.Damage.{most_version}

-- The file holds a tree that fits its sizes, of a version that is taken, and these are the numbers of its newest catalogue, and how many
-- entries its lanes have.
pub record IsReportOf (report : Report) (file : List ℕ) : Type 0 where
  pub sizes : Sizes
  pub tree : Tree
  pub holds : HoldsTree sizes tree file
  pub fits : FitsSizes sizes tree
  pub taken : tree.catalogue.version ≤ most_version
  pub version : report.version ≡ tree.catalogue.version
  pub c1 : report.c1 ≡ tree.catalogue.c1
  pub c1x : report.c1x ≡ tree.catalogue.c1x
  pub c2 : report.c2 ≡ tree.catalogue.c2
  pub lane_a : report.lane_a ≡ length tree.lane_a.entries
  pub lane_b : report.lane_b ≡ length tree.lane_b.entries
