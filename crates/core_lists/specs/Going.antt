-- What goes on from an opening on, step by step, beside where the core stands: the machine is paced, and the fronts of the lanes are within bounds.
use Rattle.std.specs.Prelude.{List}
use Rattle.blsm_model.specs.declared.key.Key.{Key}
use Rattle.blsm_model.specs.declared.row.Value.{Value}
use Rattle.pacing.specs.Fronts.{Fronts, AreFronts}
use Rattle.tree_machine.specs.Machine.{Machine}
use Rattle.paced_tree.specs.Numbers.{pace_of}
use Rattle.paced_tree.specs.Kept.{IsPacedTree}
use Rattle.tree_file.specs.Tree.{Tree}
use Rattle.core_lists.specs.Shown.{HasFronts}

pub record GoesOn (opening : List (Key × Value)) (m : Machine) (fronts : Fronts) (tree : Tree) : Type 0 where
  pub paced : IsPacedTree opening m
  pub within : AreFronts (pace_of m) fronts
  pub lanes : HasFronts tree m.lists fronts
