-- Which tree may follow another by one commit.
use Rattle.std.specs.Prelude.{◌≡◌, ◌⊎◌}
use Rattle.blsm_model.specs.Sizes.{Sizes}
use Rattle.gated_log.specs.Lane.{no_lane}
use Rattle.catalog_swap.specs.Swap.{IsNext}
use Rattle.tree_file.specs.Tree.{Tree}
use Rattle.tree_file.specs.Places.{KeepsRoles, TurnsRoles}

-- the next tree has the lanes that the tree has
pub record KeepsLanes (tree next : Tree) : Type 0 where
  pub roles : KeepsRoles tree.catalogue next.catalogue
  pub lane_a : next.lane_a ≡ tree.lane_a
  pub lane_b : next.lane_b ≡ tree.lane_b

-- or they are turned: lane B is lane A, and lane B is empty
pub record TurnsLanes (tree next : Tree) : Type 0 where
  pub roles : TurnsRoles tree.catalogue next.catalogue
  pub lane_a : next.lane_a ≡ tree.lane_b
  pub lane_b : next.lane_b ≡ no_lane

-- One commit may lead from the tree to the next one.
pub record MayFollow (sizes : Sizes) (tree next : Tree) : Type 0 where
  pub follows : IsNext sizes tree.catalogue next.catalogue
  pub lanes : KeepsLanes tree next ⊎ TurnsLanes tree next
