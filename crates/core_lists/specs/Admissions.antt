-- An admission's moves, over the lists of the tree that the file holds: the swaps that are due, the begin of a pass, the write and its entry.
-- Each law has the file and the tree as they are after its move.
use Rattle.std.specs.Prelude.{◌≡◌}
use Rattle.tree_file.specs.Tree.{Tree}
use Rattle.tree_runs.specs.Holding.{IsDeepSwapped}
use Rattle.core_moves.specs.declared.held.Held.{Held}
use Rattle.core_moves.specs.Held.{IsDeepDone}

-- ---- the trees

-- The deep merge's swap makes the next tree where it is done, and else the tree stays.
pub record DeepSettlesTree (old : Held) (tree next : Tree) : Type 0 where
  pub done : IsDeepDone old → IsDeepSwapped tree next
  pub rests : (IsDeepDone old → ⊥) → next ≡ tree
