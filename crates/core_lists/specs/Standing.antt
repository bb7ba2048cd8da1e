-- What the core stands for on an honest disk: a state of the machine over lists.
use Rattle.std.specs.Prelude.{◌≡◌, ⊤, Option, Some, None}
use Rattle.blsm_model.specs.Lanes.{a_of, b_of, spare_of}
use Rattle.catalog_swap.specs.declared.catalog.Catalog.{Catalog}
use Rattle.snow_merge.specs.Pass.{SnowState}
use Rattle.deep_merge.specs.Merge.{DeepState}
use Rattle.tree_machine.specs.Merges.{Merge}
use Rattle.tree_machine.specs.Machine.{Machine, Catalogue}
use Rattle.seat_book.specs.State.{book_of}
use Rattle.tree_file.specs.Tree.{Tree, lists_of}
use Rattle.tree_log.specs.Log.{IsLogOf}
use Rattle.core_moves.specs.declared.held.Held.{Held}

-- the version and the lanes of the machine's catalogue
abbrev pub catalogue_of : Catalog → Catalogue
catalogue_of catalog = record { version = catalog.version; lane_a = a_of catalog.lanes; lane_b = b_of catalog.lanes; lane_spare = spare_of catalog.lanes }

-- The machine's merge runs where the core's does, and has come as far.
abbrev pub IsPassAt : Option Merge → Option SnowState → Type 0
IsPassAt None None = ⊤
IsPassAt (Some merge) (Some snow) = merge.cursor ≡ snow.at
IsPassAt merge snow = ⊥

abbrev pub IsDeepAt : Option Merge → Option DeepState → Type 0
IsDeepAt None None = ⊤
IsDeepAt (Some merge) (Some deep) = merge.cursor ≡ deep.at
IsDeepAt merge deep = ⊥

-- What the core has in memory, with the lists of this tree, is the machine's state.
pub record HoldsMachine (held : Held) (tree : Tree) (m : Machine) : Type 0 where
  pub lists : m.lists ≡ lists_of tree
  pub of_log : IsLogOf tree held.log
  pub pass : IsPassAt m.merges.pass held.runs.pass
  pub deep : IsDeepAt m.merges.deep held.runs.deep
  pub gears : m.gears ≡ held.gears
  pub spring : m.spring ≡ held.spring
  pub catalogue : m.catalogue ≡ catalogue_of held.runs.catalogue
  pub book : book_of m ≡ held.book
