-- What a store's file holds: a tree of three components on pages and two lanes of the log, which its newest catalogue names, and the finished
-- pages of a deep merge, where it names these too.
use Rattle.std.specs.Prelude.{◌≡◌, ℕ, ◌+◌, ◌<◌, ◌≤◌, List, [], ◌∷◌, ◌++◌, nat_eq, Option, Some, None}
use Rattle.std.specs.List.{IsDistinct}
use Rattle.blsm_model.specs.Sizes.{Sizes}
use Rattle.blsm_model.specs.Geometry.{c1_mark, capacity}
use Rattle.blsm_model.specs.Lanes.{a_of, b_of}
use Rattle.blsm_model.specs.declared.key.Key.{Key}
use Rattle.blsm_model.specs.declared.row.Value.{Value}
use Rattle.record_delta.specs.Entries.{entries_weight, replayed}
use Rattle.record_delta.specs.Replays.{ReplaysWithin}
use Rattle.page_file.specs.Component.{RunPage, ReadsAs, entries_of, numbers_of}
use Rattle.gated_log.specs.Lane.{Lane, no_lane, HasEntries}
use Rattle.catalog_swap.specs.declared.catalog.Catalog.{Catalog}
use Rattle.catalog_swap.specs.declared.catalog.Progress.{Progress}
use Rattle.catalog_swap.specs.Slots.{IsNewest}
use Rattle.catalog_swap.specs.Text.{first_catalog}
use Rattle.store_file.specs.Layout.{IsStoreOf}
use Rattle.tree_machine.specs.Lists.{Lists, map_in}
use Rattle.tree_machine.specs.Layers.{AreBases}
use Rattle.tree_file.specs.Output.{IsOutputOf}

-- The newest catalogue; the pages of C1, C1' and C2 and the finished ones of the deep merge that it names, each with its entries; and what
-- lanes A and B have.
pub record Tree : Type 0 where
  pub catalogue : Catalog
  pub c1 : List RunPage
  pub c1x : List RunPage
  pub c2 : List RunPage
  pub output : List RunPage
  pub lane_a : Lane
  pub lane_b : Lane

-- the tree of a store that was just made
abbrev pub first_tree : Tree
first_tree = record { catalogue = first_catalog; c1 = []; c1x = []; c2 = []; output = []; lane_a = no_lane; lane_b = no_lane }

-- the lists that it has: each lane replays to its table
abbrev pub lists_of : Tree → Lists
lists_of tree = record {
  b = replayed tree.lane_b.entries;
  a = replayed tree.lane_a.entries;
  c1 = entries_of tree.c1;
  c1x = entries_of tree.c1x;
  c2 = entries_of tree.c2;
}

-- the map that it shows
abbrev pub map_of_tree : Tree → List (Key × Value)
map_of_tree tree = map_in (lists_of tree)

-- the numbers of the pages of its components
abbrev pub live_pages : Tree → List ℕ
live_pages tree = numbers_of tree.c1 ++ numbers_of tree.c1x ++ numbers_of tree.c2

-- those of the pages that must stay as they read: of these, and of the finished ones of the deep merge
abbrev pub kept_pages : Tree → List ℕ
kept_pages tree = live_pages tree ++ numbers_of tree.output

-- how much its components weigh
abbrev pub components_weight : Tree → ℕ
components_weight tree = entries_weight (entries_of tree.c1) + entries_weight (entries_of tree.c1x) + entries_weight (entries_of tree.c2)

-- In this file the tree's finished pages are what this progress of its deep merge says, and neither they nor the next page are in a component.
pub record IsNamed (sizes : Sizes) (progress : Progress) (tree : Tree) (file : List ℕ) : Type 0 where
  pub output : IsOutputOf sizes progress (entries_of tree.c1x) (entries_of tree.c2) tree.output file
  pub apart : IsDistinct nat_eq (kept_pages tree ++ progress.next ∷ [])

-- Where no progress is named, the tree has no finished pages.
abbrev pub HasProgress : Sizes → Option Progress → Tree → List ℕ → Type 0
HasProgress sizes None tree file = tree.output ≡ []
HasProgress sizes (Some progress) tree file = IsNamed sizes progress tree file

-- The file is a store of these sizes and holds this tree.
pub record HoldsTree (sizes : Sizes) (tree : Tree) (file : List ℕ) : Type 0 where
  pub store : IsStoreOf sizes file
  pub newest : IsNewest sizes tree.catalogue file
  pub c1 : ReadsAs sizes tree.catalogue.c1 tree.c1 file
  pub c1x : ReadsAs sizes tree.catalogue.c1x tree.c1x file
  pub c2 : ReadsAs sizes tree.catalogue.c2 tree.c2 file
  -- no page is in two components, and C2 has bases only
  pub apart : IsDistinct nat_eq (live_pages tree)
  pub bases : AreBases (entries_of tree.c2)
  pub progress : HasProgress sizes tree.catalogue.progress tree file
  pub lane_a : HasEntries sizes (a_of tree.catalogue.lanes) tree.lane_a file
  pub lane_b : HasEntries sizes (b_of tree.catalogue.lanes) tree.lane_b file

-- A tree that a store of these sizes may have: C1 is below its mark, and at each record of a replay the memory table is within its high
-- mark and all of the tree within the capacity.
pub record FitsSizes (sizes : Sizes) (tree : Tree) : Type 0 where
  pub mark : entries_weight (entries_of tree.c1) < c1_mark sizes
  pub full : components_weight tree ≤ capacity sizes
  pub replays : ReplaysWithin sizes (components_weight tree) tree.lane_a.entries tree.lane_b.entries

-- The file reads as this map.
pub record ReadsAsMap (sizes : Sizes) (pairs : List (Key × Value)) (file : List ℕ) : Type 0 where
  pub tree : Tree
  pub holds : HoldsTree sizes tree file
  pub fits : FitsSizes sizes tree
  pub map_is : map_of_tree tree ≡ pairs
