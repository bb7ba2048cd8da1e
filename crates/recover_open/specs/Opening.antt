-- What opening a store finds, and what it leaves.
use Rattle.std.specs.Prelude.{◌≡◌, ◌≢◌, ◌⊎◌, ℕ, ◌+◌, ◌≤◌, IsTrue, List, [], Option, None, Some, Result, Ok, Err, IfOk, IfErr, length, max}
use Rattle.disk_trait.specs.Disk.{DiskState}
use Rattle.disk_trait.specs.Effects.{Affects}
use Rattle.disk_trait.specs.Moments.{LeavesOnly, LeavesOnlyOnceSynced, IsOldOr}
use Rattle.blsm_model.specs.Sizes.{IsGeometry, Sizes}
use Rattle.blsm_model.specs.Geometry.{capacity, file_length}
use Rattle.blsm_model.specs.Book.{Book}
use Rattle.blsm_model.specs.declared.room.Room.{Room}
use Rattle.gated_log.specs.Lane.{no_lane}
use Rattle.catalog_swap.specs.declared.catalog.Catalog.{Catalog}
use Rattle.record_delta.specs.Entries.{entries_weight}
use Rattle.blsm_model.specs.declared.key.Key.{Key}
use Rattle.blsm_model.specs.declared.row.Value.{Value}
use Rattle.store_file.specs.Layout.{superblock_length}
use Rattle.tree_file.specs.Tree.{Tree, FitsSizes, HoldsTree, ReadsAsMap, components_weight, map_of_tree}
use Rattle.tree_log.specs.Log.{LogState, IsLogOf}
use Rattle.tree_runs.specs.Runs.{RunsState}
use Rattle.tree_runs.specs.Holding.{AreOf, StandOver}
use Rattle.page_file.specs.Component.{entries_of}
use Rattle.tree_machine.specs.Machine.{opened}
use Rattle.core_moves.specs.Held.{charge_in}
use Rattle.core_lists.specs.Shown.{lanes_weight}
use Rattle.core_lists.specs.Standing.{catalogue_of}
use Rattle.tree_core.specs.Core.{CoreState}
use Rattle.tree_core.specs.Holds.{StandsWhole}
use Rattle.tree_reading.specs.Damage.{most_version}
use Rattle.tree_reading.specs.Reading.{IsHead, IsWhy, calls_of_reading, reading_calls}
use Rattle.tree_reading.specs.declared.found.Found.{Found}
use Rattle.tree_reading.specs.declared.found.Unreadable.{Unreadable}
use Rattle.recover_open.specs.declared.beginning.Begun.{Begun}
use Rattle.recover_open.specs.declared.opening.NotOpened.{NotOpened}
use Rattle.tree_settling.specs.Settling.{CallsFew, IsSettled, KeepsMap, MaySettle, anywhere, components_of, settling_calls}

-- Each image of each moment is one from before or reads as this map, and since the first sync each reads so. So the disk does.
pub record KeepsMapOf (sizes : Sizes) (pairs : List (Key × Value)) (old new : DiskState) : Type 0 where
  pub each : LeavesOnly old new (IsOldOr old.images (ReadsAsMap sizes pairs))
  pub once_synced : LeavesOnlyOnceSynced old new (ReadsAsMap sizes pairs)
  pub reads : ReadsAsMap sizes pairs new.bytes

-- The file reads as no map.
abbrev pub ReadsAsNone : List ℕ → Type 0
ReadsAsNone file = (sizes : Sizes) (pairs : List (Key × Value)) → ReadsAsMap sizes pairs file → ⊥

-- how much a tree weighs: its components, and the tables that its lanes replay to
abbrev pub weight_of_tree : Tree → ℕ
weight_of_tree tree = components_weight tree + lanes_weight tree

-- The disk stands on a tree with empty lanes, of which these components are. It has the map of the tree that was read, and its components
-- weigh no more than that tree.
pub record StandsEmpty (runs : RunsState) (image : Tree) (d : DiskState) : Type 0 where
  pub tree : Tree
  pub over : StandOver runs tree d
  pub lane_a : tree.lane_a ≡ no_lane
  pub lane_b : tree.lane_b ≡ no_lane
  pub map_is : map_of_tree tree ≡ map_of_tree image
  pub light : components_of runs.catalogue ≤ weight_of_tree image

-- and the file from before holds that tree, which fits, with a version that is taken
pub record HasOpenedOn (runs : RunsState) (file : List ℕ) (d : DiskState) : Type 0 where
  pub image : Tree
  pub holds : HoldsTree runs.sizes image file
  pub fits : FitsSizes runs.sizes image
  pub taken : image.catalogue.version ≤ most_version
  pub stands : StandsEmpty runs image d

-- In this file components and log are of this tree, which fits.
pub record BeginsIn (runs : RunsState) (log : LogState) (tree : Tree) (file : List ℕ) : Type 0 where
  pub are_of : AreOf runs tree file
  pub log_of : IsLogOf tree log
  pub fits : FitsSizes runs.sizes tree

-- They are settled, on any disk, by so many commits more than the catalogue that was found.
pub record IsReady (sizes : Sizes) (version : ℕ) (runs : RunsState) (log : LogState) (d : DiskState) : Type 0 where
  pub may : MaySettle runs log d
  pub settled : IsSettled runs log
  pub sizes_are : runs.sizes ≡ sizes
  pub commits : runs.catalogue.version ≤ version + 5

-- Where the disk tells its bytes they are as many as a store of these sizes has.
abbrev pub HasLengthOf : Sizes → DiskState → Type 0
HasLengthOf sizes d = IsTrue d.tells_bytes → length d.bytes ≡ file_length sizes

-- ---- how many calls

-- how much the tables weigh that were found, and all that was found
abbrev pub tables_of : Found → ℕ
tables_of found = entries_weight found.a.entries + entries_weight found.b.entries

abbrev pub weight_found : Found → ℕ
weight_found found = components_of found.catalogue + tables_of found

-- Those of an opening that finds this catalogue, so many records in its lanes, and tables that weigh so much: a sync, the reading, and settling.
abbrev pub opening_calls : Sizes → Catalog → (a b tables : ℕ) → ℕ
opening_calls sizes catalogue a b tables = (1 + calls_of_reading catalogue a b) + settling_calls sizes (components_of catalogue + tables)

-- Those of any opening of a store of these sizes: as if a walk met each page, and the components filled the capacity.
abbrev pub most_opening_calls : Sizes → ℕ
most_opening_calls sizes = (1 + reading_calls sizes) + settling_calls sizes (capacity sizes)

-- An opening calls the disk no more than what it read takes: a catalogue that is valid for these sizes, so many records in its lanes, and tables that
-- weigh so much; nor more than any opening of a store of these sizes. On an honest disk what it read is what the file holds.
pub record TakesFew (sizes : Sizes) (old new : DiskState) : Type 0 where
  pub catalogue : Catalog
  pub head : IsHead sizes catalogue
  pub records_a : ℕ
  pub records_b : ℕ
  pub tables : ℕ
  pub few : CallsFew (opening_calls sizes catalogue records_a records_b tables) old new
  pub by_sizes : CallsFew (most_opening_calls sizes) old new
  pub full : components_of catalogue + tables ≤ capacity sizes
  pub reads : IsTrue old.is_honest
      → (image : Tree) × HoldsTree sizes image old.bytes × (image.catalogue ≡ catalogue) × (length image.lane_a.entries ≡ records_a) ×
      (length image.lane_b.entries ≡ records_b) × (lanes_weight image ≡ tables)

-- how many calls that is
abbrev pub calls_taken : {sizes : Sizes} {old new : DiskState} → TakesFew sizes old new → ℕ
calls_taken {sizes} takes = opening_calls sizes takes.catalogue takes.records_a takes.records_b takes.tables

-- No more than those of the sizes of which the file's length is, or three.
abbrev pub CallsInside : DiskState → DiskState → Type 0
CallsInside old new = CallsFew 3 old new ⊎ ((sizes : Sizes) × IsGeometry sizes × HasLengthOf sizes old × CallsFew (most_opening_calls sizes) old new)

-- Some calls, none of which ends behind the superblock and the file.
pub record StaysInside (old new : DiskState) : Type 0 where
  pub end : ℕ
  pub calls : ℕ
  pub few : CallsInside old new
  pub inside : IsTrue old.tells_bytes → end ≤ max superblock_length (length old.bytes)
  pub effect : Affects anywhere end calls old new

-- A refusal without a fault wrote nothing: each image of each moment is one from before.
abbrev pub SparesImages : Unreadable → DiskState → DiskState → Type 0
SparesImages why old new = why ≢ Unreadable.Fault → LeavesOnly old new old.images

-- What settling tells of this tree of the file, where a crash leaves nothing but what the disk reads as.
pub record TellsSettled (sizes : Sizes) (image : Tree) (result : Result Begun Unreadable) (old new : DiskState) : Type 0 where
  pub keeps : KeepsMap sizes (map_of_tree image) old new
  pub stands : IfOk result (λ begun. StandsEmpty begun.runs image new)
  pub why : IfErr result (λ why. IsWhy why old.bytes)
  pub spares : IfErr result (λ why. SparesImages why old new)

-- ---- the core

-- the disk that a caller has again, in a core or with a refusal
abbrev pub disk_of : {D : Type 0} → Result (CoreState D) (NotOpened D) → D
disk_of (Ok core) = core.disk
disk_of (Err refused) = refused.disk

-- why there is no core
abbrev pub why_of : {D : Type 0} → Result (CoreState D) (NotOpened D) → Option Unreadable
why_of (Ok core) = None
why_of (Err refused) = Some refused.why

-- a history without entries, and this room
abbrev pub no_entries : Room → Book
no_entries room = record { entries = []; quanta = []; room = room }

-- The file reads as a map, with a version that is taken, and the core stands for the machine's first state, whose history begins with that map.
pub record OpensAs {D : Type 0} (state : D → DiskState) (room : Room) (core : CoreState D) (file : List ℕ) : Type 0 where
  pub pairs : List (Key × Value)
  pub reads : ReadsAsMap core.held.runs.sizes pairs file
  pub image : Tree
  pub holds : HoldsTree core.held.runs.sizes image file
  pub taken : image.catalogue.version ≤ most_version
  -- settling adds no weight to what was read
  pub light : charge_in core.held ≤ weight_of_tree image
  pub tree : Tree
  pub stands : StandsWhole state pairs core
      (opened core.held.runs.sizes (entries_of tree.c1) (entries_of tree.c2) (catalogue_of core.held.runs.catalogue) (state core.disk).faults room)
