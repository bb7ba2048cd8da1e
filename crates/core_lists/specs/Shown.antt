-- What a crash shows: each image that holds the tree reads as the map of the history, and weighs no more than was worked and written.
use Rattle.std.specs.Prelude.{◌≡◌, ◌⊎◌, ℕ, ◌+◌, ◌*◌, ◌≤◌, List, length, sum, sum_by, if◌then◌else◌}
use Rattle.blsm_model.specs.declared.key.Key.{Key}
use Rattle.blsm_model.specs.declared.row.Value.{Value}
use Rattle.blsm_model.specs.declared.history.Entry.{Entry}
use Rattle.blsm_model.specs.Sizes.{Sizes}
use Rattle.blsm_model.specs.Histories.{writes_of}
use Rattle.blsm_model.specs.Images.{Shows, is_unsure}
use Rattle.blsm_model.specs.Legal.{total_weight}
use Rattle.disk_trait.specs.Disk.{DiskState}
use Rattle.record_delta.specs.Entries.{entries_weight, replayed}
use Rattle.pacing.specs.Kept.{most_taken}
use Rattle.pacing.specs.Fronts.{Fronts}
use Rattle.tree_machine.specs.Lists.{Lists}
use Rattle.tree_machine.specs.Machine.{Machine}
use Rattle.paced_tree.specs.Lanes.{IsLane}
use Rattle.tree_file.specs.Tree.{Tree, HoldsTree, ReadsAsMap, components_weight}

-- The lanes replay to the tables, and no front of a lane weighs more than these.
pub record HasFronts (tree : Tree) (lists : Lists) (fronts : Fronts) : Type 0 where
  pub lane_a : IsLane tree.lane_a.entries lists.a fronts.lane_a
  pub lane_b : IsLane tree.lane_b.entries lists.b fronts.lane_b

-- ---- what a file weighs

-- the weight of an entry's writes where its reply is unsure, so that a file may have them or not
abbrev pub weight_in_doubt : Entry → ℕ
weight_in_doubt entry = if is_unsure entry.reply then total_weight (writes_of entry.op) else 0

abbrev pub doubted : List Entry → ℕ
doubted history = sum_by weight_in_doubt history

-- what the tables weigh to which the lanes replay
abbrev pub lanes_weight : Tree → ℕ
lanes_weight tree = entries_weight (replayed tree.lane_a.entries) + entries_weight (replayed tree.lane_b.entries)

-- The file holds a tree whose components and lanes weigh no more than these.
pub record HoldsWithin (sizes : Sizes) (most_components most_lanes : ℕ) (file : List ℕ) : Type 0 where
  pub tree : Tree
  pub holds : HoldsTree sizes tree file
  pub components : components_weight tree ≤ most_components
  pub lanes : lanes_weight tree ≤ most_lanes

-- the charge at the opening, and what all quanta can have taken
abbrev pub most_worked : Machine → ℕ
most_worked m = m.counts.charge + most_taken m.gears.sizes * sum m.seats.quanta

-- The components weigh no more than was worked, so that no merge work is done in secret; the lanes no more than the peak and the writes in doubt.
abbrev pub WeighsWithin : Machine → List Entry → List ℕ → Type 0
WeighsWithin m history file = HoldsWithin m.gears.sizes (most_worked m) (m.counts.peak + doubted history) file

-- ---- how many commits a file tells

-- The file holds a tree of this version of the catalogue, or of the next one: a commit that failed may have opened its slot's gate.
pub record HasVersion (sizes : Sizes) (version : ℕ) (file : List ℕ) : Type 0 where
  pub tree : Tree
  pub holds : HoldsTree sizes tree file
  pub one : (tree.catalogue.version ≡ version) ⊎ (tree.catalogue.version ≡ version + 1)

-- as the disk reads, and in each image
pub record HasCommitted (sizes : Sizes) (version : ℕ) (d : DiskState) : Type 0 where
  pub reads : HasVersion sizes version d.bytes
  pub each : (c : List ℕ) → d.images c → HasVersion sizes version c

-- as many commits as the machine counted, or one more
abbrev pub CommitsAs : Machine → DiskState → Type 0
CommitsAs m d = HasCommitted m.gears.sizes m.catalogue.version d

-- ---- in the words of what an image may show

-- The file reads as the map after a front of the history that has n entries at least, where a write in doubt counts or not.
abbrev pub ShowsHistory : Sizes → List (Key × Value) → List Entry → ℕ → List ℕ → Type 0
ShowsHistory sizes opening history n file = (pairs : List (Key × Value)) × Shows pairs opening history n × ReadsAsMap sizes pairs file

-- all of the machine's history, and no work that the machine doesn't count
abbrev pub ShowsWhole : List (Key × Value) → Machine → List ℕ → Type 0
ShowsWhole opening m file = ShowsHistory m.gears.sizes opening m.book.entries (length m.book.entries) file × WeighsWithin m m.book.entries file
