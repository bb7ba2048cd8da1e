-- What settling a tree takes, keeps and reaches. Weights are in bytes.
use Rattle.std.specs.Prelude.{◌≡◌, ◌≢◌, ◌⊎◌, ⊤, ℕ, ◌+◌, ◌*◌, ◌/◌, ◌<◌, ◌≤◌, [], List, Option, None, Some, Result, Err, IsOk, IsTrue, OnOk, length}
use Rattle.disk_trait.specs.Disk.{DiskState, TellsFaultsBy}
use Rattle.disk_trait.specs.Effects.{Affects}
use Rattle.disk_trait.specs.Moments.{LeavesOnly}
use Rattle.disk_trait.specs.Region.{Region}
use Rattle.blsm_model.specs.Sizes.{Sizes}
use Rattle.blsm_model.specs.Geometry.{c1_mark, capacity, file_length, high_mark}
use Rattle.blsm_model.specs.Lanes.{AreRoles}
use Rattle.blsm_model.specs.declared.key.Key.{Key}
use Rattle.blsm_model.specs.declared.row.Value.{Value}
use Rattle.gated_log.specs.Lane.{no_lane}
use Rattle.catalog_swap.specs.declared.catalog.Catalog.{Catalog}
use Rattle.catalog_swap.specs.declared.catalog.Progress.{Progress}
use Rattle.page_file.specs.declared.file.Broken.{Broken}
use Rattle.page_file.specs.declared.file.Broken.TheVariants.{Fault}
use Rattle.mem_table.specs.Tables.{IsWhole}
use Rattle.record_delta.specs.Entries.{Entries, replayed}
use Rattle.tree_file.specs.Tree.{Tree, HoldsTree, FitsSizes, ReadsAsMap, map_of_tree}
use Rattle.tree_file.specs.Places.{StandsOn}
use Rattle.tree_log.specs.Log.{LogState, IsLogOf, end_of_a, end_of_b, weight_of_tables}
use Rattle.tree_runs.specs.Runs.{RunsState, AreRunning, left_for_pass, left_for_deep, made_by_pass, made_by_deep}
use Rattle.tree_runs.specs.Holding.{StandOver}

-- how much the components weigh, by the catalogue
abbrev pub components_of : Catalog → ℕ
components_of catalogue = catalogue.c1.weight + catalogue.c1x.weight + catalogue.c2.weight

-- nothing is said of where a run of calls writes
abbrev pub anywhere : Region
anywhere = λ i. ⊤

-- ---- how many calls

-- so many at most
abbrev pub CallsFew : ℕ → DiskState → DiskState → Type 0
CallsFew most old new = new.clock ≤ old.clock + most

-- those of one quantum
abbrev pub quantum_calls : Sizes → ℕ
quantum_calls sizes = sizes.quantum / 4 + 3

-- Those of a merge that goes on to its end and takes so many bytes: one for three of them, and those of one quantum more.
abbrev pub taking_calls : Sizes → ℕ → ℕ
taking_calls sizes weight = weight / 3 + quantum_calls sizes

-- and those of its swap, which are nine
abbrev pub merge_calls : Sizes → ℕ → ℕ
merge_calls sizes weight = taking_calls sizes weight + 9

-- Those of settling what weighs so much: of a deep merge, and twice of a pass and of the deep merge that follows.
abbrev pub settling_calls : Sizes → ℕ → ℕ
settling_calls sizes weight = 5 * merge_calls sizes weight

-- how much components and tables weigh that are settled; none of its merges takes more
abbrev pub settling_weight : RunsState → LogState → ℕ
settling_weight runs log = components_of runs.catalogue + weight_of_tables log

-- ---- merges that go on

-- how much the run of a pass weighs, with what is left for it, and that of a deep merge
abbrev pub due_to_pass : RunsState → Entries → ℕ
due_to_pass runs a = (made_by_pass runs.pass).weight + left_for_pass runs.pass a

abbrev pub due_to_deep : RunsState → ℕ
due_to_deep runs = (made_by_deep runs.deep).weight + left_for_deep runs.deep

-- the table has all of the tree's list of table A
abbrev pub IsTableOf : Entries → Tree → Type 0
IsTableOf a tree = replayed tree.lane_a.entries ≡ a

-- Merges went on by quanta, each of which went well: over each tree that stood, in each image of each moment. Neither's run weighs more, with
-- what is left for it, than it did.
pub record MergesGoOn (a : Entries) (old new : RunsState) (before after : DiskState) : Type 0 where
  pub running : AreRunning after.is_honest after.bytes new
  pub sizes : new.sizes ≡ old.sizes
  pub catalogue : new.catalogue ≡ old.catalogue
  pub pass : due_to_pass new a ≤ due_to_pass old a
  pub deep : due_to_deep new ≤ due_to_deep old
  pub stands : (tree : Tree) → IsTrue before.is_honest → IsTableOf a tree → StandOver old tree before → StandOver new tree after
  pub leaves : (tree : Tree) → IsTrue before.is_honest → IsTableOf a tree → StandOver old tree before
      → LeavesOnly before after (HoldsTree old.sizes tree)
  pub calls : ℕ
  pub effect : Affects anywhere (file_length old.sizes) calls before after
  pub calm : after.faults ≡ before.faults

-- What going on with a merge tells until it has taken all of so many bytes: over each tree that stood, which stands whatever is answered.
pub record TakesAll (a : Entries) (weight : ℕ) (runs runs' : RunsState) (result : Result ℕ Broken) (old new : DiskState) : Type 0 where
  pub keeps : (tree : Tree) → IsTrue old.is_honest → IsTableOf a tree → StandOver runs tree old
      → StandsOn runs.sizes tree new × LeavesOnly old new (HoldsTree runs.sizes tree)
  pub ends : (tree : Tree) → IsTrue old.is_honest → IsTableOf a tree → StandOver runs tree old → result ≢ Err Fault → IsOk result
  pub goes_on : OnOk result (MergesGoOn a runs runs' old new)
  pub effect : Affects anywhere (file_length runs.sizes) (taking_calls runs.sizes weight) old new
  pub faults : TellsFaultsBy (Err Fault) result old new

-- ---- steps of settling

-- how much of C1' and C2 a deep merge had taken up to the key that is named with its finished pages, and needn't take again
abbrev pub taken_before : Option Progress → ℕ
taken_before None = 0
taken_before (Some progress) = progress.z

-- The run of a deep merge and what is left for it weigh no more than C1' and C2; nor do what it had taken before and what is left.
pub record IsDeepLight (runs : RunsState) : Type 0 where
  pub run : due_to_deep runs ≤ runs.catalogue.c1x.weight + runs.catalogue.c2.weight
  pub rest : taken_before runs.catalogue.progress + left_for_deep runs.deep ≤ runs.catalogue.c1x.weight + runs.catalogue.c2.weight

-- On any disk: components and a log that were read, or are being settled; no pass runs. C1 is below its mark, the tables are within the high mark
-- and all is within the capacity. The tables are what some lanes replay to, behind which they end; nothing was dropped of them.
pub record HasBegun (runs : RunsState) (log : LogState) : Type 0 where
  pub pass : runs.pass ≡ None
  pub roles : AreRoles runs.catalogue.lanes
  pub sizes : log.lanes.sizes ≡ runs.sizes
  pub lanes : Tree
  pub lanes_are : lanes.catalogue ≡ runs.catalogue
  pub log_of : IsLogOf lanes log
  pub whole_a : IsWhole log.a
  pub mark : runs.catalogue.c1.weight < c1_mark runs.sizes
  pub high : weight_of_tables log ≤ high_mark runs.sizes
  pub full : components_of runs.catalogue + weight_of_tables log ≤ capacity runs.sizes
  pub deep : IsDeepLight runs
  pub reserved_a : high_mark runs.sizes ≤ log.a.reserved
  pub reserved_b : high_mark runs.sizes ≤ log.b.reserved

-- And the components run on this disk, which has their length.
pub record MaySettle (runs : RunsState) (log : LogState) (d : DiskState) : Type 0 where
  pub running : AreRunning d.is_honest d.bytes runs
  pub long : IsTrue d.tells_bytes → length d.bytes ≡ file_length runs.sizes
  pub begun : HasBegun runs log

-- On an honest disk: it stands on a tree that reads as this map, and components and log are of it.
pub record ShowsMap (runs : RunsState) (log : LogState) (pairs : List (Key × Value)) (d : DiskState) : Type 0 where
  pub tree : Tree
  pub over : StandOver runs tree d
  pub log_of : IsLogOf tree log
  pub fits : FitsSizes runs.sizes tree
  pub map_is : map_of_tree tree ≡ pairs

-- what a run of calls leaves of a map: at each moment, and as the disk reads, a file that reads as it
pub record KeepsMap (sizes : Sizes) (pairs : List (Key × Value)) (old new : DiskState) : Type 0 where
  pub each : LeavesOnly old new (ReadsAsMap sizes pairs)
  pub reads : ReadsAsMap sizes pairs new.bytes

-- What so many calls of settling leave, whatever they answer: on an honest disk that showed a map each image of each moment reads as it.
pub record LeavesMaps (most : ℕ) (runs : RunsState) (log : LogState) (old new : DiskState) : Type 0 where
  pub keeps : (pairs : List (Key × Value)) → IsTrue old.is_honest → ShowsMap runs log pairs old → KeepsMap runs.sizes pairs old new
  pub effect : Affects anywhere (file_length runs.sizes) most old new

-- And once it is done: the disk shows the map that it showed, and settling may go on. Components and tables together weigh no more than they did.
-- What was committed, if anything was, names nothing of a deep merge.
pub record SettlesOn (runs runs' : RunsState) (log log' : LogState) (old new : DiskState) : Type 0 where
  pub shows : (pairs : List (Key × Value)) → IsTrue old.is_honest → ShowsMap runs log pairs old → ShowsMap runs' log' pairs new
  pub may : MaySettle runs' log' new
  pub light : components_of runs'.catalogue + weight_of_tables log' ≤ components_of runs.catalogue + weight_of_tables log
  pub sizes : runs'.sizes ≡ runs.sizes
  pub calm : new.faults ≡ old.faults
  pub named : (runs'.catalogue ≡ runs.catalogue) ⊎ (runs'.catalogue.progress ≡ None)

-- What a step of settling tells, which takes so many merges and commits at most: what it leaves, whatever it answers; what it reaches; and that on an
-- honest disk which shows a map nothing but a fault of the disk keeps it from being done.
pub record Settles (most : ℕ) (runs runs' : RunsState) (log log' : LogState) (result : Result ℕ Broken) (old new : DiskState) : Type 0 where
  pub leaves : LeavesMaps (most * merge_calls runs.sizes (settling_weight runs log)) runs log old new
  pub on : OnOk result (SettlesOn runs runs' log log' old new)
  pub ends : (pairs : List (Key × Value)) → IsTrue old.is_honest → ShowsMap runs log pairs old → result ≢ Err Fault → IsOk result
  pub version : OnOk result (runs'.catalogue.version ≤ runs.catalogue.version + most)
  pub faults : TellsFaultsBy (Err Fault) result old new

-- No merge runs, and neither table has an entry, nor has its lane, whichever tree's the log is.
pub record IsSettled (runs : RunsState) (log : LogState) : Type 0 where
  pub pass : runs.pass ≡ None
  pub deep : runs.deep ≡ None
  pub a : log.a.entries ≡ []
  pub b : log.b.entries ≡ []
  pub end_a : end_of_a log ≡ 0
  pub end_b : end_of_b log ≡ 0
  pub lanes : (tree : Tree) → IsLogOf tree log → (tree.lane_a ≡ no_lane) × (tree.lane_b ≡ no_lane)
