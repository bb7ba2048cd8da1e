-- The memory table of a tree, as contracts see it, and of which tree it is. Weights are in bytes.
use Rattle.std.specs.Prelude.{◌≡◌, ⊤, ℕ, ◌+◌, ◌<◌, ◌^◌, Bool, true, false, IsTrue, Option, Some, None, if◌then◌else◌, fold}
use Rattle.std.specs.List.{AllByRecursion}
use Rattle.blsm_model.specs.Lanes.{a_of, b_of, AreRoles}
use Rattle.blsm_model.specs.declared.key.Key.{Key}
use Rattle.record_delta.specs.Entries.{Entries, entries_weight, replayed, is_above, above, up_to}
use Rattle.record_delta.specs.Several.{with_records}
use Rattle.mem_table.specs.Tables.{Contents, IsWhole, arrived_with, empty_table, dropped_to}
use Rattle.gated_log.specs.Lane.{MayEnd}
use Rattle.gated_log.specs.Records.{cost}
use Rattle.gated_log.specs.Lanes.{LanesState, end_of, moved, turned}
use Rattle.tree_machine.specs.Lists.{Lists}
use Rattle.tree_file.specs.Tree.{Tree}
use Rattle.tree_file.specs.Places.{appended_a, appended_b}

-- Table A, which the pass takes from; table B, of the next pass; and the lanes of the log, of which lane A is table A's and lane B table B's.
pub record LogState : Type 0 where
  pub a : Contents
  pub b : Contents
  pub lanes : LanesState

-- what holds of it always: three lanes have the three roles, the weight of both tables is a number of the program, and nothing was dropped
-- of table B
pub record IsLog (log : LogState) : Type 0 where
  pub roles : AreRoles log.lanes.roles
  pub small : log.a.reserved + log.b.reserved < 2 ^ 64
  pub whole_b : IsWhole log.b

-- ---- what is read off it

-- The closed gates of lanes A and B, in bytes from each region's start.
abbrev pub end_of_a : LogState → ℕ
end_of_a log = end_of log.lanes (a_of log.lanes.roles)

abbrev pub end_of_b : LogState → ℕ
end_of_b log = end_of log.lanes (b_of log.lanes.roles)

-- the weight of table A's list: of what the table has, and of what was dropped
abbrev pub listed_in_a : LogState → ℕ
listed_in_a log = entries_weight log.a.entries + log.a.dropped

-- the weight of the memory table, as its lists are
abbrev pub weight_of_tables : LogState → ℕ
weight_of_tables log = listed_in_a log + entries_weight log.b.entries

-- how much of it is held in memory
abbrev pub resident_in : LogState → ℕ
resident_in log = entries_weight log.a.entries + entries_weight log.b.entries

-- What is written ahead of the pass goes to table A and its lane, what is behind it to table B and its own.
abbrev pub lane_for : Bool → LogState → ℕ
lane_for true log = a_of log.lanes.roles
lane_for false log = b_of log.lanes.roles

abbrev pub table_for : Bool → LogState → Contents
table_for true log = log.a
table_for false log = log.b

-- what that table's list weighs
abbrev pub listed_for : Bool → LogState → ℕ
listed_for true log = listed_in_a log
listed_for false log = entries_weight log.b.entries

-- A key that goes to table A is above what was dropped of it. Of table B nothing was.
abbrev pub IsAboveFloor : Bool → Key → LogState → Type 0
IsAboveFloor true key log = IsTrue (is_above log.a.floor key)
IsAboveFloor false key log = ⊤

-- each of these entries' keys
abbrev pub AreAboveFloor : Bool → Entries → LogState → Type 0
AreAboveFloor ahead more log = AllByRecursion (λ e. IsAboveFloor ahead e.0 log) more

-- ---- what is made of it

-- with the entries folded in, one after the other
abbrev pub folded_into : Entries → Contents → Contents
folded_into more table =
    record table { entries = with_records more table.entries; arrived = fold (λ keys e. arrived_with e.0 keys) table.arrived more }

-- with these entries more: their lane ends behind the record that they are, and they are in its table
abbrev pub with_entries : Bool → Entries → LogState → LogState
with_entries true more log = record log { a = folded_into more log.a; lanes = moved log.lanes (lane_for true log) (cost more) }
with_entries false more log = record log { b = folded_into more log.b; lanes = moved log.lanes (lane_for false log) (cost more) }

-- table A is dropped up to a key
abbrev pub dropped_log : Key → LogState → LogState
dropped_log key log = record log { a = dropped_to key log.a }

-- or as it is, where there is no key
abbrev pub dropped_by : Option Key → LogState → LogState
dropped_by None log = log
dropped_by (Some key) log = dropped_log key log

-- as it is, with nothing dropped of it
abbrev pub whole : Contents → Contents
whole table = record table { floor = None; dropped = 0 }

-- table A is cleared, B is A, of which nothing was dropped, and B is empty; the lanes turn
abbrev pub turned_log : LogState → LogState
turned_log log = record { a = whole log.b; b = empty_table log.a.reserved; lanes = turned log.lanes }

-- A record of these entries was appended: its lane is longer by it, and the other lane ends where it did.
pub record Grows (ahead : Bool) (more : Entries) (old new : LogState) : Type 0 where
  pub a : end_of_a new ≡ (if ahead then end_of_a old + cost more else end_of_a old)
  pub b : end_of_b new ≡ (if ahead then end_of_b old else end_of_b old + cost more)

-- The lanes turned: A ends where B did, and B has no entries.
pub record Turns (old new : LogState) : Type 0 where
  pub a : end_of_a new ≡ end_of_b old
  pub b : end_of_b new ≡ 0

-- ---- whose it is

-- The table has what is above its floor of a list, and counts the weight of the rest as dropped.
pub record IsRestOf (list : Entries) (table : Contents) : Type 0 where
  pub entries : table.entries ≡ above table.floor list
  pub dropped : table.dropped ≡ entries_weight (up_to table.floor list)

-- The log of this tree: the lanes have its roles, each ends where the tree's does, table A is the rest of what its lane replays to, and table B
-- all of it.
pub record IsLogOf (tree : Tree) (log : LogState) : Type 0 where
  pub roles : log.lanes.roles ≡ tree.catalogue.lanes
  pub end_a : end_of_a log ≡ tree.lane_a.end
  pub end_b : end_of_b log ≡ tree.lane_b.end
  pub may_a : MayEnd tree.lane_a
  pub may_b : MayEnd tree.lane_b
  pub a : IsRestOf (replayed tree.lane_a.entries) log.a
  pub b : log.b.entries ≡ replayed tree.lane_b.entries

-- the tree with these entries more in the one lane or the other
abbrev pub appended : Bool → Entries → Tree → Tree
appended true more tree = appended_a more tree
appended false more tree = appended_b more tree

-- The machine's tables are these: table A is the rest of its list.
pub record AreTables (lists : Lists) (log : LogState) : Type 0 where
  pub a : IsRestOf lists.a log.a
  pub b : lists.b ≡ log.b.entries
