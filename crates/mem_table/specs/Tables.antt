-- What contracts see of a memory table.
use Rattle.std.specs.Prelude.{◌≡◌, ◌≢◌, ℕ, ◌≤◌, ◌<◌, ◌+◌, ◌*◌, Bool, false, true, not, length, get_or, map, List, [], ◌∷◌, ◌++◌, Option, Some, None, is_some, if◌then◌else◌}
use Rattle.std.specs.List.{AllByRecursion, position}
use Rattle.std.specs.Ordering.{eq_by_cmp}
use Rattle.blsm_model.specs.Format.{least_weight}
use Rattle.blsm_model.specs.declared.key.Key.{Key}
use Rattle.blsm_model.specs.Keys.{key_cmp}
use Rattle.record_delta.specs.declared.record.Rec.{Rec}
use Rattle.record_delta.specs.Entries.{Entries, AreSorted, entries_weight, with_record, is_above, above, up_to}
use Rattle.mem_table.specs.declared.nodes.Node.{Node}
use Rattle.mem_table.specs.Shapes.{places, times, no_node, tree_at, IsBalanced, Holds}
use Rattle.mem_table.specs.Ways.{entry_at, tree_entries}

pub record Contents : Type 0 where
  pub entries : Entries
  -- how much the entries and what was dropped of them may weigh, in bytes
  pub reserved : ℕ
  -- the keys in the order in which they came; where one stands is its place, and where one was dropped stands an empty one
  pub arrived : List Key
  -- the key up to which all were dropped
  pub floor : Option Key
  -- how much those weighed that were dropped, in bytes
  pub dropped : ℕ

-- a table that has nothing, and of which nothing was dropped
abbrev pub empty_table : ℕ → Contents
empty_table reserved = record { entries = []; reserved = reserved; arrived = []; floor = None; dropped = 0 }

-- nothing was dropped of it
abbrev pub IsWhole : Contents → Type 0
IsWhole table = (table.floor ≡ None) × (table.dropped ≡ 0)

-- whether it is this key that stands there, and not an empty one
abbrev pub is_there : Key → Key → Bool
is_there key [] = false
is_there key (b ∷ k) = eq_by_cmp key_cmp key (b ∷ k)

-- the place of a key, if it came and wasn't dropped since
abbrev pub place_in : Key → List Key → Option ℕ
place_in key arrived = position (is_there key) arrived

-- a key that is there keeps its place, and a new one comes last
abbrev pub arrived_with : Key → List Key → List Key
arrived_with key arrived = if is_some (place_in key arrived) then arrived else arrived ++ key ∷ []

-- the keys above this one at their places, and an empty one where another stood
abbrev pub left_above : Key → List Key → List Key
left_above low arrived = map (λ k. if is_above (Some low) k then k else []) arrived

-- a floor that is raised to a key, or stays where it is higher
abbrev pub raised : Key → Option Key → Option Key
raised key floor = if is_above floor key then Some key else floor

-- without the entries up to a key
abbrev pub dropped_to : Key → Contents → Contents
dropped_to key table = record {
  entries = above (Some key) table.entries;
  reserved = table.reserved;
  arrived = left_above key table.arrived;
  floor = raised key table.floor;
  dropped = table.dropped + entries_weight (up_to (Some key) table.entries);
}

-- whether there is a first key, which isn't above this one
abbrev pub begins_by : Key → Entries → Bool
begins_by key [] = false
begins_by key (e ∷ entries) = not (is_above (Some key) e.0)

-- What holds of sorted entries of this weight, where so much was dropped up to the floor, there are so many places, and this weight is
-- reserved.
pub record IsTable (entries : Entries) (floor : Option Key) (weight dropped reserved places : ℕ) : Type 0 where
  pub sorted : AreSorted entries
  pub above_floor : AllByRecursion (λ e. is_above floor e.0 ≡ true) entries
  pub weight_is : weight ≡ entries_weight entries
  pub fits : weight + dropped ≤ reserved
  pub keys : AllByRecursion (λ e. 1 ≤ length e.0) entries
  -- so that there is a place for one entry more wherever its weight fits, since no key is empty
  pub room : reserved < least_weight * (places + 1)

abbrev pub keys_of : Entries → List Key
keys_of slots = map (λ e. e.0) slots

-- no key but an empty one stands at two places
abbrev pub AreApart : List Key → Type 0
AreApart keys = (i j : ℕ) → i < j → j < length keys → 1 ≤ length (get_or keys j []) → get_or keys i [] ≢ get_or keys j []

-- What holds of the nodes and the entries of a table, each at its place. An entry that was dropped leaves its place vacant: no node of the
-- tree has its number, and its key is empty.
pub record IsArena (nodes : List Node) (slots : Entries) (root : ℕ) (floor : Option Key) (weight dropped reserved places_for_nodes : ℕ) : Type 0 where
  pub table : IsTable (tree_entries nodes slots root) floor weight dropped reserved places_for_nodes
  -- in whichever order they weigh the same, and a vacant place less than what was dropped from it
  pub slots_weight : entries_weight slots ≤ weight + dropped
  pub vacant_places : least_weight * length slots ≤ least_weight * length (places (tree_at nodes root)) + dropped
  -- all places have a number
  pub numbered : reserved < least_weight * no_node
  pub as_many : length slots ≡ length nodes
  pub once : (q : ℕ) → times q (places (tree_at nodes root)) ≤ 1
  pub there : (q : ℕ) → 1 ≤ length (entry_at slots q).0 → 1 ≤ times q (places (tree_at nodes root))
  pub holds : Holds nodes root (tree_at nodes root)
  pub balanced : IsBalanced (tree_at nodes root)
  pub distinct : AreApart (keys_of slots)

-- the record is folded into the entries, and all else stays
abbrev pub IsFoldedIn : Key → Rec → Contents → Contents → Type 0
IsFoldedIn key rec old new = new ≡ record old { entries = with_record key rec old.entries; arrived = arrived_with key old.arrived }
