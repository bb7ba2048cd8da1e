-- Trees of keys: a tree's numbers are places in a list of entries.
use Rattle.std.specs.Prelude.{◌≡◌, ◌≢◌, ℕ, ◌+◌, ◌<◌, ◌≤◌, List, [], ◌∷◌, length, get_or, map, Option, Some, None, nat_eq, if◌then◌else◌}
use Rattle.std.specs.List.{AllByRecursion}
use Rattle.std.specs.FinMap.{put}
use Rattle.blsm_model.specs.declared.key.Key.{Key}
use Rattle.blsm_model.specs.Keys.{key_cmp}
use Rattle.record_delta.specs.declared.record.Rec.{Rec}
use Rattle.record_delta.specs.declared.record.Rec.TheVariants.{Tomb}
use Rattle.record_delta.specs.Entries.{Entries, AreSorted, is_above}
use Rattle.mem_table.specs.declared.nodes.Node.{Node}
use Rattle.mem_table.specs.Shapes.{height, places, IsBalanced, one_if, times, no_node, node_at, Holds, tree_at}

abbrev pub entry_at : Entries → ℕ → Key × Rec
entry_at slots p = get_or slots p ([], Tomb)

-- the entries at these places
abbrev pub entries_at : Entries → List ℕ → Entries
entries_at slots ps = map (entry_at slots) ps

-- the entries of the tree at a node, in its order
abbrev pub tree_entries : List Node → Entries → ℕ → Entries
tree_entries nodes slots root = entries_at slots (places (tree_at nodes root))

-- there is a tree at a node, and its keys rise
pub record IsTree (nodes : List Node) (slots : Entries) (root : ℕ) : Type 0 where
  pub few : length nodes ≤ no_node
  pub as_many : length slots ≡ length nodes
  pub holds : Holds nodes root (tree_at nodes root)
  pub sorted : AreSorted (tree_entries nodes slots root)

-- the key stands at this place, which is one of these
pub record IsPlaced (slots : Entries) (ps : List ℕ) (key : Key) (p : ℕ) : Type 0 where
  pub index : ℕ
  pub within : index < length ps
  pub there : get_or ps index no_node ≡ p
  pub in_range : p < length slots
  pub key_is : (entry_at slots p).0 ≡ key

-- the place that a number stands for, if it stands for one
abbrev pub place_of : ℕ → Option ℕ
place_of p = if nat_eq p no_node then None else Some p

-- no entry has the key
abbrev pub AreWithout : Key → Entries → Type 0
AreWithout key entries = AllByRecursion (λ e. e.0 ≢ key) entries

-- the first of these places whose key is above
abbrev pub place_above : Entries → Option Key → List ℕ → Option ℕ
place_above slots low [] = None
place_above slots low (p ∷ ps) = if is_above low (entry_at slots p).0 then Some p else place_above slots low ps

abbrev pub or_else : Option ℕ → Option ℕ → Option ℕ
or_else None other = other
or_else (Some p) other = Some p

-- a node that the tree hasn't, for a key that it hasn't
pub record IsNew (nodes : List Node) (slots : Entries) (root new : ℕ) : Type 0 where
  pub in_range : new < length nodes
  pub apart : (q : ℕ) → one_if q new + times q (places (tree_at nodes root)) ≤ 1
  pub without : AreWithout (entry_at slots new).0 (tree_entries nodes slots root)

-- the tree with one node more, at its key's place; all nodes outside it are as they were
pub record IsAdded (before after : List Node) (slots : Entries) (root new top : ℕ) : Type 0 where
  pub holds : Holds after top (tree_at after top)
  pub balanced : IsBalanced (tree_at after top)
  pub entries_are : tree_entries after slots top ≡ put key_cmp (entry_at slots new).0 (entry_at slots new).1 (tree_entries before slots root)
  pub one_more : length (places (tree_at after top)) ≡ length (places (tree_at before root)) + 1
  pub places_are : (q : ℕ) → times q (places (tree_at after top)) ≡ one_if q new + times q (places (tree_at before root))
  pub not_lower : height (tree_at before root) ≤ height (tree_at after top)
  pub one_higher : height (tree_at after top) ≤ height (tree_at before root) + 1
  pub others : (q : ℕ) → one_if q new + times q (places (tree_at before root)) ≡ 0 → node_at after q ≡ node_at before q
