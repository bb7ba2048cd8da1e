-- The five sorted lists of a tree, and what they say of a key. Components are those of Sears and Ramakrishnan's bLSM tree
-- (2012).
use Rattle.std.specs.Prelude.{ℕ, ◌+◌, List, [], ◌∷◌, Option, filter, map}
use Rattle.blsm_model.specs.declared.key.Key.{Key}
use Rattle.blsm_model.specs.declared.row.Value.{Value}
use Rattle.blsm_model.specs.declared.row.Row.{Row}
use Rattle.blsm_model.specs.Histories.{Contents}
use Rattle.blsm_model.specs.Keys.{in_range}
use Rattle.blsm_model.specs.Rows.{with_value}
use Rattle.record_delta.specs.declared.record.Rec.{Rec}
use Rattle.record_delta.specs.Records.{settle, settled}
use Rattle.record_delta.specs.Entries.{Entries, entries_weight, folded_over, over_any, record_of_key}

-- The lists, newest first: the memory table of the next pass and of this pass; C1; C1', which was C1 and is being merged
-- into C2; and C2.
pub record Lists : Type 0 where
  pub b : Entries
  pub a : Entries
  pub c1 : Entries
  pub c1x : Entries
  pub c2 : Entries

-- the weight of the memory table
abbrev pub memory_weight : Lists → ℕ
memory_weight lists = entries_weight lists.a + entries_weight lists.b

-- the record of a key: those of the five lists, each folded over the older ones
abbrev pub record_at : Lists → Key → Option Rec
record_at lists key =
    over_any (record_of_key key lists.b)
    (over_any (record_of_key key lists.a)
    (over_any (record_of_key key lists.c1)
    (over_any (record_of_key key lists.c1x) (record_of_key key lists.c2))))

-- the value of a key, if it is present
abbrev pub value_in : Lists → Key → Option Value
value_in lists key = settled (record_at lists key)

-- the value of each key that is present, in key order
abbrev pub settled_pairs : Entries → List (Key × Value)
settled_pairs [] = []
settled_pairs (e ∷ entries) = with_value e.0 (settle e.1) (settled_pairs entries)

-- the map of the lists
abbrev pub map_in : Lists → List (Key × Value)
map_in lists = settled_pairs (folded_over lists.b (folded_over lists.a (folded_over lists.c1 (folded_over lists.c1x lists.c2))))

-- its rows from low on, without high
abbrev pub rows_in : Lists → Key → Key → List Row
rows_in lists low high = map (λ p. record { key = p.0; value = p.1 }) (filter (λ p. in_range low high p.0) (map_in lists))

abbrev pub contents_in : Lists → Contents
contents_in lists = record { value = value_in lists; rows = rows_in lists }
