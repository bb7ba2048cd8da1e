-- The map that a list of writes leaves, and its rows in a range of keys.
use Rattle.std.specs.Prelude.{List, [], ◌∷◌, codes, map, filter, Option, Some, None}
use Rattle.std.specs.FinMap.{put}
use Rattle.blsm_model.specs.declared.key.Key.{Key}
use Rattle.blsm_model.specs.declared.row.Value.{Value}
use Rattle.blsm_model.specs.declared.row.Row.{Row}
use Rattle.blsm_model.specs.declared.op.Write.{Write}
use Rattle.blsm_model.specs.declared.op.Write.TheVariants.{Put}
use Rattle.blsm_model.specs.Keys.{key_cmp, in_range}
use Rattle.blsm_model.specs.Values.{key_of, value_at}

-- a key and its value, in its place among the rows; nothing where it has no value
abbrev pub with_value : Key → Option Value → List (Key × Value) → List (Key × Value)
with_value key None pairs = pairs
with_value key (Some value) pairs = put key_cmp key value pairs

-- each of the keys that is present, once, with its value, in key order
abbrev pub pairs_at : List Write → List Key → List (Key × Value)
pairs_at writes [] = []
pairs_at writes (key ∷ keys) = with_value key (value_at writes key) (pairs_at writes keys)

-- the map of the writes: each present key with its value, in key order
abbrev pub map_of : List Write → List (Key × Value)
map_of writes = pairs_at writes (map key_of writes)

-- its rows from low on, without high
abbrev pub rows : List Write → Key → Key → List Row
rows writes low high = map (λ p. record { key = p.0; value = p.1 }) (filter (λ p. in_range low high p.0) (map_of writes))

-- what stands in the unused places of a list of rows, where no contract sees it
abbrev pub unused_row : Row
unused_row = record { key = codes "-"; value = record { count = 0; text = [] } }

-- one put for each pair
abbrev pub puts_of : List (Key × Value) → List Write
puts_of pairs = map (λ p. Put p.0 p.1) pairs
