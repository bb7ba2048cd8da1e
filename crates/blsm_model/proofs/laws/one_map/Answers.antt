use Rattle.std.proofs.Common.{◌≡◌, Bool, true, false, refl, T}
use Rattle.std.specs.FinMap.{is_sorted}
use Rattle.blsm_model.specs.Keys.{key_cmp}
use Rattle.blsm_model.specs.Rows.{map_of}
use Rattle.blsm_model.proofs.RowLemmas.{find-map_of, is_sorted-map_of, same_map, find-in_range}
use Rattle.blsm_model.proofs.laws.one_map.Goals as goal

holds : (b : Bool) → T b → b ≡ true
holds true t = refl
holds false t = absurd t

pub returns-clause-values : goal.returns-clause-values
returns-clause-values c = find-map_of

pub returns-clause-order : goal.returns-clause-order
returns-clause-order c = λ writes. holds (is_sorted key_cmp (map_of writes)) (is_sorted-map_of writes)

pub returns-clause-only : goal.returns-clause-only
returns-clause-only c = same_map

pub returns-clause-range : goal.returns-clause-range
returns-clause-range c = find-in_range
