-- Keys, which are lists of bytes, and their order.
use Rattle.std.specs.Prelude.{Bool, not, ◌&&◌, nat_eq}
use Rattle.std.specs.Ordering.{nat_cmp, is_lt}
use Rattle.std.specs.declared.cmp.Ordering.{Ordering}
use Rattle.std.specs.Cmp.Lexicographic.{slice_cmp, pointwise}
use Rattle.blsm_model.specs.declared.key.Key.{Key}

-- whether two keys have the same bytes
abbrev pub same_key : Key → Key → Bool
same_key a b = pointwise nat_eq a b

-- bytewise
abbrev pub key_cmp : Key → Key → Ordering
key_cmp a b = slice_cmp nat_cmp a b

-- low ≤ key < high
abbrev pub in_range : Key → Key → Key → Bool
in_range low high key = not (is_lt (key_cmp key low)) && is_lt (key_cmp key high)
