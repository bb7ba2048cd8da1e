-- Sets of the numbers below a bound, and the words that they stand in.
use Rattle.std.specs.Prelude.{◌≡◌, ℕ, ◌+◌, ◌/◌, ◌%◌, ◌==◌, Bool, false, true, ◌||◌, List, [], ◌∷◌, length, map, replicate, slice_index, slice_index_or, slice_set, IsTrue}
use Rattle.std.specs.List.{range_with_len}
use Rattle.std.specs.Int.{bit_at}

-- for each place, from 0 on, whether it is in the set
abbrev pub Members : Type 0
Members = List Bool

abbrev pub IsIn : Members → ℕ → Type 0
IsIn set place = IsTrue (slice_index_or set place false)

abbrev pub none_of : ℕ → Members
none_of places = replicate places false

abbrev pub with_place : ℕ → Members → Members
with_place place set = slice_set set place true

abbrev pub union : Members → Members → Members
union [] ys = ys
union (x ∷ xs) [] = x ∷ xs
union (x ∷ xs) (y ∷ ys) = (x || y) ∷ union xs ys

-- ---- as bits of words

-- whether a place's bit is set, in words of 64 bits
abbrev pub is_set : List ℕ → ℕ → Bool
is_set words place = bit_at (slice_index words (place / 64)) (place % 64) == 1

-- the set of so many places that the words stand for
abbrev pub members : ℕ → List ℕ → Members
members places words = map (is_set words) (range_with_len 0 places)

-- there are just as many words as so many places want
abbrev pub AreFor : ℕ → List ℕ → Type 0
AreFor places words = length words ≡ (places + 63) / 64
