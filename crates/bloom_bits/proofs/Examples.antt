-- The hash's published numbers, a filter of 64 bits and the fences of three pages, computed.
use Rattle.std.proofs.Common.{◌≡◌, zero, suc, [], ◌∷◌, refl, arith}
use Rattle.bloom_bits.specs.Hash.{hash_of}
use Rattle.bloom_bits.specs.Filter.{rounded, bit_positions}
use Rattle.bloom_bits.specs.declared.fences.Fence.{Fence}
use Rattle.bloom_bits.specs.Fences.{IsPlaceOf, IsBelowAll}
use Rattle.bloom_bits.specs.Parts.{from_fence}

no_bytes : hash_of [] ≡ 0xcbf29ce484222325
no_bytes = refl

-- "a", and "foobar"
one_byte : hash_of (97 ∷ []) ≡ 0xaf63dc4c8601ec8c
one_byte = refl

six_bytes : hash_of (102 ∷ 111 ∷ 111 ∷ 98 ∷ 97 ∷ 114 ∷ []) ≡ 0x85944171f73967e8
six_bytes = refl

-- a filter has 64 bits at least, and whole words
sizes : (rounded 0 ≡ 64) × (rounded 64 ≡ 64) × (rounded 65 ≡ 128)
sizes = (refl, refl, refl)

-- the places of "a" and of "b" among 64 bits
places : (bit_positions 64 (97 ∷ []) ≡ 12 ∷ 53 ∷ 30 ∷ 7 ∷ []) × (bit_positions 64 (98 ∷ []) ≡ 37 ∷ 19 ∷ 1 ∷ 47 ∷ [])
places = (refl, refl)

-- three pages of a run: 4, 2 and 9 begin with "b", "d" and "f", and have two entries each, of 14 bytes
abbrev of_4 : Fence
of_4 = record { first = 98 ∷ []; page = 4; entries = 0; weight = 0 }

abbrev of_2 : Fence
of_2 = record { first = 100 ∷ []; page = 2; entries = 2; weight = 28 }

abbrev of_9 : Fence
of_9 = record { first = 102 ∷ []; page = 9; entries = 4; weight = 56 }

-- a first key is on its own page, a key between two on the page before, one below all nowhere
first_key : IsPlaceOf (100 ∷ []) 2 (of_4 ∷ of_2 ∷ of_9 ∷ [])
first_key = record {
  before = of_4 ∷ [];
  fence = of_2;
  behind = of_9 ∷ [];
  parts = refl;
  is_page = refl;
  not_below = λ less. cc;
  below_others = one_below;
}
  where
    one_below : IsBelowAll (100 ∷ []) (of_9 ∷ [])
    one_below zero d within = refl
    one_below (suc k) d within = absurd (omega arith)

below_first : IsBelowAll (97 ∷ []) (of_4 ∷ [])
below_first zero d within = refl
below_first (suc k) d within = absurd (omega arith)

-- the run from the second page on
from_second : from_fence 1 of_2 (record { first = 4; pages = 3; entries = 6; weight = 84 }) ≡ record { first = 2; pages = 2; entries = 4; weight = 56 }
from_second = refl
