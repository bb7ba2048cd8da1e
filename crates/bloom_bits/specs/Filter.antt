-- A Bloom filter: bits, of which each key has four.
use Rattle.std.specs.Prelude.{◌↔◌, ℕ, ◌<◌, ◌≤◌, ◌+◌, ◌*◌, ◌%◌, ◌^◌, max, List, [], ◌∷◌, ◌++◌, length}
use Rattle.std.specs.List.{Contains}
use Rattle.std.specs.Int.{div_ceil}
use Rattle.blsm_model.specs.declared.key.Key.{Key}
use Rattle.bloom_bits.specs.Hash.{hash_of}
use Rattle.bit_set.specs.Bits.{Members, IsIn}
use Rattle.bloom_bits.specs.BitSet.{BitState}

-- How many bits a filter has that is asked for so many: the next multiple of 64, and 64 at least.
abbrev pub rounded : ℕ → ℕ
rounded bits = 64 * max 1 (div_ceil bits 64)

-- One of a key's places among so many bits: from the key's hash in steps of the hash of the key and one byte more, which no other
-- key's bytes need have.
abbrev pub bit_position : ℕ → Key → ℕ → ℕ
bit_position bits key i = ((hash_of key + i * hash_of (key ++ 255 ∷ [])) % 2 ^ 64) % bits

-- the four of them
abbrev pub bit_positions : ℕ → Key → List ℕ
bit_positions bits key = bit_position bits key 0 ∷ bit_position bits key 1 ∷ bit_position bits key 2 ∷ bit_position bits key 3 ∷ []

-- one of these keys has this place
abbrev pub IsOfOne : ℕ → List Key → ℕ → Type 0
IsOfOne bits keys place = (key : Key) × Contains keys key × Contains (bit_positions bits key) place

-- These are the keys that were added: just their bits are set.
pub record HasKeys (filter : BitState) (keys : List Key) : Type 0 where
  pub just : (place : ℕ) → IsIn filter.bits place ↔ IsOfOne (length filter.bits) keys place

-- the filter may have the key: each of the key's places is set
abbrev pub MayHave : BitState → Key → Type 0
MayHave filter key = (place : ℕ) → Contains (bit_positions (length filter.bits) key) place → IsIn filter.bits place

-- these keys together have all places of the key
abbrev pub AreCovered : ℕ → List Key → Key → Type 0
AreCovered bits keys key = (place : ℕ) → Contains (bit_positions bits key) place → IsOfOne bits keys place

-- what always holds of a filter that has so many of its bits now: it has some, and they are counted in 64 bits
pub record IsSized (size : ℕ) (bits : Members) : Type 0 where
  pub some : 0 < size
  pub fits : size ≤ length bits
  pub counts : length bits < 2 ^ 64
