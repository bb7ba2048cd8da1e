-- The bits of a filter.
use Rattle.std.specs.Prelude.{ℕ, length, take}
use Rattle.bit_set.specs.Bits.{Members, none_of}

-- How many bits there may be, and those that there are: each says whether it is set.
pub record BitState : Type 0 where
  pub reserved : ℕ
  pub bits : Members

-- so many bits of which none is set
abbrev pub cleared : ℕ → ℕ → BitState
cleared reserved bits = record { reserved = reserved; bits = none_of bits }

-- so many bits of these, where there may be all of them
abbrev pub front_of : ℕ → Members → BitState
front_of size bits = record { reserved = length bits; bits = take size bits }
