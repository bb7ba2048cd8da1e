use Rattle.std.proofs.Common.{ℕ, take}
use Rattle.std.specs.List.{Contains}
use Rattle.bit_set.specs.Bits.{IsIn}
use Rattle.bloom_bits.proofs.filter.Filter.may.Given as goal

-- the places so far are set
abbrev pub invariant-loop-place : goal.invariant-loop-place
invariant-loop-place l = (place : ℕ) → Contains (take l.place-index l.place-items) place → IsIn l.self-inside.bits place
