use Rattle.std.proofs.Common.{arith}
use Rattle.bloom_bits.proofs.FenceLemmas.{no_fences}
use Rattle.bloom_bits.proofs.fences.Fences.reserve.Goals as goal

pub invariant_of-result : goal.invariant_of-result
invariant_of-result c = rw c.in_ok-with_capacity.ensures.items (no_fences c.args.pages c.in_ok-with_capacity.field-0.cap (omega (arith, c.in_ok-with_capacity.ensures.capacity)))
