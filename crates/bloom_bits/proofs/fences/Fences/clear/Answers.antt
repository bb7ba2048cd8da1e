use Rattle.std.proofs.Common.{arith}
use Rattle.bloom_bits.proofs.FenceLemmas.{no_fences}
use Rattle.bloom_bits.proofs.fences.Fences.clear.Goals as goal

pub invariant_of-self : goal.invariant_of-self
invariant_of-self c = rw c.clear.ensures.items (no_fences c.self.inside.reserved c.clear.new.self.cap (omega (arith, c.self.invariant.room, c.clear.ensures.capacity)))
