use Rattle.std.proofs.Common.{arith}
use Rattle.entry_store.proofs.StoreLemmas.{store_empty}
use Rattle.entry_store.proofs.store.Store.reserve.Goals as goal

pub invariant_of-result : goal.invariant_of-result
invariant_of-result c =
    rw c.in_ok-with_capacity.ensures.items
    (store_empty c.chunks.chunks.items c.args.weight _ c.chunks.invariant.1 (omega (arith, c.in_ok-with_capacity.ensures.exact)) (omega (arith, c.chunks.invariant.0, c.chunks.auto.number-end, c.chunks-test.false))
    (omega (arith, c.chunks.invariant.0, c.chunks.auto.number-end)))
