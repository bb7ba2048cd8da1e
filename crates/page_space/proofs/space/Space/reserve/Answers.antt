use Rattle.std.proofs.Common.{arith}
use Rattle.page_space.proofs.SpaceLemmas.{shape_unused}
use Rattle.page_space.proofs.space.Space.reserve.Goals as goal

pub invariant_of-result : goal.invariant_of-result
invariant_of-result c = rw (c.in_ok-reserve_sets.ensures, c.in_ok-reserve_sets-2.ensures) (shape_unused c.args.pages, λ page below free. omega (arith, below))

pub returns-clause-shape : goal.returns-clause-shape
returns-clause-shape c = rw (c.in_ok-reserve_sets.ensures, c.in_ok-reserve_sets-2.ensures) (shape_unused c.args.pages)
