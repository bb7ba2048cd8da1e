use Rattle.std.proofs.Common.{arith}
use Rattle.bloom_bits.proofs.PartLemmas.{part_behind, part_reads, part_there}
use Rattle.bloom_bits.proofs.fences.Fences.part_from.Goals as goal

pub returns-clause-part : goal.returns-clause-part
returns-clause-part c =
    part_there c.args.key.now c.in-Some.before c.in-Some.fence.now c.args.self.now.list c.args.run.now c.saturating_sub.result c.saturating_sub-2.result c.in-Some.ensures.some (omega (arith, c.if-before-run.false))
    c.saturating_sub.ensures c.saturating_sub-2.ensures

pub returns-then-before-run-clause-part : goal.returns-then-before-run-clause-part
returns-then-before-run-clause-part c = part_behind c.args.key.now c.in-Some.before c.in-Some.fence.now c.args.self.now.list c.args.run.now c.in-Some.ensures.some (omega (arith, c.if-before-run.true))

pub returns-clause-reads : goal.returns-clause-reads
returns-clause-reads c = λ sizes pages next file. part_reads sizes c.args.key.now c.args.self.now.list c.args.run.now _ pages next file (returns-clause-part c)
