use Rattle.std.proofs.Common.{sym, subst}
use Rattle.merge_ends.specs.Closed.{KeepsClosed}
use Rattle.merge_ends.specs.Quantum.{IsQuantum}
use Rattle.merge_ends.proofs.ClosedLemmas.{keeps_closed}
use Rattle.deep_merge.specs.Merge.{DeepState, IsMerge}
use Rattle.deep_merge.proofs.deep.Deep.quantum.Goals as goal

pub returns-clause-merge : goal.returns-clause-merge
returns-clause-merge g c = λ news olds newer older honest merge other.
    let sizes = c.args.geo.now in
    let d = g.D.Disk.state c.args.disk.now in
    let old = subst (λ (s : DeepState). IsMerge sizes d.bytes c.args.space.now s c.args.filter.now c.args.fences.now news olds newer older) (sym c.self.view_is) merge in
    let went = c.quantum.ensures.lists news olds newer older honest old other in
    (went.0, went.1, went.2, subst (λ (s : DeepState). IsQuantum sizes.quantum s.at c.quantum.new.self.at newer older went.0) c.self.view_is went.3)

pub returns-clause-closed : goal.returns-clause-closed
returns-clause-closed g c =
    let old = g.D.Disk.state c.args.disk.now in
    let new = g.D.Disk.state c.quantum.new.disk in
    let on = c.quantum.ensures.numbers in
    subst
    (λ (s : DeepState). KeepsClosed c.args.geo.now c.args.space.now c.quantum.new.space s.writer c.quantum.new.self.writer old new)
    c.self.view_is (keeps_closed on.role on.works)
