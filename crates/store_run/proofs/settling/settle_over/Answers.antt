use Rattle.std.proofs.Common.{◌≡◌, ◌∙◌, ap, subst, sym, arith}
use Rattle.core_moves.specs.declared.held.Settled.{Settled}
use Rattle.recover_open.specs.Opening.{KeepsMapOf, TakesFew}
use Rattle.recover_open.specs.Settled.{CountsSettling}
use Rattle.store_run.proofs.FaultLemmas.{ReachesInside, calm_opening, refused_faults, spares_of_file, stays_inside}
use Rattle.store_run.proofs.settling.settle_over.Goals as goal
use Rattle.store_run.proofs.settling.settle_over.Goals.{After-end-disk}

pub returns-in-Err-clause-reaches : goal.returns-in-Err-clause-reaches
returns-in-Err-clause-reaches g c = stays_inside (g.D.Disk.state c.args.disk) (g.D.Disk.state c.in-Err.refused.disk) c.in-Err.ensures.effect

pub returns-in-Err-clause-faults : goal.returns-in-Err-clause-faults
returns-in-Err-clause-faults g c = refused_faults c.in-Err.refused.why (g.D.Disk.state c.args.disk) (g.D.Disk.state c.in-Err.refused.disk)
    c.in-Err.ensures.faults

pub returns-in-Err-clause-one_fault : goal.returns-in-Err-clause-one_fault
returns-in-Err-clause-one_fault g c = c.in-Err.ensures.effect.effect.one_fault

pub returns-in-Err-clause-spares : goal.returns-in-Err-clause-spares
returns-in-Err-clause-spares g c = λ honest. spares_of_file c.in-Err.refused.why (g.D.Disk.state c.args.disk) (g.D.Disk.state c.in-Err.refused.disk)
    (c.in-Err.ensures.spares honest)

-- ---- it was opened

pub returns-in-Ok-clause-counts : goal.returns-in-Ok-clause-counts
returns-in-Ok-clause-counts g c =
    let state = g.D.Disk.state in
    let core = c.in-Ok.core in
    let opened = c.in-Ok.ensures in
    let sizes = core.held.runs.sizes in
    let next = core.held.runs.catalogue in
    record {
      sizes = sizes;
      long = opened.long;
      next = next;
      counts =
          subst (λ d. CountsSettling sizes next c.settle_counts-settled.result (state c.args.disk) (state d)) (sym c.end-disk.ensures.disk)
          (subst (λ (s : Settled). CountsSettling sizes next s (state c.args.disk) (state core.disk)) (sym c.settle_counts-settled.ensures)
          opened.counts);
      takes = subst (λ d. TakesFew sizes (state c.args.disk) (state d)) (sym c.end-disk.ensures.disk) opened.takes;
    }

pub returns-in-Ok-clause-reads : goal.returns-in-Ok-clause-reads
returns-in-Ok-clause-reads g c = λ honest.
    let opens = c.in-Ok.ensures.stands honest in
    (c.in-Ok.core.held.runs.sizes, opens.pairs, opens.reads)

pub returns-in-Ok-clause-reaches : goal.returns-in-Ok-clause-reaches
returns-in-Ok-clause-reaches g c =
    let state = g.D.Disk.state in
    subst (λ d. ReachesInside (state c.args.disk) (state d)) (sym c.end-disk.ensures.disk)
    (stays_inside (state c.args.disk) (state c.in-Ok.core.disk) c.in-Ok.ensures.effect)

pub returns-in-Ok-clause-keeps : goal.returns-in-Ok-clause-keeps
returns-in-Ok-clause-keeps g c = λ sizes pairs honest reads.
    let state = g.D.Disk.state in
    subst (λ d. KeepsMapOf sizes pairs (state c.args.disk) (state d)) (sym c.end-disk.ensures.disk) (c.in-Ok.ensures.keeps sizes pairs honest reads)

pub returns-in-Ok-clause-untouched : goal.returns-in-Ok-clause-untouched
returns-in-Ok-clause-untouched g c = λ honest none.
    let opens = c.in-Ok.ensures.stands honest in
    absurd (none c.in-Ok.core.held.runs.sizes opens.pairs opens.reads)

-- no call failed
calm : (g : _) (c : After-end-disk g) → (g.D.Disk.state c.end-disk.result.0).faults ≡ (g.D.Disk.state c.args.disk).faults
calm g c =
    ap (λ d. (g.D.Disk.state d).faults) c.end-disk.ensures.disk
    ∙ calm_opening (g.D.Disk.state c.args.disk) (g.D.Disk.state c.in-Ok.core.disk) c.in-Ok.ensures.faults

pub returns-in-Ok-clause-faults : goal.returns-in-Ok-clause-faults
returns-in-Ok-clause-faults g c = record {
  stands = λ other. calm g (goal.at.returns-in-Ok-clause-faults g c).After-end-disk;
  failed = λ same. absurd cc;
}

pub returns-in-Ok-clause-one_fault : goal.returns-in-Ok-clause-one_fault
returns-in-Ok-clause-one_fault g c = omega (arith, calm g (goal.at.returns-in-Ok-clause-one_fault g c).After-end-disk)
