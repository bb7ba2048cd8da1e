use Rattle.std.specs.Prelude.{ℕ}
use Rattle.std.proofs.Common.{ap, subst, sym, ◌∙◌}
use Rattle.recover_open.specs.Opening.{KeepsMapOf, no_entries}
use Rattle.tree_session.proofs.RestLemmas.{opened_rests}
use Rattle.store_run.specs.Run.{run_at, run_of}
use Rattle.store_run.proofs.FaultLemmas.{ReachesInside, calm_opening, refused_calm, refused_faults, spares_of_file, stays_inside}
use Rattle.store_run.proofs.RanLemmas.{RanOver, ran_over}
use Rattle.store_run.proofs.RunLemmas.{is_fresh}
use Rattle.store_run.proofs.run.run_over.Goals as goal
use Rattle.store_run.proofs.run.run_over.Goals.{After-finish-disk}

-- ---- the store wasn't opened

pub returns-in-Err-clause-reaches : goal.returns-in-Err-clause-reaches
returns-in-Err-clause-reaches g c = stays_inside (g.D.Disk.state c.args.disk) (g.D.Disk.state c.in-Err.refused.disk) c.in-Err.ensures.effect

pub returns-in-Err-clause-faults : goal.returns-in-Err-clause-faults
returns-in-Err-clause-faults g c = λ refused. refused_faults c.in-Err.refused.why (g.D.Disk.state c.args.disk) (g.D.Disk.state c.in-Err.refused.disk) c.in-Err.ensures.faults

pub returns-in-Err-clause-one_fault : goal.returns-in-Err-clause-one_fault
returns-in-Err-clause-one_fault g c = λ refused. c.in-Err.ensures.effect.effect.one_fault

pub returns-in-Err-clause-spares : goal.returns-in-Err-clause-spares
returns-in-Err-clause-spares g c = λ honest. spares_of_file c.in-Err.refused.why (g.D.Disk.state c.args.disk) (g.D.Disk.state c.in-Err.refused.disk) (c.in-Err.ensures.spares honest)

-- ---- the run

pub run_all-requires-clause-fresh : goal.run_all-requires-clause-fresh
run_all-requires-clause-fresh g c = λ κs lives.
    let core = c.in-Ok.core in
    let rests = opened_rests (no_entries c.args.room) (g.D.Disk.state core.disk).faults core.held c.in-Ok.ensures.opened in
    is_fresh c.args.lines.now (no_entries c.args.room) (g.D.Disk.state core.disk).faults core c.in-Ok.ensures.opened rests c.requires.room

-- all that is said of it
over : (g : _) (c : After-finish-disk g)
    → RanOver g.D.Disk.state c.args.room c.args.lines.now c.args.workers c.args.turns (run_of c.finish-disk.result.1) c.args.disk
    c.finish-disk.result.0
over g c =
    let state = g.D.Disk.state in
    let old = c.in-Ok.core in
    let new = c.in-Ok-run_all.core in
    let opened = c.in-Ok.ensures.opened in
    let timed = (g.met.D.Disk g.world.𝓛 g.world.𝓜 g.world.𝓡 ((λ s x. x), (λ x. x), (λ x. x), λ x. x)).timed in
    ran_over state timed c.args.room c.args.lines.now c.args.workers c.args.turns c.args.disk old new
    (record {
      opened = opened;
      rests = opened_rests (no_entries c.args.room) (state old.disk).faults old.held opened;
      keeps = c.kept.ensures.core;
      begins = c.kept.ensures.begins;
      holds = c.in-Ok.ensures.none;
      weighs = c.in-Ok.ensures.charge;
      long = c.in-Ok.ensures.long;
      takes = c.in-Ok.ensures.takes;
      inside = c.in-Ok.ensures.effect;
      calm = calm_opening (state c.args.disk) (state old.disk) c.in-Ok.ensures.faults;
      stands = c.in-Ok.ensures.stands;
      kept = c.in-Ok.ensures.keeps;
    })
    c.in-Ok-run_all.ensures (run_of c.finish-disk.result.1)
    (c.finish-disk.ensures.finished ∙ ap (λ (n : ℕ). run_at n new.held) c.charge-charge.ensures) c.finish-disk.result.0 c.finish-disk.ensures.disk

pub returns-in-Ok-run_all-clause-ran : goal.returns-in-Ok-run_all-clause-ran
returns-in-Ok-run_all-clause-ran g c = (over g (goal.at.returns-in-Ok-run_all-clause-ran g c).After-finish-disk).ran

pub returns-in-Ok-run_all-clause-ended : goal.returns-in-Ok-run_all-clause-ended
returns-in-Ok-run_all-clause-ended g c = (over g (goal.at.returns-in-Ok-run_all-clause-ended g c).After-finish-disk).ended

pub returns-in-Ok-run_all-clause-counted : goal.returns-in-Ok-run_all-clause-counted
returns-in-Ok-run_all-clause-counted g c = (over g (goal.at.returns-in-Ok-run_all-clause-counted g c).After-finish-disk).counted

pub returns-in-Ok-run_all-clause-causes : goal.returns-in-Ok-run_all-clause-causes
returns-in-Ok-run_all-clause-causes g c = (over g (goal.at.returns-in-Ok-run_all-clause-causes g c).After-finish-disk).causes

pub returns-in-Ok-run_all-clause-reaches : goal.returns-in-Ok-run_all-clause-reaches
returns-in-Ok-run_all-clause-reaches g c = (over g (goal.at.returns-in-Ok-run_all-clause-reaches g c).After-finish-disk).reaches

pub returns-in-Ok-run_all-clause-headline : goal.returns-in-Ok-run_all-clause-headline
returns-in-Ok-run_all-clause-headline g c = (over g (goal.at.returns-in-Ok-run_all-clause-headline g c).After-finish-disk).headline

pub returns-in-Ok-run_all-clause-ending : goal.returns-in-Ok-run_all-clause-ending
returns-in-Ok-run_all-clause-ending g c = subst (λ d. Rattle.store_run.specs.Run.IsEnding c.finish-disk.result.1.ending
    (run_of c.finish-disk.result.1) (g.D.Disk.state d).faults) (sym c.finish-disk.ensures.disk) c.finish-disk.ensures.ending

pub returns-in-Ok-run_all-clause-untouched : goal.returns-in-Ok-run_all-clause-untouched
returns-in-Ok-run_all-clause-untouched g c = λ honest none. let opens = c.in-Ok.ensures.stands honest in absurd (none c.in-Ok.core.held.runs.sizes opens.pairs opens.reads)

-- ---- memory was refused for the lock

pub returns-in-Err-run_all-clause-reaches : goal.returns-in-Err-run_all-clause-reaches
returns-in-Err-run_all-clause-reaches g c =
    let state = g.D.Disk.state in
    subst (λ d. ReachesInside (state c.args.disk) (state d)) (sym (c.end-disk.ensures.disk ∙ ap (λ core. core.disk) c.in-Err-run_all.ensures))
    (stays_inside (state c.args.disk) (state c.in-Ok.core.disk) c.in-Ok.ensures.effect)

pub returns-in-Err-run_all-clause-faults : goal.returns-in-Err-run_all-clause-faults
returns-in-Err-run_all-clause-faults g c = λ refused.
    let state = g.D.Disk.state in
    refused_calm (state c.args.disk) (state c.end-disk.result.0)
    (ap (λ d. (state d).faults) (c.end-disk.ensures.disk ∙ ap (λ core. core.disk) c.in-Err-run_all.ensures) ∙ calm_opening (state c.args.disk) (state c.in-Ok.core.disk) c.in-Ok.ensures.faults)

pub returns-in-Err-run_all-clause-keeps : goal.returns-in-Err-run_all-clause-keeps
returns-in-Err-run_all-clause-keeps g c = λ sizes pairs honest reads.
    let state = g.D.Disk.state in
    subst (λ d. KeepsMapOf sizes pairs (state c.args.disk) (state d)) (sym (c.end-disk.ensures.disk ∙ ap (λ core. core.disk) c.in-Err-run_all.ensures))
    (c.in-Ok.ensures.keeps sizes pairs honest reads)

pub returns-in-Err-run_all-clause-untouched : goal.returns-in-Err-run_all-clause-untouched
returns-in-Err-run_all-clause-untouched g c = λ honest none. let opens = c.in-Ok.ensures.stands honest in absurd (none c.in-Ok.core.held.runs.sizes opens.pairs opens.reads)

pub returns-in-Err-run_all-clause-spares : goal.returns-in-Err-run_all-clause-spares
returns-in-Err-run_all-clause-spares g c = λ honest never. absurd never
