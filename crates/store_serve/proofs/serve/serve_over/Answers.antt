use Rattle.std.specs.Prelude.{ℕ}
use Rattle.std.proofs.Common.{ap, subst, sym, ◌∙◌}
use Rattle.recover_open.specs.Opening.{no_entries}
use Rattle.store_run.specs.Run.{IsEnding, run_at, run_of}
use Rattle.store_run.proofs.FaultLemmas.{calm_opening, refused_faults, spares_of_file, stays_inside}
use Rattle.store_run.proofs.RunLemmas.{no_entries_yet, no_quanta_yet}
use Rattle.store_serve.proofs.RunsLemmas.{ServedOver, served_over}
use Rattle.store_serve.proofs.serve.serve_over.Goals as goal
use Rattle.store_serve.proofs.serve.serve_over.Goals.{After-finish-disk}
use Rattle.tree_session.proofs.RestLemmas.{opened_rests}

-- ---- the store wasn't opened

pub returns-in-Err-clause-reaches : goal.returns-in-Err-clause-reaches
returns-in-Err-clause-reaches g c = stays_inside (g.D.Disk.state c.args.disk) (g.D.Disk.state c.in-Err.refused.disk) c.in-Err.ensures.effect

pub returns-in-Err-clause-faults : goal.returns-in-Err-clause-faults
returns-in-Err-clause-faults g c = λ refused. refused_faults c.in-Err.refused.why (g.D.Disk.state c.args.disk) (g.D.Disk.state c.in-Err.refused.disk) c.in-Err.ensures.faults

pub returns-in-Err-clause-one_fault : goal.returns-in-Err-clause-one_fault
returns-in-Err-clause-one_fault g c = λ refused. c.in-Err.ensures.effect.effect.one_fault

pub returns-in-Err-clause-spares : goal.returns-in-Err-clause-spares
returns-in-Err-clause-spares g c = λ honest. spares_of_file c.in-Err.refused.why (g.D.Disk.state c.args.disk) (g.D.Disk.state c.in-Err.refused.disk) (c.in-Err.ensures.spares honest)

-- ---- the session

pub do_lines-closing-requires-clause-none : goal.do_lines-closing-requires-clause-none
do_lines-closing-requires-clause-none g c = no_entries_yet (no_entries c.args.room) (g.D.Disk.state c.in-Ok.core.disk).faults c.in-Ok.core.held c.in-Ok.ensures.opened

pub do_lines-closing-requires-clause-uncounted : goal.do_lines-closing-requires-clause-uncounted
do_lines-closing-requires-clause-uncounted g c = no_quanta_yet (no_entries c.args.room) (g.D.Disk.state c.in-Ok.core.disk).faults c.in-Ok.core.held c.in-Ok.ensures.opened

pub do_lines-closing-requires-clause-rests : goal.do_lines-closing-requires-clause-rests
do_lines-closing-requires-clause-rests g c = opened_rests (no_entries c.args.room) (g.D.Disk.state c.in-Ok.core.disk).faults c.in-Ok.core.held c.in-Ok.ensures.opened

-- all that is said of it
served : (g : _) (c : After-finish-disk g)
    → ServedOver g.D.Disk.state c.args.room c.args.ships c.do_lines-closing.result (run_of c.finish-disk.result.1) c.args.disk c.finish-disk.result.0
    (g.S.Source.state c.args.source.now)
    (g.S.Source.state c.do_lines-closing.new.source) (g.K.Sink.state c.args.sink.now) (g.K.Sink.state c.do_lines-closing.new.sink)
served g c =
    let state = g.D.Disk.state in
    let old = c.in-Ok.core in
    let opened = c.in-Ok.ensures.opened in
    served_over state g.met.D.Disk.timed c.args.room c.args.ships c.do_lines-closing.result c.args.disk old c.do_lines-closing.new.core
    c.leave_all.new.core (g.S.Source.state c.args.source.now) (g.S.Source.state c.do_lines-closing.new.source)
    (g.K.Sink.state c.args.sink.now) (g.K.Sink.state c.do_lines-closing.new.sink)
    (record {
      opened = opened;
      rests = opened_rests (no_entries c.args.room) (state old.disk).faults old.held opened;
      keeps = c.kept.ensures.core;
      begins = c.kept.ensures.begins;
      holds = c.in-Ok.ensures.none;
      weighs = c.in-Ok.ensures.charge;
      long = c.in-Ok.ensures.long;
      takes = c.in-Ok.ensures.takes;
      inside = c.in-Ok.ensures.effect;
      calm = calm_opening (state c.args.disk) (state old.disk) c.in-Ok.ensures.faults;
      stands = c.in-Ok.ensures.stands;
      kept = c.in-Ok.ensures.keeps;
    })
    c.do_lines-closing.ensures c.leave_all.ensures (run_of c.finish-disk.result.1)
    (c.finish-disk.ensures.finished ∙ ap (λ (n : ℕ). run_at n c.leave_all.new.core.held) c.charge-charge.ensures) c.finish-disk.result.0
    c.finish-disk.ensures.disk

pub returns-clause-ran : goal.returns-clause-ran
returns-clause-ran g c =
    let s = served g (goal.at.returns-clause-ran g c).After-finish-disk in
    (s.over.ran.0, s.over.ran.1, record { printed = s.over.ran.2; in_order = s.in_order })

pub returns-clause-ended : goal.returns-clause-ended
returns-clause-ended g c = (served g (goal.at.returns-clause-ended g c).After-finish-disk).over.ended

pub returns-clause-counted : goal.returns-clause-counted
returns-clause-counted g c = (served g (goal.at.returns-clause-counted g c).After-finish-disk).over.counted

pub returns-clause-causes : goal.returns-clause-causes
returns-clause-causes g c = (served g (goal.at.returns-clause-causes g c).After-finish-disk).over.causes

pub returns-clause-reaches : goal.returns-clause-reaches
returns-clause-reaches g c = (served g (goal.at.returns-clause-reaches g c).After-finish-disk).over.reaches

pub returns-clause-headline : goal.returns-clause-headline
returns-clause-headline g c = λ honest.
    let s = served g (goal.at.returns-clause-headline g c).After-finish-disk in
    let headline = s.over.headline honest in
    (headline.0, record { printed = headline.1; in_order = s.in_order }, headline.2)

pub returns-clause-takes : goal.returns-clause-takes
returns-clause-takes g c = (served g (goal.at.returns-clause-takes g c).After-finish-disk).takes

pub returns-clause-told : goal.returns-clause-told
returns-clause-told g c = (served g (goal.at.returns-clause-told g c).After-finish-disk).told

pub returns-clause-ending : goal.returns-clause-ending
returns-clause-ending g c = subst (λ d. IsEnding c.finish-disk.result.1.ending (run_of c.finish-disk.result.1) (g.D.Disk.state d).faults) (sym c.finish-disk.ensures.disk) c.finish-disk.ensures.ending

pub returns-clause-untouched : goal.returns-clause-untouched
returns-clause-untouched g c = λ honest none. let opens = c.in-Ok.ensures.stands honest in absurd (none c.in-Ok.core.held.runs.sizes opens.pairs opens.reads)
