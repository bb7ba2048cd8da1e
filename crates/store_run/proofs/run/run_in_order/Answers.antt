use Rattle.std.specs.Prelude.{ℕ}
use Rattle.std.proofs.Common.{ap, subst, sym, ◌∙◌}
use Rattle.blsm_model.specs.declared.room.Room.{Room}
use Rattle.core_chain.proofs.StepLemmas.{chain_is_steps}
use Rattle.recover_open.specs.Opening.{no_entries}
use Rattle.seat_book.specs.State.{BookState}
use Rattle.tree_session.specs.Lines.{HasRoomFor}
use Rattle.tree_session.proofs.RestLemmas.{opened_rests}
use Rattle.store_run.specs.Run.{run_at, run_of}
use Rattle.store_run.proofs.FaultLemmas.{calm_opening, counted_of, disk_inside, refused_faults, stays_inside}
use Rattle.store_run.proofs.HeadlineLemmas.{served_in_order}
use Rattle.store_run.proofs.RunLemmas.{by_lines, lines_alone, lines_asked}
use Rattle.store_run.proofs.run.run_in_order.Goals as goal

pub returns-in-Err-clause-reaches : goal.returns-in-Err-clause-reaches
returns-in-Err-clause-reaches g c = stays_inside (g.D.Disk.state c.args.disk) (g.D.Disk.state c.in-Err.refused.disk) c.in-Err.ensures.effect

pub returns-in-Err-clause-faults : goal.returns-in-Err-clause-faults
returns-in-Err-clause-faults g c = λ refused. refused_faults c.in-Err.refused.why (g.D.Disk.state c.args.disk) (g.D.Disk.state c.in-Err.refused.disk) c.in-Err.ensures.faults

pub run_lines-requires-clause-room : goal.run_lines-requires-clause-room
run_lines-requires-clause-room g c = subst (λ (room : Room). HasRoomFor room c.args.lines.now) (sym (ap (λ (b : BookState). b.book.room) c.in-Ok.ensures.opened.book)) c.requires.room

pub run_lines-requires-clause-rests : goal.run_lines-requires-clause-rests
run_lines-requires-clause-rests g c =
    opened_rests (no_entries c.args.room) (g.D.Disk.state c.in-Ok.core.disk).faults c.in-Ok.core.held c.in-Ok.ensures.opened

pub returns-clause-counted : goal.returns-clause-counted
returns-clause-counted g c =
    let state = g.D.Disk.state in
    let old = c.in-Ok.core in
    let new = c.run_lines.new.core in
    let opened = c.in-Ok.ensures.opened in
    let annals = no_entries c.args.room in
    let kept = c.kept.ensures in
    let has = by_lines state c.args.lines.now annals (state old.disk).faults old new opened kept.core kept.begins c.run_lines.ensures in
    counted_of state c.args.lines.now (no_entries c.args.room) (state old.disk).faults (state c.args.disk) old new opened (calm_opening (state c.args.disk) (state old.disk) c.in-Ok.ensures.faults) has
    (run_of c.finish-disk.result.1) (c.finish-disk.ensures.finished ∙ ap (λ (n : ℕ). run_at n new.held) c.charge-charge.ensures) c.finish-disk.result.0 c.finish-disk.ensures.disk

pub returns-clause-reaches : goal.returns-clause-reaches
returns-clause-reaches g c =
    let state = g.D.Disk.state in
    let old = c.in-Ok.core in
    let new = c.run_lines.new.core in
    let opened = c.in-Ok.ensures.opened in
    let annals = no_entries c.args.room in
    let kept = c.kept.ensures in
    let has = by_lines state c.args.lines.now annals (state old.disk).faults old new opened kept.core kept.begins c.run_lines.ensures in
    disk_inside state c.args.lines.now (no_entries c.args.room) (state old.disk).faults (state c.args.disk) old new opened c.kept.ensures.core c.in-Ok.ensures.effect has c.finish-disk.result.0 c.finish-disk.ensures.disk

pub returns-clause-served : goal.returns-clause-served
returns-clause-served g c = λ honest.
    let state = g.D.Disk.state in
    let old = c.in-Ok.core in
    let new = c.run_lines.new.core in
    let opened = c.in-Ok.ensures.opened in
    let annals = no_entries c.args.room in
    let faults = (state old.disk).faults in
    let runs = c.run_lines.ensures in
    let begins = c.kept.ensures.begins in
    served_in_order state c.args.room c.args.lines.now (state c.args.disk) old new
    (record {
      opens = c.in-Ok.ensures.stands honest;
      goes_on = c.in-Ok.ensures.effect.effect.goes_on;
      takes = c.in-Ok.ensures.takes;
      calm = calm_opening (state c.args.disk) (state old.disk) c.in-Ok.ensures.faults;
      ran = ap (λ (b : BookState). b.stopped) opened.book;
      run = by_lines state c.args.lines.now annals faults old new opened c.kept.ensures.core begins runs;
    })
    (lines_asked state c.args.lines.now annals faults old new opened c.kept.ensures.core begins runs)
    (lines_alone state c.args.lines.now annals faults old new opened c.kept.ensures.core begins runs)
    runs.made.0 runs.made.2 runs.rests
    (λ opening m stands.
    chain_is_steps state opening runs.made.0 old new m (g.met.D.Disk.timed new.disk) c.kept.ensures.core runs.made.1
    (c.in-Ok.ensures.effect.effect.goes_on.is_honest ∙ honest) stands)
    c.finish-disk.result.0 c.finish-disk.ensures.disk (run_of c.finish-disk.result.1) (c.finish-disk.ensures.finished ∙ ap (λ (n : ℕ). run_at n new.held) c.charge-charge.ensures)
