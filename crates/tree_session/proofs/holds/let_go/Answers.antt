use Rattle.std.proofs.Common.{ap, arith, refl}
use Rattle.blsm_model.specs.declared.history.Reply.TheVariants.{Done}
use Rattle.blsm_model.specs.declared.op.Op.TheVariants as op
use Rattle.seat_book.proofs.WordLemmas.{note_has_room}
use Rattle.seat_book.specs.State.{BookState}
use Rattle.tree_machine.specs.declared.step.Kind.TheVariants as kind
use Rattle.tree_core.specs.Answers.{reply_to_drop}
use Rattle.tree_session.proofs.HoldLemmas.{drop_names, drop_quiet, in_memory}
use Rattle.tree_session.proofs.holds.let_go.Goals as goal

pub returns : goal.returns
returns g c =
    let old = c.args.core.now in
    let new = c.drop_hold-release.new.self in
    let answer = c.drop_hold-release.result in
    let e = c.drop_hold-release.ensures in
    in_memory g.D.Disk.state c.args.seat kind.Release op.Release (reply_to_drop answer) old new (note_has_room old.held.book c.args.seat 0 op.Release Done c.requires.note (omega arith)).seat c.kept.ensures.begins c.requires.rests e.goes
    (answer, e) e.others e.book (drop_quiet answer) refl (drop_names answer c.args.seat old new e.cause (ap (λ (b : BookState). b.stopped) e.book)) e.untouched
