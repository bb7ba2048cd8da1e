use Rattle.std.proofs.Common.{ap, arith, refl}
use Rattle.blsm_model.specs.declared.history.Reply.TheVariants.{Done}
use Rattle.blsm_model.specs.declared.op.Op.TheVariants as op
use Rattle.seat_book.proofs.WordLemmas.{note_has_room}
use Rattle.seat_book.specs.State.{BookState}
use Rattle.tree_machine.specs.declared.step.Kind.TheVariants as kind
use Rattle.tree_core.specs.Answers.{reply_to_hold}
use Rattle.tree_session.proofs.HoldLemmas.{hold_names, hold_quiet, in_memory}
use Rattle.tree_session.proofs.holds.hold.Goals as goal

pub returns : goal.returns
returns g c =
    let seat = c.args.seat in
    let low = c.args.low.now in
    let high = c.args.high.now in
    let old = c.args.core.now in
    let new = c.hold-holding.new.self in
    let answer = c.hold-holding.result in
    let e = c.hold-holding.ensures in
    in_memory g.D.Disk.state seat (kind.Hold low high) (op.Hold low high) (reply_to_hold answer) old new (note_has_room old.held.book seat 0 (op.Hold low high) Done c.requires.note (omega arith)).seat c.kept.ensures.begins c.requires.rests
    e.goes (answer, e) e.others e.book (hold_quiet answer) refl (hold_names answer seat low high old new e.cause (ap (λ (b : BookState). b.stopped) e.book)) e.untouched
