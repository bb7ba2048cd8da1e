use Rattle.std.proofs.Common.{arith}
use Rattle.blsm_model.specs.declared.history.Reply.TheVariants.{Done}
use Rattle.seat_book.proofs.WordLemmas.{note_has_room}
use Rattle.tree_core.specs.Ruling.{ruled_by}
use Rattle.tree_session.proofs.BookLemmas.{last_is}
use Rattle.tree_session.proofs.WriteLemmas.{not_ruled, write_refused, write_taken}
use Rattle.tree_session.proofs.writes.write.Goals as goal

pub pay_off-requires-clause-seat : goal.pay_off-requires-clause-seat
pay_off-requires-clause-seat g c = (note_has_room c.args.core.now.held.book c.args.seat 0 c.args.op.now Done c.requires.note (omega arith)).seat

pub pay_off-requires-clause-written : goal.pay_off-requires-clause-written
pay_off-requires-clause-written g c = (last_is c.args.seat c.args.op.now c.args.core.now.held.book c.admit.new.self.held.book c.requires.write
    c.in-Admitted.ensures.1.notes.annals).1

pub returns : goal.returns
returns g c =
    let below = (note_has_room c.args.core.now.held.book c.args.seat 0 c.args.op.now Done c.requires.note (omega arith)).seat in
    write_taken g.D.Disk.state c.args.seat c.args.op.now c.args.core.now c.admit.new.self c.pay_off.new.core c.requires.write below
    c.kept.ensures.core c.kept.ensures.begins c.requires.rests c.in-Admitted.ensures.1 c.pay_off.ensures
    c.kept-2.ensures.begins

pub returns-in_default : goal.returns-in_default
returns-in_default g c =
    let below = (note_has_room c.args.core.now.held.book c.args.seat 0 c.args.op.now Done c.requires.note (omega arith)).seat in
    write_refused g.D.Disk.state c.args.seat c.args.op.now (ruled_by c.admit.result c.admit.ensures.0) c.args.core.now c.admit.new.self
    c.requires.write below c.kept.ensures.begins (not_ruled c.admit.result c.admit.ensures.0 c.in_default.not-Admitted) c.requires.rests
    c.admit.ensures.1
