use Rattle.std.proofs.Common.{arith}
use Rattle.blsm_model.specs.Stored.{as_reply}
use Rattle.blsm_model.specs.declared.history.Reply.TheVariants.{Done}
use Rattle.blsm_model.specs.declared.op.Op.TheVariants.{Work}
use Rattle.seat_book.proofs.WordLemmas.{note_has_room}
use Rattle.tree_session.proofs.WorkLemmas.{work_ended}
use Rattle.tree_session.proofs.works.work.Goals as goal

pub returns : goal.returns
returns g c =
    let below = (note_has_room c.args.core.now.held.book c.args.seat 0 (Work c.args.n) Done c.requires.note (omega arith)).seat in
    work_ended g.D.Disk.state c.args.seat c.args.n (as_reply c.work_end-reply.result) c.args.core.now c.turn.new.core c.work_end-reply.new.self below c.kept.ensures.begins c.requires.rests c.turn.ensures c.work_end-reply.ensures
