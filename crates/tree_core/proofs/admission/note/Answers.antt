use Rattle.std.specs.Prelude.{None}
use Rattle.std.proofs.Common.{◌∙◌, ap, sym, subst}
use Rattle.blsm_model.specs.Book.{HasRoom}
use Rattle.blsm_model.specs.Stored.{as_reply}
use Rattle.blsm_model.specs.declared.history.Reply.{Reply}
use Rattle.blsm_model.specs.declared.op.Op.{Op}
use Rattle.seat_book.specs.State.{noted_in}
use Rattle.tree_core.specs.Answers.{reply_to_write}
use Rattle.tree_core.specs.Ruling.{ruled_by}
use Rattle.tree_core.proofs.admission.note.Goals as goal

pub note-requires : goal.note-requires
note-requires c =
    let room = c.args.book.now.book.room in
    subst (λ (o : Op). HasRoom room (record { seat = c.args.seat; op = o; reply = as_reply c.reply_of.result })) (sym c.copy.ensures)
    (subst (λ (r : Reply). HasRoom room (record { seat = c.args.seat; op = c.args.op.now; reply = r })) (sym c.reply_of.ensures) c.requires)

pub returns : goal.returns
returns c =
    c.note.ensures ∙ ap (λ (r : Reply). noted_in c.args.seat c.copy.result r c.args.book.now) c.reply_of.ensures
    ∙ ap (λ (o : Op). noted_in c.args.seat o (reply_to_write (ruled_by c.args.answer None)) c.args.book.now) c.copy.ensures
