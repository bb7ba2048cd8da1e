use Rattle.std.proofs.Common.{sym, ap, arith}
use Rattle.std.proofs.lemmas.Bool.{false≢true}
use Rattle.blsm_model.specs.declared.history.Reply.TheVariants.{Done}
use Rattle.blsm_model.specs.declared.op.Op.TheVariants.{Get}
use Rattle.seat_book.proofs.WordLemmas.{note_has_room}
use Rattle.core_moves.specs.declared.held.Held.{Held}
use Rattle.tree_machine.specs.declared.step.Kind.TheVariants as kind
use Rattle.tree_core.specs.Answers.{reply_to_get}
use Rattle.tree_session.proofs.FaultLemmas.{get_names, get_tells, reaches_by}
use Rattle.tree_session.proofs.HoldLemmas.{notes_alone}
use Rattle.tree_session.proofs.GetLemmas.{get_rows}
use Rattle.tree_session.proofs.session.look_up.Goals as goal
use Rattle.tree_core.proofs.LookupSteps.{get_looks, three_count}

pub returns : goal.returns
returns g c =
    let state = g.D.Disk.state in
    let seat = c.args.seat in
    let key = c.args.key.now in
    let old = c.args.core.now in
    let new = c.get-found.new.self in
    let answer = c.get-found.result in
    let e = c.get-found.ensures in
    notes_alone state seat (kind.Look (Get key)) (Get key) (reply_to_get answer) old new (note_has_room old.held.book seat 0 (Get key) Done c.requires.note (omega arith)).seat c.kept.ensures.begins c.requires.rests e.goes
    (reply_to_get answer, get_looks state seat key answer old new e) (ap (λ (h : Held). h.gears) e.held) (ap (λ (h : Held). h.book) e.held) (get_rows answer) (λ looks. absurd (false≢true (sym looks)))
    (get_names answer key old.held new.held (state old.disk) (state new.disk) e.cause (ap (λ (h : Held). h.book.stopped) e.held)) (reaches_by (e.reads 3 (three_count key old.held)).effect) (get_tells state seat key answer old new e)
