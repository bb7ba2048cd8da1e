use Rattle.std.proofs.Common.{ap, arith, sym}
use Rattle.blsm_model.specs.declared.history.Reply.TheVariants.{Done}
use Rattle.blsm_model.specs.declared.op.Op.TheVariants as op
use Rattle.seat_book.proofs.WordLemmas.{note_has_room}
use Rattle.seat_book.specs.State.{BookState}
use Rattle.tree_machine.specs.declared.step.Kind.TheVariants as kind
use Rattle.core_moves.specs.declared.held.Held.{Held}
use Rattle.std.proofs.lemmas.Bool.{false≢true}
use Rattle.tree_core.specs.Answers.{reply_to_next}
use Rattle.tree_core.specs.Scanned.{scanned_in}
use Rattle.tree_session.proofs.FaultLemmas.{reaches_by, reaches_wider, scan_tells}
use Rattle.tree_session.proofs.HoldLemmas.{notes_alone, scan_names, scan_rows}
use Rattle.tree_session.proofs.holds.read_on.Goals as goal

pub returns : goal.returns
returns g c =
    let state = g.D.Disk.state in
    let seat = c.args.seat in
    let n = c.args.n in
    let old = c.args.core.now in
    let new = c.next_rows-scan.new.self in
    let answer = scanned_in c.next_rows-scan.result new.held.book in
    let e = c.next_rows-scan.ensures.reads in
    let same = ap (λ (b : BookState). b.stopped) e.book in
    notes_alone state seat (kind.Next n) (op.Next n) (reply_to_next answer) old new (note_has_room old.held.book seat n (op.Next n) Done c.requires.note (omega arith)).seat c.kept.ensures.begins c.requires.rests e.goes (answer, e) (ap (λ (h : Held). h.gears) e.others.rest) e.book
    (scan_rows answer seat n old new (state old.disk) (state new.disk) e.cause) (λ looks. absurd (false≢true (sym looks))) (scan_names answer seat n old new (state old.disk) (state new.disk) e.cause same)
    (reaches_wider e.few (reaches_by e.reads.effect)) (scan_tells state seat n answer old new e same)
