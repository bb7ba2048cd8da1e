use Rattle.std.proofs.Common.{◌≡◌, ◌∙◌, ℕ, ◌+◌, ◌<◌, ◌≤◌, List, Ok, Err, ap, arith, length, slice_index, subst, sym}
use Rattle.refusal.specs.declared.Failed.{Failed}
use Rattle.blsm_model.specs.Book.{Book}
use Rattle.blsm_model.specs.Scripts.{rows_of}
use Rattle.text_io.specs.Text.{Writes}
use Rattle.store_serve.specs.Session.{DoesNext}
use Rattle.store_serve.specs.Taken.{ComesTo}
use Rattle.store_serve.proofs.ToldLemmas.{done_so, failed_so}
use Rattle.store_serve.proofs.SessionLemmas.{did_nothing, does_next, has_place, last_entry, printed_last, runnable}
use Rattle.store_serve.proofs.session.do_line.Goals as goal
use Rattle.store_serve.proofs.session.do_line.Goals.{After-perform}

-- there is no line that may be done

pub returns-in-Err-clause-did : goal.returns-in-Err-clause-did
returns-in-Err-clause-did g c =
    let s = g.S.Source.state c.args.source.now in
    let t = g.S.Source.state c.next_line.new.source in
    did_nothing g.D.Disk.state c.args.ship c.in-Err.closing c.args.core.now c.args.lines.now c.next_line.new.lines s t
    (g.K.Sink.state c.args.sink.now)
    (subst (λ (b : Book). ComesTo (Err c.in-Err.closing) b c.args.lines.now c.next_line.new.lines s t) c.annals.ensures c.in-Err.ensures.comes)

-- or it is done

pub perform-requires-clause-runnable : goal.perform-requires-clause-runnable
perform-requires-clause-runnable g c = runnable c.in-Ok.line c.in-Ok.ensures.comes.0.allowed

pub perform-requires-clause-room : goal.perform-requires-clause-room
perform-requires-clause-room g c = subst (λ (b : Book). 0 < slice_index b.room.entries c.in-Ok.line.seat) c.annals.ensures c.in-Ok.ensures.comes.1.0

pub perform-requires-clause-rows : goal.perform-requires-clause-rows
perform-requires-clause-rows g c = subst (λ (b : Book). rows_of c.in-Ok.line.op ≤ slice_index b.room.rows c.in-Ok.line.seat) c.annals.ensures c.in-Ok.ensures.comes.1.1

-- its entry's place is as many as there were
place : (g : _) (c : After-perform g) → c.len-place.result ≡ length c.args.core.now.held.book.book.entries
place g c = c.len-place.ensures.entries ∙ ap (λ (b : Book). length b.entries) c.annals-2.ensures

does : (g : _) (c : After-perform g) → DoesNext g.D.Disk.state c.args.core.now c.perform.new.core c.args.lines.now c.next_line.new.lines (g.S.Source.state c.args.source.now) (g.S.Source.state c.next_line.new.source)
does g c =
    does_next g.D.Disk.state c.args.core.now c.perform.new.core c.annals.result.now c.in-Ok.line c.args.lines.now c.next_line.new.lines (g.S.Source.state c.args.source.now) (g.S.Source.state c.next_line.new.source) c.annals.ensures
    c.in-Ok.ensures.comes c.perform.ensures c.len-place.result (place g c) (c.len-place.ensures.quanta ∙ ap (λ (b : Book). length b.quanta) c.annals-2.ensures) c.len-place.ensures.few

pub tell-requires-clause-place : goal.tell-requires-clause-place
tell-requires-clause-place g c =
    let done = (goal.at.tell-requires-clause-place g c).After-perform in
    subst (λ (n : ℕ). n < length c.annals-3.result.now.entries) (sym (place g done))
    (subst (λ (b : Book). length c.args.core.now.held.book.book.entries < length b.entries) (sym c.annals-3.ensures)
    (has_place g.D.Disk.state c.args.core.now c.perform.new.core c.args.lines.now c.next_line.new.lines (g.S.Source.state c.args.source.now) (g.S.Source.state c.next_line.new.source) (does g done)))

pub tell-requires-clause-next : goal.tell-requires-clause-next
tell-requires-clause-next g c =
    let done = (goal.at.tell-requires-clause-next g c).After-perform in
    omega (arith, c.requires.number, place g done, c.len-place.ensures.few)

pub returns-in-Ok-tell-clause-did : goal.returns-in-Ok-tell-clause-did
returns-in-Ok-tell-clause-did g c =
    let done = (goal.at.returns-in-Ok-tell-clause-did g c).After-perform in (
      does g done,
      subst (λ (text : List ℕ). Writes {T = Unit {0}} {E = Failed} text (Ok tt) (g.K.Sink.state c.args.sink.now) (g.K.Sink.state c.tell.new.sink))
          (printed_last c.args.ship c.len-place.result c.args.core.now.held.book.book c.perform.new.core.held.book.book c.annals-3.result.now
          (place g done) c.annals-3.ensures) (done_so _ c.in-Ok-tell.next c.in-Ok-tell.ensures.text),
      c.in-Ok-tell.ensures.next ∙ last_entry c.args.ship c.len-place.result c.args.core.now.held.book.book c.perform.new.core.held.book.book
          c.annals-3.result.now (place g done) c.annals-3.ensures,
    )

pub returns-in-Err-tell-clause-did : goal.returns-in-Err-tell-clause-did
returns-in-Err-tell-clause-did g c =
    let done = (goal.at.returns-in-Err-tell-clause-did g c).After-perform in (
      does g done,
      c.in-Err-tell._failed,
      subst (λ (text : List ℕ). Writes {T = Unit {0}} {E = Failed} text (Err c.in-Err-tell._failed) (g.K.Sink.state c.args.sink.now)
          (g.K.Sink.state c.tell.new.sink))
          (printed_last c.args.ship c.len-place.result c.args.core.now.held.book.book c.perform.new.core.held.book.book c.annals-3.result.now
          (place g done) c.annals-3.ensures) (failed_so _ c.in-Err-tell._failed c.in-Err-tell.ensures.text),
    )
