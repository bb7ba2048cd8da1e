use Rattle.std.proofs.Common.{◌≡◌, ◌+◌, ℕ, Bool, Ok, Err, length, subst, ◌∙◌, ap}
use Rattle.store_serve.specs.Taken.{IsLineFor}
use Rattle.store_serve.proofs.NextLemmas.{comes_to, cut_off_stops, failed_stops, too_long_stops}
use Rattle.text_io.specs.Lines.{TellsLine}
use Rattle.text_io.specs.declared.lines.LineFault.{LineFault}
use Rattle.store_serve.proofs.next.next_line.Goals as goal

pub returns-in-Ok-true-clause-comes : goal.returns-in-Ok-true-clause-comes
returns-in-Ok-true-clause-comes g c =
    let book = c.args.annals.now in
    let m = c.next.new.self in
    let s = g.S.Source.state c.args.source.now in
    let t = g.S.Source.state c.next.new.source in
    let number : ℕ = c.len.result + 1 in
    let place : number ≡ length book.entries + 1 = ap (λ (n : ℕ). n + 1) c.len.ensures.entries in
    let gives = subst (λ (b : Bool). TellsLine (Ok b) c.args.lines.now m s t) c.in-Ok-true.field-0-test c.in-Ok-true.ensures.tells in
    comes_to book number c.with_room.result c.args.lines.now m s t place gives (subst (λ bytes. IsLineFor bytes book.room number c.with_room.result) c.line.ensures c.with_room.ensures)

pub returns-in-Err-Failed-clause-comes : goal.returns-in-Err-Failed-clause-comes
returns-in-Err-Failed-clause-comes g c =
    let s = g.S.Source.state c.args.source.now in
    let t = g.S.Source.state c.next.new.source in
    let tells = subst (λ (e : LineFault). TellsLine (Err e) c.args.lines.now c.next.new.self s t) c.in-Err-Failed.field-0-is c.in-Err-Failed.ensures.tells in
    failed_stops c.args.annals.now c.args.lines.now c.next.new.self s t tells.0 tells.1 tells.2 (c.next.ensures.longest ∙ c.requires) tells.3

pub returns-in-Err-TooLong-clause-comes : goal.returns-in-Err-TooLong-clause-comes
returns-in-Err-TooLong-clause-comes g c =
    let s = g.S.Source.state c.args.source.now in
    let t = g.S.Source.state c.next.new.source in
    let tells = subst (λ (e : LineFault). TellsLine (Err e) c.args.lines.now c.next.new.self s t) c.in-Err-TooLong.field-0-is c.in-Err-TooLong.ensures.tells in
    too_long_stops c.args.annals.now c.args.lines.now c.next.new.self s t (c.len.result + 1) (ap (λ (n : ℕ). n + 1) c.len.ensures.entries) tells.0 tells.1 tells.2 (c.next.ensures.longest ∙ c.requires) c.next.ensures.few tells.3

pub returns-in-Err-CutOff-clause-comes : goal.returns-in-Err-CutOff-clause-comes
returns-in-Err-CutOff-clause-comes g c =
    let s = g.S.Source.state c.args.source.now in
    let t = g.S.Source.state c.next.new.source in
    let tells = subst (λ (e : LineFault). TellsLine (Err e) c.args.lines.now c.next.new.self s t) c.in-Err-CutOff.field-0-is c.in-Err-CutOff.ensures.tells in
    cut_off_stops c.args.annals.now c.args.lines.now c.next.new.self s t (c.len.result + 1) (ap (λ (n : ℕ). n + 1) c.len.ensures.entries) tells.0 tells.1 tells.2 tells.3 (c.next.ensures.longest ∙ c.requires) tells.4 tells.5
