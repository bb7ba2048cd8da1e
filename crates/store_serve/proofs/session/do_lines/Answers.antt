use Rattle.std.proofs.Common.{ℕ, Ok, ap, subst, sym}
use Rattle.refusal.specs.declared.Failed.{Failed}
use Rattle.text_io.specs.Lines.{LinesState}
use Rattle.text_io.specs.Text.{Writes}
use Rattle.store_serve.specs.Told.{open_text}
use Rattle.store_serve.proofs.SessionLemmas.{SoFar, did_end, line_more, so_far_more, so_far_none, small_number, told_none_by}
use Rattle.store_serve.proofs.session.do_lines.Goals as goal

pub returns-in_default : goal.returns-in_default
returns-in_default g c =
    told_none_by g.D.Disk.state c.args.ships c.args.core.now (g.S.Source.state c.args.source.now) (g.K.Sink.state c.args.sink.now)
    (g.K.Sink.state c.print_charge.new.sink) c.print_charge.result (c.in_default.not-Ok tt) c.requires.rests c.requires.none c.requires.uncounted
    c.charge.result c.charge.ensures c.print_charge.ensures

pub loop-next-init : goal.loop-next-init
loop-next-init g c =
    let s = g.S.Source.state c.args.source.now in
    let k = g.K.Sink.state c.args.sink.now in
    let h = g.K.Sink.state c.print_charge.new.sink in
    let told = subst (λ (n : ℕ). Writes {T = Unit {0}} {E = Failed} (open_text n) (Ok tt) k h) c.charge.ensures c.in-Ok.ensures in
    record {
      so_far = subst (λ (l : LinesState). SoFar g.D.Disk.state c.args.ships c.args.ships c.args.core.now c.args.core.now s l s k h)
          (sym c.new-lines.ensures) (so_far_none g.D.Disk.state c.args.ships c.args.core.now s _ k h c.requires.rests c.requires.none
          c.requires.uncounted told);
      longest = ap (λ (l : LinesState). l.longest) c.new-lines.ensures;
      rests = c.requires.rests;
    }

pub do_line-requires-clause-number : goal.do_line-requires-clause-number
do_line-requires-clause-number g c =
    small_number g.D.Disk.state c.args.ships c.loop-next.ship c.args.core.now c.loop-next.core (g.S.Source.state c.args.source.now)
    c.loop-next.lines (g.S.Source.state c.loop-next.source)
    (g.K.Sink.state c.args.sink.now) (g.K.Sink.state c.loop-next.sink) c.loop-next.invariant.so_far c.requires.number

pub loop-next-smaller : goal.loop-next-smaller
loop-next-smaller g c =
    line_more g.D.Disk.state c.loop-next.core c.do_line.new.core c.loop-next.lines c.do_line.new.lines (g.S.Source.state c.loop-next.source) (g.S.Source.state c.do_line.new.source) c.in-Ok-do_line.ensures.did.0

pub loop-next-preserved : goal.loop-next-preserved
loop-next-preserved g c = record {
  so_far = so_far_more g.D.Disk.state c.args.ships c.loop-next.ship c.args.core.now c.loop-next.core c.do_line.new.core
      (g.S.Source.state c.args.source.now) c.loop-next.lines c.do_line.new.lines (g.S.Source.state c.loop-next.source)
      (g.S.Source.state c.do_line.new.source)
      (g.K.Sink.state c.args.sink.now) (g.K.Sink.state c.loop-next.sink) (g.K.Sink.state c.do_line.new.sink) c.loop-next.invariant.so_far
      c.in-Ok-do_line.ensures.did.0 c.in-Ok-do_line.next c.in-Ok-do_line.ensures.did.1 c.in-Ok-do_line.ensures.did.2;
  longest = c.in-Ok-do_line.ensures.longest;
  rests = c.in-Ok-do_line.ensures.rests;
}

pub returns-in-Err : goal.returns-in-Err
returns-in-Err g c =
    did_end g.D.Disk.state c.args.ships c.loop-next.ship c.in-Err.closing c.args.core.now c.loop-next.core c.do_line.new.core
    (g.S.Source.state c.args.source.now) c.loop-next.lines c.do_line.new.lines (g.S.Source.state c.loop-next.source)
    (g.S.Source.state c.do_line.new.source)
    (g.K.Sink.state c.args.sink.now) (g.K.Sink.state c.loop-next.sink) (g.K.Sink.state c.do_line.new.sink) c.loop-next.invariant.so_far c.in-Err.ensures.did
