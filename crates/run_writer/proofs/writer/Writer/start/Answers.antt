use Rattle.std.proofs.Common.{◌≡◌, [], sym, subst, arith}
use Rattle.run_writer.specs.Writer.{WriterState, started, IsCounted, HasPushed}
use Rattle.run_writer.proofs.RunLemmas.{holds_none}
use Rattle.run_writer.proofs.GrowthLemmas.{nothing_pushed}
use Rattle.run_writer.proofs.writer.Writer.start.Goals as goal

pub returns-clause-pushed : goal.returns-clause-pushed
returns-clause-pushed c = λ sizes honest file space filter fences guide.
    let is : _ ≡ started c.args.role = λ i. record { role = c.args.role; component = c.no_component-component.ensures.empty i; number = (c.no_component-component.ensures.empty i).first; buffer = c.new.ensures i } in
    let counted : IsCounted (started c.args.role) = record {
      role = omega (arith, c.number-number.ensures.number, c.number-number.ensures.in_range);
      none = λ none. omega arith;
      fits = omega arith;
      weight = omega arith;
      entries = omega arith;
      floor = omega arith;
      here = omega arith;
    } in
    let empty = holds_none c.args.role in
    subst (λ (w : WriterState). HasPushed sizes honest file space w filter fences []) (sym is) (nothing_pushed sizes honest file space (started c.args.role) filter fences empty.0 empty.1 counted guide)
