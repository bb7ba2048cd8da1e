use Rattle.std.proofs.Common.{◌≡◌, ◌+◌, sym, subst}
use Rattle.page_file.specs.Component.{entries_of}
use Rattle.run_writer.specs.Writer.{WriterState, resumed, HasPushed}
use Rattle.run_writer.proofs.GrowthLemmas.{pushed_before}
use Rattle.run_writer.proofs.writer.Writer.resume.Goals as goal

pub returns-clause-pushed : goal.returns-clause-pushed
returns-clause-pushed c = λ sizes honest file space filter fences pages is guide one.
    let closed = c.args.closed.now in
    let is_resumed : _ ≡ resumed c.args.role closed c.args.page = λ i. record { role = c.args.role; component = record closed { pages = closed.pages + 1 }; number = c.args.page; buffer = c.new.ensures i } in
    subst (λ (w : WriterState). HasPushed sizes honest file space w filter fences (entries_of pages)) (sym is_resumed)
    (pushed_before sizes honest file space c.args.role closed c.args.page filter fences pages c.requires.counted is guide one)
