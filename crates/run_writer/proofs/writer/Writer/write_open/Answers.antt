use Rattle.std.proofs.Common.{◌<◌, arith, ap, subst}
use Rattle.disk_trait.proofs.EffectLemmas.{affects_wider}
use Rattle.page_file.specs.File.{page_region}
use Rattle.run_writer.specs.Writer.{WriterState}
use Rattle.run_writer.proofs.writer.Writer.write_open.Goals as goal

pub returns-clause-writes : goal.returns-clause-writes
returns-clause-writes g c =
    let number_is = ap (λ (w : WriterState). w.number) c.self.view_is in
    let some : 0 < c.args.self.now.component.pages = subst (λ (w : WriterState). 0 < w.component.pages) c.self.view_is (omega (arith, c.if-self-eq0.false)) in
    let writes = c.write.ensures.writes in
    record {
      effect = affects_wider (λ i inside. (some, subst (λ n. page_region c.args.geo.now n i) number_is inside)) (omega arith) (omega arith) writes.effect;
      no_sync = writes.no_sync;
      stands = writes.stands;
      failed = writes.failed;
    }
