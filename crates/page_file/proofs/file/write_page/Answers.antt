use Rattle.std.proofs.Common.{◌∙◌, ℕ, ◌+◌, ◌≤◌, length, ⊎_elim, ap, subst, arith}
use Rattle.std.proofs.lemmas.Result.{on_ok_weaker}
use Rattle.disk_trait.specs.Disk.{overwritten}
use Rattle.disk_trait.specs.Effects.{Affects}
use Rattle.disk_trait.proofs.EffectLemmas.{affects_write}
use Rattle.disk_trait.specs.Region.{span}
use Rattle.blsm_model.specs.Format.{page_length}
use Rattle.blsm_model.specs.Geometry.{file_length}
use Rattle.page_file.specs.File.{page_start}
use Rattle.page_file.proofs.PageLemmas.{written_reads}
use Rattle.page_file.proofs.file.write_page.Goals as goal

pub returns-clause-reads : goal.returns-clause-reads
returns-clause-reads g c =
    let old = (g.D.Disk.state c.args.disk.now).bytes in
    on_ok_weaker c.write.result (λ written honest.
    let tells = g.met.D.Disk.honest_tells c.args.disk.now honest in
    written_reads (page_start c.args.geo.now c.args.n) old _ c.args.bytes.now c.told-bytes (omega (arith, c.place_of.ensures.inside, c.requires.length tells))
    (written honest ∙ ap (λ n. overwritten old n c.args.bytes.now) c.place_of.ensures.place)) c.write.ensures.bytes

pub returns-clause-writes : goal.returns-clause-writes
returns-clause-writes g c =
    let old = g.D.Disk.state c.args.disk.now in
    let new = g.D.Disk.state c.write.new.self in
    let at = c.place_of.result in
    let end : ℕ = file_length c.args.geo.now in
    let inside : at + 4096 ≤ end = omega (arith, c.place_of.ensures.place, c.place_of.ensures.inside) in
    record {
      effect =
          subst (λ from. Affects (span from page_length) end 1 old new) c.place_of.ensures.place
          (subst (λ n. Affects (span at n) end 1 old new) c.told-bytes
          (affects_write at (length c.args.bytes.now) (g.met.D.Disk.timed c.args.disk.now) c.write.ensures.passes c.write.ensures.no_sync c.write.ensures.within
          (omega (arith, inside, c.told-bytes)) (λ some far. c.write.ensures.sure some (omega (arith, far, inside, c.told-bytes)))));
      no_sync = c.write.ensures.no_sync;
      stands = c.write.ensures.stands;
      failed = λ err. ⊎_elim (λ risen. risen) (λ past. absurd (omega (arith, past.1, inside, c.requires.length past.0))) (c.write.ensures.failed err);
    }
