use Rattle.std.proofs.Common.{◌∙◌, ⊎_elim, Err, ap, refl, arith}
use Rattle.std.proofs.lemmas.Result.{err_from_is_err_and}
use Rattle.disk_trait.specs.Disk.{part}
use Rattle.disk_trait.proofs.ReadLemmas.{only_reads_call}
use Rattle.page_file.proofs.file.read_page.Goals as goal

pub returns-then-is_page-clause-bytes : goal.returns-then-is_page-clause-bytes
returns-then-is_page-clause-bytes g c = λ other tells. c.in_ok-read.ensures.bytes tells ∙ λ i. part (g.D.Disk.state c.read.new.self).bytes (c.place_of.ensures.place i) (c.told-into i)

pub returns-else-is_page-clause-bytes : goal.returns-else-is_page-clause-bytes
returns-else-is_page-clause-bytes g c = λ other tells. c.in_ok-read.ensures.bytes tells ∙ λ i. part (g.D.Disk.state c.read.new.self).bytes (c.place_of.ensures.place i) (c.told-into i)

pub returns-in_err-read-clause-reads : goal.returns-in_err-read-clause-reads
returns-in_err-read-clause-reads g c = record {
  effect =
      only_reads_call (g.met.D.Disk.timed c.args.disk.now) c.read.ensures.passes c.read.ensures.no_sync c.read.ensures.same c.read.ensures.images
      (λ some far. c.read.ensures.sure some (omega (arith, far, c.told-into, c.place_of.ensures.place, c.place_of.ensures.inside)));
  stands = λ other. let p = err_from_is_err_and c.from_residual.result c.from_residual.ensures.1 in absurd (other (p.1 ∙ ap Err p.2));
  failed = λ is.
      ⊎_elim (λ risen. risen) (λ past. absurd (omega (arith, past.1, c.told-into, c.place_of.ensures.place, c.place_of.ensures.inside, c.requires.length past.0)))
      (c.in_err-read.ensures.failed refl);
}

pub returns-then-is_page-clause-reads : goal.returns-then-is_page-clause-reads
returns-then-is_page-clause-reads g c = record {
  effect =
      only_reads_call (g.met.D.Disk.timed c.args.disk.now) c.read.ensures.passes c.read.ensures.no_sync c.read.ensures.same c.read.ensures.images
      (λ some far. c.read.ensures.sure some (omega (arith, far, c.told-into, c.place_of.ensures.place, c.place_of.ensures.inside)));
  stands = λ other. c.in_ok-read.ensures.stands;
  failed = λ wrong. absurd (cc);
}

pub returns-else-is_page-clause-reads : goal.returns-else-is_page-clause-reads
returns-else-is_page-clause-reads g c = record {
  effect =
      only_reads_call (g.met.D.Disk.timed c.args.disk.now) c.read.ensures.passes c.read.ensures.no_sync c.read.ensures.same c.read.ensures.images
      (λ some far. c.read.ensures.sure some (omega (arith, far, c.told-into, c.place_of.ensures.place, c.place_of.ensures.inside)));
  stands = λ other. c.in_ok-read.ensures.stands;
  failed = λ wrong. absurd (cc);
}
