use Rattle.std.proofs.Common.{◌∙◌, true, refl}
use Rattle.run_writer.specs.Run.{page_of}
use Rattle.run_writer.proofs.ClosedLemmas.{closed_are, closed_reads}
use Rattle.merge_ends.proofs.laws.what_is_finished.Goals as goal

pub returns : goal.returns
returns c = λ settles sizes file space merge input table filter fences newer_pages older_pages newer older merging.
    let out = merging.run.out in
    let has = merging.run.pushed in
    record {
      pages = has.run.closed;
      behind = page_of has.run.number has.run.entries;
      reads = closed_reads sizes true file space merge.writer filter fences out has refl;
      entries_are = closed_are sizes true file space merge.writer filter fences out has ∙ merging.closed_is;
      guide = has.guide;
    }
