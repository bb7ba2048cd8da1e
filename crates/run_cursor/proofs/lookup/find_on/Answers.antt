use Rattle.std.proofs.Common.{◌≤◌, ◌<◌, ◌∙◌, ap, arith}
use Rattle.blsm_model.specs.Components.{no_page}
use Rattle.blsm_model.specs.Geometry.{page_count}
use Rattle.disk_trait.proofs.ReadLemmas.{only_reads_same}
use Rattle.page_file.specs.declared.page.PageHead.{PageHead}
use Rattle.page_file.specs.Page.{IsPage}
use Rattle.page_file.specs.File.{page_at}
use Rattle.run_cursor.proofs.FindLemmas.{on_this}
use Rattle.run_cursor.proofs.lookup.find_on.Goals as goal

pub returns-clause-page : goal.returns-clause-page
returns-clause-page g c = λ honest.
    let sizes = c.args.geo.now in
    let few : page_count sizes ≤ no_page = omega (arith, c.pages.ensures.pages, c.pages.ensures.bound) in
    let page : IsPage (page_count sizes) c.read_page.new.into = c.in_ok-read_page.ensures.answer in
    let inside : c.args.n < page_count sizes = omega (arith, c.if-from-pages.false, c.from.ensures, c.pages.ensures.pages) in
    let same = only_reads_same c.read_page.ensures.reads.effect honest in
    let reads = c.in_ok-read_page.ensures.bytes (λ wrong. cc) (g.met.D.Disk.honest_tells c.args.disk.now honest) ∙ ap (page_at sizes c.args.n) same in
    on_this sizes c.args.n c.args.key.now c.record_among.result (g.D.Disk.state c.args.disk.now).bytes c.read_page.new.into c.read-used.result.used page.0 page.1 inside page.2 reads
    (ap (λ (h : PageHead). h.used) (c.read-used.ensures.valid (page_count sizes) page.0 page.1 few page.2)) c.record_among.ensures
