use Rattle.std.proofs.Common.{◌≡◌, ◌≢◌, ◌∙◌, ◌+◌, ◌≤◌, ℕ, IsTrue, List, Option, Result, Ok, Err, length, ap, sym, subst, arith}
use Rattle.std.proofs.lemmas.Bool.{false≢true}
use Rattle.std.proofs.lemmas.Result.{err_from_is_err_and}
use Rattle.std.specs.List.{between}
use Rattle.blsm_model.specs.Components.{no_page}
use Rattle.blsm_model.specs.Geometry.{page_count}
use Rattle.disk_trait.proofs.ReadLemmas.{only_reads_same}
use Rattle.page_file.specs.declared.file.Broken.{Broken}
use Rattle.page_file.specs.declared.file.Broken.TheVariants.{Fault}
use Rattle.page_file.specs.declared.page.PageHead.{PageHead}
use Rattle.page_file.specs.Entry.{entries_bytes}
use Rattle.page_file.specs.File.{page_at}
use Rattle.page_file.specs.Page.{used_by, IsPageOf}
use Rattle.record_delta.specs.Entries.{Entries}
use Rattle.run_cursor.proofs.CursorLemmas.{on_page}
use Rattle.run_cursor.proofs.RebuildLemmas.{place_is, read_fails}
use Rattle.run_cursor.proofs.guides.add_page.Goals as goal
use Rattle.run_cursor.proofs.guides.add_page.Goals.{After-add_entries}

fault_is : (a : Result (Unit {0}) Broken) (broken : Broken) → a ≡ Err broken → a ≡ Err Fault → broken ≡ Fault
fault_is a broken was is = cc

pub returns-in_err-read_page-clause-page : goal.returns-in_err-read_page-clause-page
returns-in_err-read_page-clause-page g c = λ next entries honest inside valid room above other.
    let sizes = c.args.geo.now in
    let p = err_from_is_err_and c.from_residual.result c.from_residual.ensures.1 in
    let calm : c.read_page.result ≢ Err Fault = λ fault. other (p.1 ∙ ap Err (p.2 ∙ fault_is c.read_page.result c.in_err-read_page.field-0.0 c.in_err-read_page.was fault)) in
    let reads = c.read_page.ensures.bytes calm (g.met.D.Disk.honest_tells c.args.disk.now honest) ∙ ap (page_at sizes c.args.at.page) (only_reads_same c.read_page.ensures.reads.effect honest) in
    absurd (read_fails (page_count sizes) c.args.at.page next entries c.read_page.new.into c.read_page.result c.in_err-read_page.field-0.0 c.in_err-read_page.was calm c.read_page.ensures.answer
    (subst (IsPageOf (page_count sizes) next entries) (sym reads) valid))

-- the page as it was read
read_is : (g : _) (c : After-add_entries g) (next : Option ℕ) (entries : Entries) → IsTrue (g.D.Disk.state c.args.disk.now).is_honest
    → IsPageOf (page_count c.args.geo.now) next entries (page_at c.args.geo.now c.args.at.page (g.D.Disk.state c.args.disk.now).bytes) → IsPageOf (page_count c.args.geo.now) next entries c.read_page.new.into
read_is g c next entries honest valid =
    let sizes = c.args.geo.now in
    let reads = c.in_ok-read_page.ensures.bytes (λ wrong. cc) (g.met.D.Disk.honest_tells c.args.disk.now honest) ∙ ap (page_at sizes c.args.at.page) (only_reads_same c.read_page.ensures.reads.effect honest) in
    subst (IsPageOf (page_count sizes) next entries) (sym reads) valid

head_is : (g : _) (c : After-add_entries g) (next : Option ℕ) (entries : Entries) → IsPageOf (page_count c.args.geo.now) next entries c.read_page.new.into
    → c.read-head.result ≡ record { count = length entries; used = used_by entries; next = next }
head_is g c next entries valid =
    let few : page_count c.args.geo.now ≤ no_page = omega (arith, c.pages.ensures.pages, c.pages.ensures.bound) in c.read-head.ensures.valid (page_count c.args.geo.now) next entries few valid

bytes_are : (page : List ℕ) (pages used : ℕ) (next : Option ℕ) (entries : Entries) → used ≡ used_by entries → IsPageOf pages next entries page → between 8 (8 + used) page ≡ entries_bytes entries
bytes_are page pages used next entries used_is valid = ap (λ u. between 8 (8 + u) page) used_is ∙ on_page pages next entries page valid

pub returns-then-add_entries-clause-page : goal.returns-then-add_entries-clause-page
returns-then-add_entries-clause-page g c = λ next entries honest inside valid room above other.
    let at = (goal.at.returns-then-add_entries-clause-page g c).After-add_entries in
    let page = read_is g at next entries honest valid in
    let head = head_is g at next entries page in
    let added =
    c.add_entries.ensures.added entries page.content.each (bytes_are c.read_page.new.into (page_count c.args.geo.now) c.read-head.result.used next entries (ap (λ (h : PageHead). h.used) head) page) room above in
    (ap Ok (place_is c.args.at c.read-head.result next entries _ _ _ head c.number_of.ensures c.from-then-add_entries.ensures c.from-then-add_entries-2.ensures), added.1, added.2)

pub returns-else-add_entries-clause-page : goal.returns-else-add_entries-clause-page
returns-else-add_entries-clause-page g c = λ next entries honest inside valid room above other.
    let at = (goal.at.returns-else-add_entries-clause-page g c).After-add_entries in
    let page = read_is g at next entries honest valid in
    let head = head_is g at next entries page in
    let added =
    c.add_entries.ensures.added entries page.content.each (bytes_are c.read_page.new.into (page_count c.args.geo.now) c.read-head.result.used next entries (ap (λ (h : PageHead). h.used) head) page) room above in
    absurd (false≢true (sym c.if-add_entries.false ∙ added.0))
