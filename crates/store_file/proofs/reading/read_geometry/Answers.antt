use Rattle.std.proofs.Common.{◌≡◌, ◌∙◌, sym, ap, subst, IsTrue, List, ℕ}
use Rattle.disk_trait.specs.Disk.{part}
use Rattle.gated_write.specs.Gated.{open_byte}
use Rattle.blsm_model.specs.Geometry.{file_length}
use Rattle.store_file.specs.Layout.{superblock}
use Rattle.store_file.proofs.LayoutLaws.{superblock_same}
use Rattle.store_file.proofs.reading.read_geometry.Goals as goal

pub returns-else-length-2-clause-tells : goal.returns-else-length-2-clause-tells
returns-else-length-2-clause-tells g c = λ honest store.
    let still = subst IsTrue (sym c.len.ensures.passes.goes_on.is_honest) honest in
    let tells = g.met.D.Disk.honest_tells c.args.disk.now honest in
    let tells' = g.met.D.Disk.honest_tells c.len.new.self still in
    let file = (g.D.Disk.state c.args.disk.now).bytes in
    let found = c.in-Some.ensures.found in
    let block : part file 0 27 ≡ superblock open_byte c.in-Some.geometry =
    ap (λ (l : List ℕ). part l 0 27) (sym (c.read.ensures.same.bytes still ∙ c.len.ensures.same.bytes honest)) ∙ sym (c.in_ok-read.ensures.bytes tells') ∙ found.1 in
    let same : store.0 ≡ c.in-Some.geometry = superblock_same store.0 c.in-Some.geometry store.1.geometry found.0 (sym store.1.begins ∙ block) in
    c.if-length-2.false
    (c.in_ok-length.ensures.length tells ∙ c.len.ensures.same.length tells ∙ store.1.long ∙ ap file_length same ∙ sym c.length.ensures)
