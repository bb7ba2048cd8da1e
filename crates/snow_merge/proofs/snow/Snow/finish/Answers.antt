use Rattle.std.proofs.Common.{◌≡◌, ℕ, [], false, None, sym, subst}
use Rattle.std.specs.Prelude.{IfOk}
use Rattle.std.specs.List.{Contains}
use Rattle.blsm_model.specs.Geometry.{file_length}
use Rattle.bloom_bits.specs.Guides.{Guide}
use Rattle.record_delta.specs.Entries.{above, folded_over}
use Rattle.page_space.specs.Space.{HasRole}
use Rattle.page_file.specs.Component.{numbers_of, HasList}
use Rattle.page_file.specs.File.{Writes}
use Rattle.run_writer.specs.Writer.{open_region}
use Rattle.merge_ends.specs.Progress.{left_to_take}
use Rattle.merge_ends.proofs.MergeLemmas.{lent_merge}
use Rattle.snow_merge.specs.Pass.{SnowState, IsPass, progress_of_pass}
use Rattle.snow_merge.proofs.snow.Snow.finish.Goals as goal

pub returns-clause-list : goal.returns-clause-list
returns-clause-list g c = λ space filter fences pages all c1 honest same pass.
    let a = c.args.a.now.entries in
    let d = g.D.Disk.state c.args.disk.now in
    let old = subst (λ (s : SnowState). IsPass c.args.geo.now d.bytes space s filter fences pages all c1) (sym c.self.view_is) pass in
    let here = subst (λ (s : SnowState). above s.at all ≡ above s.at a) (sym c.self.view_is) same in
    let done = subst (λ (s : SnowState). left_to_take (progress_of_pass s a) ≡ 0) (sym c.self.view_is) c.requires.done in
    subst (λ (s : SnowState). IfOk c.finish.result (λ run. (list : HasList c.args.geo.now run (folded_over all c1)
    (g.D.Disk.state c.finish.new.disk).bytes)
    × ((n : ℕ) → Contains (numbers_of list.pages) n → HasRole space s.writer.role n) × Guide filter fences list.pages)) c.self.view_is
    (c.finish.ensures.list false space None a filter fences [] pages all c1 honest done (lent_merge c.self.inside.merge all all c1 a here old))

pub returns-clause-writes : goal.returns-clause-writes
returns-clause-writes g c =
    let old = g.D.Disk.state c.args.disk.now in
    let new = g.D.Disk.state c.finish.new.disk in
    subst (λ (s : SnowState). Writes (open_region c.args.geo.now s.writer) (file_length c.args.geo.now) c.finish.result old new) c.self.view_is
    c.finish.ensures.writes
