use Rattle.std.proofs.Common.{Bool, true, sym, subst}
use Rattle.std.specs.Prelude.{IfOk}
use Rattle.std.specs.List.{Contains}
use Rattle.std.proofs.Common.{ℕ}
use Rattle.bloom_bits.specs.Guides.{Guide}
use Rattle.record_delta.specs.Entries.{folded_over}
use Rattle.page_space.specs.Space.{HasRole}
use Rattle.page_file.specs.Component.{numbers_of, HasList}
use Rattle.page_file.specs.File.{Writes}
use Rattle.run_writer.specs.Writer.{open_region, HasEntries, HasPushed}
use Rattle.blsm_model.specs.Geometry.{file_length}
use Rattle.merge_ends.specs.Merge.{MergeState}
use Rattle.merge_ends.specs.Output.{kept}
use Rattle.merge_ends.proofs.MergeLemmas.{all_begun, pushed_all}
use Rattle.merge_ends.proofs.merge.Merge.finish.Goals as goal

pub returns-clause-list : goal.returns-clause-list
returns-clause-list g c = λ settles space input table filter fences overs unders over under honest done merging.
    let sizes = c.args.geo.now in
    let d = g.D.Disk.state c.args.disk.now in
    let out = kept settles (folded_over over under) in
    let pushed = pushed_all c.args.self.now over under done merging in
    let here = subst (λ (s : MergeState). HasPushed sizes true d.bytes space s.writer filter fences out) (sym c.self.view_is) pushed in
    subst (λ (s : MergeState). IfOk c.end.result (λ run. (list : HasList sizes run out (g.D.Disk.state c.end.new.disk).bytes)
    × ((n : ℕ) → Contains (numbers_of list.pages) n → HasRole space s.writer.role n) × Guide filter fences list.pages)) c.self.view_is
    (c.end.ensures.list space filter fences out honest (subst (λ (s : MergeState). HasEntries s.writer) (sym c.self.view_is) (all_begun c.args.self.now over under done merging)) (subst (λ (b : Bool). HasPushed sizes b d.bytes space c.self.inside.writer filter fences out) (sym honest) here))

pub returns-clause-writes : goal.returns-clause-writes
returns-clause-writes g c =
    let old = g.D.Disk.state c.args.disk.now in
    let new = g.D.Disk.state c.end.new.disk in
    subst (λ (s : MergeState). Writes (open_region c.args.geo.now s.writer) (file_length c.args.geo.now) c.end.result old new) c.self.view_is
    c.end.ensures.writes
