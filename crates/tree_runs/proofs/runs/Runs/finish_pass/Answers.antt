use Rattle.std.proofs.Common.{◌≡◌, ◌∙◌, ◌∷◌, [], ℕ, Option, Some, ap, sym, subst}
use Rattle.std.specs.Prelude.{IfOk}
use Rattle.std.specs.List.{Contains}
use Rattle.blsm_model.specs.Geometry.{page_count, file_length}
use Rattle.bloom_bits.specs.Guides.{Guide}
use Rattle.record_delta.specs.Entries.{above, folded_over}
use Rattle.page_space.specs.Space.{HasRole}
use Rattle.page_file.specs.Component.{HasList, entries_of, numbers_of}
use Rattle.page_file.specs.File.{Writes}
use Rattle.run_writer.specs.Writer.{IsInside, open_region, role_region}
use Rattle.run_writer.proofs.RegionLemmas.{open_inside}
use Rattle.snow_merge.specs.Pass.{SnowState, IsPass}
use Rattle.merge_ends.specs.Progress.{IsRunning}
use Rattle.tree_runs.specs.declared.runs.Merges.{Merges}
use Rattle.tree_runs.specs.Runs.{RunsState, PassRuns, PassHasTag, fences_of_tag, filter_of, guide_at}
use Rattle.tree_runs.specs.Holding.{AreTagged, IsPassOver, cursor_of_pass}
use Rattle.tree_runs.proofs.SwapRegions.{end_writes}
use Rattle.disk_trait.specs.Effects.{Affects}
use Rattle.tree_runs.specs.Writing.{open_of_pass}
use Rattle.tree_runs.proofs.runs.Runs.finish_pass.Goals as goal

pub finish-requires-clause-inside : goal.finish-requires-clause-inside
finish-requires-clause-inside g c =
    let now = c.args.self.now in
    let d = g.D.Disk.state c.args.disk.now in
    let is : now.pass ≡ Some c.in-Some.snow = sym (ap (λ (s : RunsState). s.pass) c.self.view_is) ∙ sym (ap (λ (m : Merges). m.pass) c.deref_mut-merges.ensures.value) ∙ c.in-Some.is in
    let runs = subst (λ (o : Option SnowState). PassRuns now.sizes d.is_honest d.bytes now.space (guide_at now.guides now.tags.pass) o) is c.requires.running.pass in
    let order = c.requires.running.in_order in
    subst (λ (s : RunsState). IsInside (page_count s.sizes) c.in-Some.snow.writer) (sym c.self.view_is)
    (open_inside now.sizes d.is_honest d.bytes now.space c.in-Some.snow.writer (filter_of now now.tags.pass) (fences_of_tag now now.tags.pass) runs.run.out runs.run.pushed order.shape order.pages)

pub returns-clause-list : goal.returns-clause-list
returns-clause-list g c = λ all c1 honest ahead over.
    let now = c.args.self.now in
    let old = g.D.Disk.state c.args.disk.now in
    let new = g.D.Disk.state c.finish.new.disk in
    let is : now.pass ≡ Some c.in-Some.snow = sym (ap (λ (s : RunsState). s.pass) c.self.view_is) ∙ sym (ap (λ (m : Merges). m.pass) c.deref_mut-merges.ensures.value) ∙ c.in-Some.is in
    let role = subst (λ (o : Option SnowState). PassHasTag now.tags.pass o) is c.requires.running.in_order.pass_tag in
    let merge = subst (λ (o : Option SnowState). IsPassOver now.sizes old.bytes now.space (guide_at now.guides now.tags.pass) o all c1) is over in
    let same = subst (λ (o : Option SnowState). above (cursor_of_pass o) all ≡ above (cursor_of_pass o) c.args.a.now.entries) is ahead in
    let here = subst (λ (s : RunsState). IsPass s.sizes old.bytes now.space c.in-Some.snow (filter_of now now.tags.pass)
    (fences_of_tag now now.tags.pass) (numbers_of c1) all (entries_of c1))
    (sym c.self.view_is) merge in
    subst (λ (s : RunsState). IfOk c.finish.result (λ k. (x : HasList s.sizes k (folded_over all (entries_of c1)) new.bytes)
    × AreTagged now.space now.tags.pass x.pages × Guide (filter_of now now.tags.pass) (fences_of_tag now now.tags.pass) x.pages)) c.self.view_is
    (subst (λ (r : ℕ). IfOk c.finish.result (λ k. (x : HasList c.self.inside.geometry k (folded_over all (entries_of c1)) new.bytes)
    × ((n : ℕ) → Contains (numbers_of x.pages) n → HasRole now.space r n)
    × Guide (filter_of now now.tags.pass) (fences_of_tag now now.tags.pass) x.pages)) role
    (c.finish.ensures.list now.space (filter_of now now.tags.pass) (fences_of_tag now now.tags.pass) (numbers_of c1) all
    (entries_of c1) honest same here))

pub returns-clause-writes : goal.returns-clause-writes
returns-clause-writes g c =
    let now = c.args.self.now in
    let old = g.D.Disk.state c.args.disk.now in
    let new = g.D.Disk.state c.finish.new.disk in
    let is : now.pass ≡ Some c.in-Some.snow = sym (ap (λ (s : RunsState). s.pass) c.self.view_is) ∙ sym (ap (λ (m : Merges). m.pass) c.deref_mut-merges.ensures.value) ∙ c.in-Some.is in
    let role = subst (λ (o : Option SnowState). PassHasTag now.tags.pass o) is c.requires.running.in_order.pass_tag in
    let runs = subst (λ (o : Option SnowState). PassRuns now.sizes old.is_honest old.bytes now.space (guide_at now.guides now.tags.pass) o) is c.requires.running.pass in
    let here = subst (λ (s : RunsState). IsRunning s.sizes old.is_honest old.bytes now.space c.in-Some.snow.writer c.in-Some.snow.at (c.in-Some.snow.c1 ∷ []) (filter_of now now.tags.pass) (fences_of_tag now now.tags.pass)) (sym c.self.view_is) runs in
    subst (λ (s : RunsState). Writes (role_region s.sizes now.space now.tags.pass) (file_length s.sizes) c.finish.result old new) c.self.view_is
    (subst (λ (r : ℕ). Writes (role_region c.self.inside.geometry now.space r) (file_length c.self.inside.geometry) c.finish.result old new) role (end_writes here.run.pushed c.finish.ensures.writes))

pub returns-clause-opens : goal.returns-clause-opens
returns-clause-opens g c =
    let now = c.args.self.now in
    let old = g.D.Disk.state c.args.disk.now in
    let new = g.D.Disk.state c.finish.new.disk in
    let is : now.pass ≡ Some c.in-Some.snow = sym (ap (λ (s : RunsState). s.pass) c.self.view_is) ∙ sym (ap (λ (m : Merges). m.pass) c.deref_mut-merges.ensures.value) ∙ c.in-Some.is in
    subst (λ (o : Option SnowState). Affects (open_of_pass now.sizes o) (file_length now.sizes) 1 old new) (sym is)
    (subst (λ (s : RunsState). Affects (open_region s.sizes c.in-Some.snow.writer) (file_length s.sizes) 1 old new) c.self.view_is c.finish.ensures.writes.effect)
