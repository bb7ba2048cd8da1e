use Rattle.std.proofs.Common.{◌≡◌, ◌∙◌, ◌∷◌, [], ℕ, Option, Some, ap, sym, subst}
use Rattle.std.specs.Prelude.{IfOk}
use Rattle.std.specs.List.{Contains}
use Rattle.disk_trait.specs.Effects.{Affects}
use Rattle.blsm_model.specs.Geometry.{page_count, file_length}
use Rattle.bloom_bits.specs.Guides.{Guide}
use Rattle.record_delta.specs.Entries.{folded_over, settled_entries}
use Rattle.page_space.specs.Space.{HasRole}
use Rattle.page_file.specs.Component.{HasList, entries_of, numbers_of}
use Rattle.page_file.specs.File.{Writes}
use Rattle.run_writer.specs.Writer.{IsInside, role_region}
use Rattle.run_writer.proofs.RegionLemmas.{open_inside}
use Rattle.deep_merge.specs.Merge.{DeepState, IsMerge}
use Rattle.merge_ends.specs.Progress.{IsRunning}
use Rattle.tree_runs.specs.declared.runs.Merges.{Merges}
use Rattle.tree_runs.specs.Runs.{RunsState, DeepRuns, DeepHasTag, fences_of_tag, filter_of, guide_at}
use Rattle.tree_runs.specs.Holding.{AreTagged, IsDeepOver}
use Rattle.tree_runs.specs.Writing.{open_of_deep}
use Rattle.tree_runs.proofs.SwapRegions.{end_writes}
use Rattle.tree_runs.proofs.runs.Runs.finish_deep.Goals as goal

pub finish-requires-clause-inside : goal.finish-requires-clause-inside
finish-requires-clause-inside g c =
    let now = c.args.self.now in
    let d = g.D.Disk.state c.args.disk.now in
    let is : now.deep ≡ Some c.in-Some.deep = sym (ap (λ (s : RunsState). s.deep) c.self.view_is) ∙ sym (ap (λ (m : Merges). m.deep) c.deref_mut-merges.ensures.value) ∙ c.in-Some.is in
    let runs = subst (λ (o : Option DeepState). DeepRuns now.sizes d.is_honest d.bytes now.space (guide_at now.guides now.tags.deep) o) is c.requires.running.deep in
    let order = c.requires.running.in_order in
    subst (λ (s : RunsState). IsInside (page_count s.sizes) c.in-Some.deep.writer) (sym c.self.view_is)
    (open_inside now.sizes d.is_honest d.bytes now.space c.in-Some.deep.writer (filter_of now now.tags.deep) (fences_of_tag now now.tags.deep) runs.run.out runs.run.pushed order.shape order.pages)

pub returns-clause-list : goal.returns-clause-list
returns-clause-list g c = λ c1x c2 honest over.
    let now = c.args.self.now in
    let old = g.D.Disk.state c.args.disk.now in
    let new = g.D.Disk.state c.finish.new.disk in
    let is : now.deep ≡ Some c.in-Some.deep = sym (ap (λ (s : RunsState). s.deep) c.self.view_is) ∙ sym (ap (λ (m : Merges). m.deep) c.deref_mut-merges.ensures.value) ∙ c.in-Some.is in
    let role = subst (λ (o : Option DeepState). DeepHasTag now.tags.deep o) is c.requires.running.in_order.deep_tag in
    let merge = subst (λ (o : Option DeepState). IsDeepOver now.sizes old.bytes now.space (guide_at now.guides now.tags.deep) o c1x c2) is over in
    let here = subst (λ (s : RunsState). IsMerge s.sizes old.bytes now.space c.in-Some.deep (filter_of now now.tags.deep) (fences_of_tag now now.tags.deep) (numbers_of c1x) (numbers_of c2) (entries_of c1x) (entries_of c2)) (sym c.self.view_is) merge in
    subst (λ (s : RunsState). IfOk c.finish.result (λ k. (x : HasList s.sizes k (settled_entries (folded_over (entries_of c1x) (entries_of c2))) new.bytes) × AreTagged now.space now.tags.deep x.pages × Guide (filter_of now now.tags.deep) (fences_of_tag now now.tags.deep) x.pages)) c.self.view_is
    (subst (λ (r : ℕ). IfOk c.finish.result (λ k. (x : HasList c.self.inside.geometry k (settled_entries (folded_over (entries_of c1x) (entries_of c2))) new.bytes) × ((n : ℕ) → Contains (numbers_of x.pages) n → HasRole now.space r n) × Guide (filter_of now now.tags.deep) (fences_of_tag now now.tags.deep) x.pages)) role
    (c.finish.ensures.list now.space (filter_of now now.tags.deep) (fences_of_tag now now.tags.deep) (numbers_of c1x) (numbers_of c2) (entries_of c1x) (entries_of c2) honest here))

pub returns-clause-writes : goal.returns-clause-writes
returns-clause-writes g c =
    let now = c.args.self.now in
    let old = g.D.Disk.state c.args.disk.now in
    let new = g.D.Disk.state c.finish.new.disk in
    let is : now.deep ≡ Some c.in-Some.deep = sym (ap (λ (s : RunsState). s.deep) c.self.view_is) ∙ sym (ap (λ (m : Merges). m.deep) c.deref_mut-merges.ensures.value) ∙ c.in-Some.is in
    let role = subst (λ (o : Option DeepState). DeepHasTag now.tags.deep o) is c.requires.running.in_order.deep_tag in
    let runs = subst (λ (o : Option DeepState). DeepRuns now.sizes old.is_honest old.bytes now.space (guide_at now.guides now.tags.deep) o) is c.requires.running.deep in
    let here = subst (λ (s : RunsState). IsRunning s.sizes old.is_honest old.bytes now.space c.in-Some.deep.writer c.in-Some.deep.at (c.in-Some.deep.c1x ∷ c.in-Some.deep.c2 ∷ []) (filter_of now now.tags.deep) (fences_of_tag now now.tags.deep)) (sym c.self.view_is) runs in
    subst (λ (s : RunsState). Writes (role_region s.sizes now.space now.tags.deep) (file_length s.sizes) c.finish.result old new) c.self.view_is
    (subst (λ (r : ℕ). Writes (role_region c.self.inside.geometry now.space r) (file_length c.self.inside.geometry) c.finish.result old new) role (end_writes here.run.pushed c.finish.ensures.writes))

pub returns-clause-opens : goal.returns-clause-opens
returns-clause-opens g c =
    let now = c.args.self.now in
    let old = g.D.Disk.state c.args.disk.now in
    let new = g.D.Disk.state c.finish.new.disk in
    let is : now.deep ≡ Some c.in-Some.deep = sym (ap (λ (s : RunsState). s.deep) c.self.view_is) ∙ sym (ap (λ (m : Merges). m.deep) c.deref_mut-merges.ensures.value) ∙ c.in-Some.is in
    subst (λ (s : RunsState). Affects (open_of_deep s.sizes now.deep) (file_length s.sizes) 1 old new) c.self.view_is
    (subst (λ (d : Option DeepState). Affects (open_of_deep c.self.inside.geometry d) (file_length c.self.inside.geometry) 1 old new) (sym is) c.finish.ensures.writes.effect)
