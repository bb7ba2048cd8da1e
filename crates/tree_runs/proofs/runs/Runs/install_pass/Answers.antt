use Rattle.std.proofs.Common.{◌≡◌, true, false, sym, subst, refl}
use Rattle.tree_file.specs.Tree.{HoldsTree}
use Rattle.tree_file.specs.Places.{with_pass}
use Rattle.tree_runs.specs.declared.runs.Merges.{Merges}
use Rattle.tree_runs.specs.Runs.{RunsState, AreRuns, DeepRuns, guide_at, made_by_pass}
use Rattle.tree_runs.specs.Holding.{AreFinished, AreTagged, IsDeepOver, IsGuidedBy, progress_of, with_pass_run, is_full}
use Rattle.tree_runs.proofs.FinishedLemmas.{finished_still}
use Rattle.tree_runs.proofs.ReleasedTags.{Released, has_still}
use Rattle.tree_runs.proofs.InstallLemmas.{runs_for_pass}
use Rattle.tree_runs.proofs.CatalogLemmas.{parts_of_pass}
use Rattle.tree_runs.proofs.KeptMerges.{keeps_one, pages_one, deep_runs_still, deep_over_still}
use Rattle.tree_runs.proofs.runs.Runs.install_pass.Goals as goal
use Rattle.tree_runs.proofs.runs.Runs.install_pass.Goals.{After-release}

gone : (c : After-release) → Released c.self.inside.c1 c.self.inside.space c.release.new.self
gone c = let e = c.release.ensures in record { this = e.this; others = e.others; pins = e.pins; pages = e.pages; shape = e.shape; freed = e.freed; size = e.size }

pub returns-clause-runs : goal.returns-clause-runs
returns-clause-runs c =
    let was = subst (λ (s : RunsState). AreRuns s × (c.args.next ≡ with_pass_run s.sizes (made_by_pass s.pass) (progress_of s.catalogue s.deep) s.catalogue) × (is_full s.sizes (made_by_pass s.pass) ≡ false)) (sym c.self.view_is) (c.requires.runs, c.requires.next, c.requires.light) in
    let parts = parts_of_pass c.self.inside.geometry (made_by_pass c.self.inside.merges.value.pass) (progress_of c.self.inside.catalogue c.self.inside.merges.value.deep) c.self.inside.catalogue false was.1 was.2 in
    rw c.deref_mut-merges.ensures.value (runs_for_pass _ c.args.next c.release.new.self was.0 parts (gone (goal.at.returns-clause-runs c).After-release))

pub returns-clause-goes_on : goal.returns-clause-goes_on
returns-clause-goes_on c = λ honest file runs.
    let inside = c.self.inside in
    let was = subst (λ (s : RunsState). AreRuns s × DeepRuns s.sizes honest file s.space (guide_at s.guides s.tags.deep) s.deep) (sym c.self.view_is) (c.requires.runs, runs) in
    let still = deep_runs_still inside.deep (guide_at inside.guides.items inside.deep) inside.merges.value.deep
    (keeps_one {sizes = inside.geometry} {honest = honest} file inside.deep (gone (goal.at.returns-clause-goes_on c).After-release) (λ i. was.0.tags.c1_deep (sym i))) was.0.deep_tag was.1 in
    subst (λ (s : RunsState). DeepRuns s.sizes honest file c.release.new.self (guide_at inside.guides.items inside.deep) c.deref_mut-merges.result.now.deep) c.self.view_is
    (subst (λ (m : Merges). DeepRuns inside.geometry honest file c.release.new.self (guide_at inside.guides.items inside.deep) m.deep) (sym c.deref_mut-merges.ensures.value) still)

pub returns-clause-lists : goal.returns-clause-lists
returns-clause-lists c = λ tree run output file holds c1x c2 made guided_run guided_c1x guided_c2 over finished.
    let inside = c.self.inside in
    let was = subst (λ (s : RunsState). AreRuns s × HoldsTree s.sizes (with_pass c.args.next run tree.c1x tree.c2 output tree) file × AreTagged s.space s.tags.pass run × AreTagged s.space s.tags.c1x tree.c1x × AreTagged s.space s.tags.c2 tree.c2
    × IsGuidedBy (guide_at s.guides s.tags.pass) run × IsGuidedBy (guide_at s.guides s.tags.c1x) tree.c1x × IsGuidedBy (guide_at s.guides s.tags.c2) tree.c2
    × IsDeepOver s.sizes file s.space (guide_at s.guides s.tags.deep) s.deep tree.c1x tree.c2 × AreFinished s.space s.deep output)
    (sym c.self.view_is) (c.requires.runs, holds, made, c1x, c2, guided_run, guided_c1x, guided_c2, over, finished) in
    let tags = was.0.tags in
    let gone = gone (goal.at.returns-clause-lists c).After-release in
    let still = deep_over_still (guide_at inside.guides.items inside.deep) inside.merges.value.deep tree.c1x tree.c2
    (keeps_one {sizes = inside.geometry} {honest = true} file inside.deep gone (λ i. tags.c1_deep (sym i)))
    (pages_one inside.c1x gone (λ i. tags.c1_c1x (sym i))) (pages_one inside.c2 gone (λ i. tags.c1_c2 (sym i))) was.0.deep_tag was.3 was.4 was.8 in
    record {
      holds = was.1;
      catalogue = refl;
      c1 = λ n has. has_still gone inside.pass n (λ i. tags.c1_pass (sym i)) (was.2 n has);
      c1x = λ n has. has_still gone inside.c1x n (λ i. tags.c1_c1x (sym i)) (was.3 n has);
      c2 = λ n has. has_still gone inside.c2 n (λ i. tags.c1_c2 (sym i)) (was.4 n has);
      pass = tt;
      deep = subst (λ (m : Merges). IsDeepOver inside.geometry file c.release.new.self (guide_at inside.guides.items inside.deep) m.deep tree.c1x tree.c2) (sym c.deref_mut-merges.ensures.value) still;
      guided = record { c1 = was.5; c1x = was.6; c2 = was.7 };
      output = subst (λ (m : Merges). AreFinished c.release.new.self m.deep output) (sym c.deref_mut-merges.ensures.value)
          (finished_still inside.space c.release.new.self inside.deep inside.merges.value.deep output was.0.deep_tag (λ n. has_still gone inside.deep n (λ i. tags.c1_deep (sym i))) was.9);
    }
