use Rattle.std.proofs.Common.{◌≡◌, true, [], Some, None, sym, subst, refl, arith}
use Rattle.tree_file.specs.Tree.{HoldsTree}
use Rattle.tree_file.specs.Places.{with_pass}
use Rattle.tree_runs.specs.Runs.{RunsState, AreRuns, DeepRuns, guide_at, made_by_pass}
use Rattle.tree_runs.specs.Holding.{AreTagged, IsGuidedBy, progress_of, with_pass_run, is_full}
use Rattle.tree_runs.proofs.FinishedLemmas.{nothing_finished}
use Rattle.tree_runs.proofs.GuideLemmas.{guided_still, guides_emptied}
use Rattle.tree_runs.proofs.ReleasedTags.{Released, has_still}
use Rattle.tree_runs.proofs.InstallLemmas.{one_tag_still, runs_for_rotated_pass}
use Rattle.tree_runs.proofs.CatalogLemmas.{parts_of_pass}
use Rattle.tree_runs.proofs.KeptMerges.{elsewhere}
use Rattle.tree_runs.proofs.runs.Runs.install_rotated_pass.Goals as goal
use Rattle.tree_runs.proofs.runs.Runs.install_rotated_pass.Goals.{After-release}

gone : (c : After-release) → Released c.self.inside.c1 c.self.inside.space c.release.new.self
gone c = let e = c.release.ensures in record { this = e.this; others = e.others; pins = e.pins; pages = e.pages; shape = e.shape; freed = e.freed; size = e.size }

pub returns-clause-runs : goal.returns-clause-runs
returns-clause-runs c =
    let was = subst (λ (s : RunsState). AreRuns s × (c.args.next ≡ with_pass_run s.sizes (made_by_pass s.pass) (progress_of s.catalogue s.deep) s.catalogue) × (is_full s.sizes (made_by_pass s.pass) ≡ true) × (s.deep ≡ None)) (sym c.self.view_is)
    (c.requires.runs, c.requires.next, c.requires.heavy, c.requires.rests) in
    let parts = parts_of_pass c.self.inside.geometry (made_by_pass c.self.inside.merges.value.pass) (progress_of c.self.inside.catalogue c.self.inside.merges.value.deep) c.self.inside.catalogue true was.1 was.2 in
    let reserved = guides_emptied c.self.inside.deep _ c.begin_deep.ensures.guides was.0.tags.deep_below was.0.guides in
    rw c.begin_deep.ensures.started (runs_for_rotated_pass _ c.args.next c.release.new.self c.begin_deep.new.guides.items was.0 parts was.3 (gone (goal.at.returns-clause-runs c).After-release) reserved)

pub returns-clause-lists : goal.returns-clause-lists
returns-clause-lists c = λ tree run file holds c2 made guided_c2 guided_run.
    let inside = c.self.inside in
    let after = c.release.new.self in
    let was = subst (λ (s : RunsState). AreRuns s × HoldsTree s.sizes (with_pass c.args.next [] run tree.c2 [] tree) file × AreTagged s.space s.tags.pass run × AreTagged s.space s.tags.c2 tree.c2
    × IsGuidedBy (guide_at s.guides s.tags.pass) run × IsGuidedBy (guide_at s.guides s.tags.c2) tree.c2)
    (sym c.self.view_is) (c.requires.runs, holds, made, c2, guided_run, guided_c2) in
    let tags = was.0.tags in
    let gone = gone (goal.at.returns-clause-lists c).After-release in
    let c1x_now : AreTagged after inside.pass run = λ n has. has_still gone inside.pass n (λ i. tags.c1_pass (sym i)) (was.2 n has) in
    let c2_now : AreTagged after inside.c2 tree.c2 = λ n has. has_still gone inside.c2 n (λ i. tags.c1_c2 (sym i)) (was.3 n has) in
    let once = one_tag_still gone was.0.one_tag in
    record {
      holds = was.1;
      catalogue = refl;
      c1 = λ n has. absurd (omega (arith, has.1));
      c1x = c1x_now;
      c2 = c2_now;
      pass = tt;
      deep = c.begin_deep.ensures.merge inside.geometry file after run tree.c2 was.1.c1x (elsewhere after inside.pass inside.deep run once tags.pass_deep c1x_now)
          was.1.c2 (elsewhere after inside.c2 inside.deep tree.c2 once tags.c2_deep c2_now);
      guided = record {
        c1 = λ some. absurd (some refl);
        c1x = guided_still inside.guides.items c.begin_deep.new.guides.items inside.pass run c.begin_deep.ensures.others tags.pass_deep was.4;
        c2 = guided_still inside.guides.items c.begin_deep.new.guides.items inside.c2 tree.c2 c.begin_deep.ensures.others tags.c2_deep was.5;
      };
      output = nothing_finished c.release.new.self (Some c.begin_deep.result);
    }

pub returns-clause-goes_on : goal.returns-clause-goes_on
returns-clause-goes_on c = λ honest file.
    subst (λ (s : RunsState). DeepRuns s.sizes honest file c.release.new.self (guide_at c.begin_deep.new.guides.items c.self.inside.deep) (Some c.begin_deep.result)) c.self.view_is
    (c.begin_deep.ensures.running c.self.inside.geometry honest file c.release.new.self)
