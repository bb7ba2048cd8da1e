use Rattle.std.proofs.Common.{◌≡◌, true, [], sym, subst, refl, arith}
use Rattle.record_delta.specs.Entries.{replayed}
use Rattle.tree_file.specs.Tree.{HoldsTree}
use Rattle.tree_file.specs.Places.{with_components}
use Rattle.tree_runs.specs.declared.runs.Merges.{Merges}
use Rattle.tree_runs.specs.Runs.{RunsState, AreRuns, PassRuns, guide_at, made_by_deep}
use Rattle.tree_runs.specs.Holding.{AreTagged, IsGuidedBy, IsPassOver, with_deep_run}
use Rattle.tree_runs.proofs.ReleasedTags.{Released, has_still}
use Rattle.tree_runs.proofs.InstallLemmas.{runs_for_deep}
use Rattle.tree_runs.proofs.CatalogLemmas.{parts_of}
use Rattle.tree_runs.proofs.KeptMerges.{keeps_two, pages_two, pass_runs_still, pass_over_still}
use Rattle.tree_runs.proofs.runs.Runs.install_deep.Goals as goal
use Rattle.tree_runs.proofs.runs.Runs.install_deep.Goals.{After-release, After-release-2}

gone : (c : After-release) → Released c.self.inside.c1x c.self.inside.space c.release.new.self
gone c = let e = c.release.ensures in record { this = e.this; others = e.others; pins = e.pins; pages = e.pages; shape = e.shape; freed = e.freed; size = e.size }

gone_too : (c : After-release-2) → Released c.self.inside.c2 c.release.new.self c.release-2.new.self
gone_too c = let e = c.release-2.ensures in record { this = e.this; others = e.others; pins = e.pins; pages = e.pages; shape = e.shape; freed = e.freed; size = e.size }

pub returns-clause-runs : goal.returns-clause-runs
returns-clause-runs c =
    let at = goal.at.returns-clause-runs c in
    let was = subst (λ (s : RunsState). AreRuns s × (c.args.next ≡ with_deep_run (made_by_deep s.deep) s.catalogue)) (sym c.self.view_is) (c.requires.runs, c.requires.next) in
    rw c.deref_mut-merges.ensures.value (runs_for_deep _ c.args.next c.release.new.self c.release-2.new.self was.0 (parts_of was.1) (gone at.After-release) (gone_too at.After-release-2))

pub returns-clause-goes_on : goal.returns-clause-goes_on
returns-clause-goes_on c = λ honest file runs.
    let inside = c.self.inside in
    let at = goal.at.returns-clause-goes_on c in
    let was = subst (λ (s : RunsState). AreRuns s × PassRuns s.sizes honest file s.space (guide_at s.guides s.tags.pass) s.pass) (sym c.self.view_is) (c.requires.runs, runs) in
    let still = pass_runs_still inside.pass (guide_at inside.guides.items inside.pass) inside.merges.value.pass
    (keeps_two {sizes = inside.geometry} {honest = honest} file inside.pass (gone at.After-release) (gone_too at.After-release-2) (λ i. was.0.tags.c1x_pass (sym i)) (λ i. was.0.tags.c2_pass (sym i))) was.0.pass_tag was.1 in
    subst (λ (s : RunsState). PassRuns s.sizes honest file c.release-2.new.self (guide_at inside.guides.items inside.pass) c.deref_mut-merges.result.now.pass) c.self.view_is
    (subst (λ (m : Merges). PassRuns inside.geometry honest file c.release-2.new.self (guide_at inside.guides.items inside.pass) m.pass) (sym c.deref_mut-merges.ensures.value) still)

pub returns-clause-lists : goal.returns-clause-lists
returns-clause-lists c = λ tree run file holds c1 made guided guided_run over.
    let inside = c.self.inside in
    let at = goal.at.returns-clause-lists c in
    let first = gone at.After-release in
    let second = gone_too at.After-release-2 in
    let was = subst (λ (s : RunsState). AreRuns s × HoldsTree s.sizes (with_components c.args.next tree.c1 [] run tree) file × AreTagged s.space s.tags.c1 tree.c1 × AreTagged s.space s.tags.deep run
    × IsGuidedBy (guide_at s.guides s.tags.c1) tree.c1 × IsGuidedBy (guide_at s.guides s.tags.deep) run
    × IsPassOver s.sizes file s.space (guide_at s.guides s.tags.pass) s.pass (replayed tree.lane_a.entries) tree.c1)
    (sym c.self.view_is) (c.requires.runs, holds, c1, made, guided, guided_run, over) in
    let tags = was.0.tags in
    let still = pass_over_still (guide_at inside.guides.items inside.pass) inside.merges.value.pass (replayed tree.lane_a.entries) tree.c1
    (keeps_two {sizes = inside.geometry} {honest = true} file inside.pass first second (λ i. tags.c1x_pass (sym i)) (λ i. tags.c2_pass (sym i)))
    (pages_two inside.c1 first second tags.c1_c1x tags.c1_c2) was.0.pass_tag was.2 was.6 in
    record {
      holds = was.1;
      catalogue = refl;
      c1 = λ n has. has_still second inside.c1 n tags.c1_c2 (has_still first inside.c1 n tags.c1_c1x (was.2 n has));
      c1x = λ n has. absurd (omega (arith, has.1));
      c2 = λ n has. has_still second inside.deep n (λ i. tags.c2_deep (sym i)) (has_still first inside.deep n (λ i. tags.c1x_deep (sym i)) (was.3 n has));
      pass = subst (λ (m : Merges). IsPassOver inside.geometry file c.release-2.new.self (guide_at inside.guides.items inside.pass) m.pass
          (replayed tree.lane_a.entries) tree.c1) (sym c.deref_mut-merges.ensures.value) still;
      deep = refl;
      guided = record { c1 = was.4; c1x = λ some. absurd (some refl); c2 = was.5 };
      output = refl;
    }
