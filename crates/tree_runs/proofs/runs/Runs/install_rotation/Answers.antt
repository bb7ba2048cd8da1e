use Rattle.std.proofs.Common.{◌≡◌, [], Some, None, sym, subst, refl, arith}
use Rattle.record_delta.specs.Entries.{replayed}
use Rattle.tree_file.specs.Tree.{HoldsTree}
use Rattle.tree_file.specs.Places.{with_components}
use Rattle.tree_runs.specs.declared.runs.Merges.{Merges}
use Rattle.tree_runs.specs.Runs.{RunsState, AreRuns, DeepRuns, guide_at}
use Rattle.tree_runs.specs.Holding.{AreTagged, IsGuidedBy, IsPassOver, with_rotation}
use Rattle.tree_runs.proofs.FinishedLemmas.{nothing_finished}
use Rattle.tree_runs.proofs.GuideLemmas.{guided_still, guides_emptied}
use Rattle.tree_runs.proofs.InstallLemmas.{runs_for_rotation}
use Rattle.tree_runs.proofs.CatalogLemmas.{parts_of}
use Rattle.tree_runs.proofs.KeptMerges.{elsewhere}
use Rattle.tree_runs.proofs.runs.Runs.install_rotation.Goals as goal

pub returns-clause-lists : goal.returns-clause-lists
returns-clause-lists c = λ tree file holds c1 c2 guided_c1 guided_c2.
    let inside = c.self.inside in
    let was = subst (λ (s : RunsState). AreRuns s × HoldsTree s.sizes (with_components c.args.next [] tree.c1 tree.c2 tree) file × AreTagged s.space s.tags.c1 tree.c1 × AreTagged s.space s.tags.c2 tree.c2
    × IsGuidedBy (guide_at s.guides s.tags.c1) tree.c1 × IsGuidedBy (guide_at s.guides s.tags.c2) tree.c2 × (s.pass ≡ None))
    (sym c.self.view_is) (c.requires.runs, holds, c1, c2, guided_c1, guided_c2, c.requires.rests.0) in
    let are = was.0 in
    record {
      holds = was.1;
      catalogue = refl;
      c1 = λ n has. absurd (omega (arith, has.1));
      c1x = was.2;
      c2 = was.3;
      pass = subst (λ (m : Merges). IsPassOver inside.geometry file inside.space (guide_at c.begin_deep.new.guides.items inside.pass) m.pass
          (replayed tree.lane_a.entries) []) (sym c.deref_mut-merges.ensures.value)
          (subst (λ (snow : _). IsPassOver inside.geometry file inside.space (guide_at c.begin_deep.new.guides.items inside.pass) snow
          (replayed tree.lane_a.entries) []) (sym was.6) tt);
      deep = c.begin_deep.ensures.merge inside.geometry file inside.space tree.c1 tree.c2 was.1.c1x (elsewhere inside.space inside.c1 inside.deep tree.c1 are.one_tag are.tags.c1_deep was.2)
          was.1.c2 (elsewhere inside.space inside.c2 inside.deep tree.c2 are.one_tag are.tags.c2_deep was.3);
      guided = record {
        c1 = λ some. absurd (some refl);
        c1x = guided_still inside.guides.items c.begin_deep.new.guides.items inside.c1 tree.c1 c.begin_deep.ensures.others are.tags.c1_deep was.4;
        c2 = guided_still inside.guides.items c.begin_deep.new.guides.items inside.c2 tree.c2 c.begin_deep.ensures.others are.tags.c2_deep was.5;
      };
      output = nothing_finished inside.space (Some c.begin_deep.result);
    }

pub returns-clause-goes_on : goal.returns-clause-goes_on
returns-clause-goes_on c = λ honest file.
    subst (λ (s : RunsState). DeepRuns s.sizes honest file c.self.inside.space (guide_at c.begin_deep.new.guides.items c.self.inside.deep) (Some c.begin_deep.result)) c.self.view_is
    (c.begin_deep.ensures.running c.self.inside.geometry honest file c.self.inside.space)

pub returns-clause-runs : goal.returns-clause-runs
returns-clause-runs c =
    let was = subst (λ (s : RunsState). AreRuns s × (c.args.next ≡ with_rotation s.catalogue) × (s.deep ≡ None)) (sym c.self.view_is) (c.requires.runs, c.requires.next, c.requires.rests.1) in
    let reserved = guides_emptied c.self.inside.deep _ c.begin_deep.ensures.guides was.0.tags.deep_below was.0.guides in
    rw (c.begin_deep.ensures.started, c.deref_mut-merges.ensures.value) (runs_for_rotation _ c.args.next c.begin_deep.new.guides.items was.0 (parts_of was.1) was.2 reserved)
