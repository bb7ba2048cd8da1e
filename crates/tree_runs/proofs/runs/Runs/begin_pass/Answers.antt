use Rattle.std.proofs.Common.{arith}
use Rattle.std.proofs.lemmas.Bool.Decides.{nat_tests}
use Rattle.std.proofs.lemmas.Grind.{common_steps}
use Rattle.std.proofs.Common.{rules, ◌∙◌, ◌≡◌, ℕ, Some, None, ap, sym, subst}
use Rattle.std.specs.Prelude.{List}
use Rattle.blsm_model.specs.declared.component.Component.{Component}
use Rattle.catalog_swap.specs.declared.catalog.Catalog.{Catalog}
use Rattle.page_file.specs.Component.{ReadsAs}
use Rattle.snow_merge.specs.Pass.{SnowState, started}
use Rattle.tree_runs.specs.Runs.{GuideState, RunsState, AreGuides, AreRuns, AreRunning, DeepRuns, IsReserved, PassRuns, guide_at, run_most}
use Rattle.record_delta.specs.Entries.{replayed}
use Rattle.tree_file.proofs.ListLemmas.{sorted_replayed}
use Rattle.tree_runs.specs.Holding.{AreOf, IsDeepOver, IsPassOver, KeepsOtherGuides}
use Rattle.tree_runs.proofs.GuideLemmas.{all_guided_still, guides_emptied}
use Rattle.tree_runs.proofs.KeptMerges.{elsewhere}
use Rattle.tree_runs.proofs.PinLemmas.{pins_begun}
use Rattle.tree_runs.proofs.runs.Runs.begin_pass.Goals as goal

abbrev begun_with : RunsState → SnowState → List GuideState → RunsState
begun_with runs snow guides = record runs { pass = Some snow; guides = guides }

runs_begun : (runs : RunsState) (guides : List GuideState) → runs.pass ≡ None → AreRuns runs → AreGuides runs.sizes runs.tags guides → AreRuns (begun_with runs (started runs.tags.pass runs.catalogue.c1) guides)
runs_begun runs guides rests are reserved = grind (arith, common_steps, nat_tests, pins_begun)

pub begin_snow-requires-clause-room : goal.begin_snow-requires-clause-room
begin_snow-requires-clause-room c = subst (λ (s : RunsState). IsReserved (run_most s.sizes) (guide_at s.guides s.tags.pass))
    (sym c.self.view_is) c.requires.runs.guides.pass

pub returns-clause-begun : goal.returns-clause-begun
returns-clause-begun c = search rules

pub returns-clause-running : goal.returns-clause-running
returns-clause-running c = λ honest file running.
    let runs = c.args.self.now in
    let are = c.requires.runs in
    let inside = c.self.inside in
    let guides = c.begin_snow.new.guides.items in
    let starts : c.begin_snow.result ≡ started runs.tags.pass runs.catalogue.c1 = search rules in
    let tagged : inside.pass ≡ runs.tags.pass = search rules in
    let had : inside.guides.items ≡ runs.guides = search rules in
    let same = ap (λ (r : RunsState). r.guides) (returns-clause-begun c) in
    let others = subst (λ (t : ℕ). KeepsOtherGuides t runs.guides guides) tagged (subst (λ (gs : List GuideState). KeepsOtherGuides inside.pass gs guides) had c.begin_snow.ensures.others) in
    let reserved = guides_emptied runs.tags.pass _ same are.tags.pass_below are.guides in
    subst (λ (r : RunsState). AreRunning honest file r) (sym (returns-clause-begun c))
    (subst (λ (gs : List GuideState). AreRunning honest file (begun_with runs (started runs.tags.pass runs.catalogue.c1) gs)) same
    (record {
      in_order = runs_begun runs guides c.requires.rests are reserved;
      pass = subst (λ (s : SnowState). PassRuns runs.sizes honest file runs.space (guide_at guides runs.tags.pass) (Some s)) starts
          (subst (λ (t : ℕ). PassRuns runs.sizes honest file runs.space (guide_at guides t) (Some c.begin_snow.result)) tagged (c.begin_snow.ensures.running runs.sizes honest file runs.space));
      deep = subst (λ (g : GuideState). DeepRuns runs.sizes honest file runs.space g runs.deep) (sym (others runs.tags.deep (λ is. are.tags.pass_deep (sym is)))) running.deep;
    }))

pub returns-clause-lists : goal.returns-clause-lists
returns-clause-lists c = λ tree file is.
    let runs = c.args.self.now in
    let list = replayed tree.lane_a.entries in
    let are = c.requires.runs in
    let inside = c.self.inside in
    let guides = c.begin_snow.new.guides.items in
    let starts : c.begin_snow.result ≡ started runs.tags.pass runs.catalogue.c1 = search rules in
    let tagged : inside.pass ≡ runs.tags.pass = search rules in
    let had : inside.guides.items ≡ runs.guides = search rules in
    let same = ap (λ (r : RunsState). r.guides) (returns-clause-begun c) in
    let others = subst (λ (t : ℕ). KeepsOtherGuides t runs.guides guides) tagged (subst (λ (gs : List GuideState). KeepsOtherGuides inside.pass gs guides) had c.begin_snow.ensures.others) in
    let now : runs.catalogue.c1 ≡ inside.catalogue.c1 = search rules in
    let c1 : tree.catalogue.c1 ≡ inside.catalogue.c1 = ap (λ (k : Catalog). k.c1) is.catalogue ∙ now in
    subst (λ (r : RunsState). AreOf r tree file) (sym (returns-clause-begun c))
    (subst (λ (gs : List GuideState). AreOf (begun_with runs (started runs.tags.pass runs.catalogue.c1) gs) tree file) same
    (record {
      holds = is.holds;
      catalogue = is.catalogue;
      c1 = is.c1;
      c1x = is.c1x;
      c2 = is.c2;
      pass = subst (λ (s : SnowState). IsPassOver runs.sizes file runs.space (guide_at guides runs.tags.pass) (Some s) list tree.c1) starts
          (subst (λ (t : ℕ). IsPassOver runs.sizes file runs.space (guide_at guides t) (Some c.begin_snow.result) list tree.c1) tagged
          (c.begin_snow.ensures.pass runs.sizes file runs.space list tree.c1 (sorted_replayed tree.lane_a.entries)
          (subst (λ (k : Component). ReadsAs runs.sizes k tree.c1 file) c1 is.holds.c1)
          (elsewhere runs.space runs.tags.c1 inside.pass tree.c1 are.one_tag (λ same. are.tags.c1_pass (same ∙ tagged)) is.c1)));
      deep = subst (λ (g : GuideState). IsDeepOver runs.sizes file runs.space g runs.deep tree.c1x tree.c2) (sym (others runs.tags.deep (λ is. are.tags.pass_deep (sym is)))) is.deep;
      guided = all_guided_still runs.guides guides runs.tags tree others are.tags.c1_pass are.tags.c1x_pass are.tags.c2_pass is.guided;
      output = is.output;
    }))
