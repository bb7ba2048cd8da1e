-- What the components and the runs keep where no byte of their pages changes.
use Rattle.std.specs.Prelude.{◌≡◌, ℕ, Bool, true, IsTrue, List, [], ◌∷◌, Option, Some, None}
use Rattle.std.proofs.lemmas.Grind.{common_steps}
use Rattle.std.proofs.lemmas.Bool.Decides.{nat_tests}
use Rattle.std.proofs.Common.{◌∙◌, sym, subst, ap, refl, arith}
use Rattle.disk_trait.specs.Region.{outside}
use Rattle.record_delta.specs.Entries.{AreSorted, Entries, entries_weight, replayed, up_to, with_record}
use Rattle.record_delta.specs.Several.{with_records}
use Rattle.blsm_model.specs.Sizes.{Sizes}
use Rattle.blsm_model.specs.declared.key.Key.{Key}
use Rattle.page_space.specs.Space.{SpaceState}
use Rattle.page_file.specs.Component.{RunPage, entries_of}
use Rattle.merge_ends.proofs.MergeLemmas.{grown_merge}
use Rattle.page_file.proofs.PageLemmas.{before_apart}
use Rattle.merge_step.proofs.MergedLemmas.{ahead as grown_ahead}
use Rattle.snow_merge.specs.Pass.{SnowState, merge_of}
use Rattle.deep_merge.specs.Merge.{DeepState}
use Rattle.tree_machine.proofs.QuantumLemmas.{weight_parts}
use Rattle.tree_file.specs.Tree.{Tree, HoldsTree}
use Rattle.tree_file.specs.Places.{appended_a, appended_b}
use Rattle.tree_file.proofs.ListLemmas.{lists_appended_a, sorted_replayed}
use Rattle.tree_machine.specs.Lists.{Lists}
use Rattle.tree_runs.specs.Runs.{GuideState, RunsState, guide_at, PassHasTag, DeepHasTag}
use Rattle.tree_runs.specs.Holding.{AreFinished, AreOf, AreTagged, IsGuidedBy, IsPassOver, IsDeepOver, cursor_of_pass}
use Rattle.tree_runs.specs.Laws.{AreAhead, used_region, IsBesideRuns, HeadIsBeside, RunsStay, ListsStay, EntriesJoin, EntriesWait, LeftGrows}
use Rattle.tree_runs.proofs.KeptMerges.{KeepsRun, KeepsPages, pass_runs_still, deep_runs_still, pass_over_still, deep_over_still}

pub head_is_beside : HeadIsBeside
head_is_beside sizes space at n ends i inside used = before_apart sizes used.1.0 at n ends i used.1.2 inside

-- ---- the merges

keeps_used : (runs : RunsState) (honest : Bool) (old new : List ℕ) (tag : ℕ) → (IsTrue honest → IsBesideRuns runs old new)
    → KeepsRun runs.sizes honest (outside (used_region runs.sizes runs.space)) old new runs.space runs.space tag
keeps_used runs honest old new tag same = record { no_more = λ n has. has; tagged = λ n has. has; same = same; apart = λ i out there. out (tag, there) }

pages_used : (runs : RunsState) (tag : ℕ) → KeepsPages runs.sizes runs.space runs.space (outside (used_region runs.sizes runs.space)) tag
pages_used runs tag = record { tagged = λ n has. has; apart = λ i out there. out (tag, there) }

pub runs_stay : RunsStay
runs_stay runs honest old new same running = record {
  in_order = running.in_order;
  pass = pass_runs_still runs.tags.pass (guide_at runs.guides runs.tags.pass) runs.pass (keeps_used runs honest old new runs.tags.pass same) running.in_order.pass_tag running.pass;
  deep = deep_runs_still runs.tags.deep (guide_at runs.guides runs.tags.deep) runs.deep (keeps_used runs honest old new runs.tags.deep same) running.in_order.deep_tag running.deep;
}

-- which tag a running merge's pages have
abbrev pub tag_of_pass : Option SnowState → ℕ
tag_of_pass None = 0
tag_of_pass (Some snow) = snow.writer.role

pub pass_has_it : (snow : Option SnowState) → PassHasTag (tag_of_pass snow) snow
pass_has_it snow = grind (arith, common_steps, nat_tests)

abbrev pub tag_of_deep : Option DeepState → ℕ
tag_of_deep None = 0
tag_of_deep (Some merge) = merge.writer.role

pub deep_has_it : (merge : Option DeepState) → DeepHasTag (tag_of_deep merge) merge
deep_has_it merge = grind (arith, common_steps, nat_tests)

-- a pass over a table that grew ahead of its cursor
grown_over : (sizes : Sizes) (file : List ℕ) (space : SpaceState) (guide : GuideState) (snow : Option SnowState) (a grown : Entries)
    (c1 : List RunPage) → AreSorted grown → up_to (cursor_of_pass snow) grown ≡ up_to (cursor_of_pass snow) a
    → IsPassOver sizes file space guide snow a c1 → IsPassOver sizes file space guide snow grown c1
grown_over sizes file space guide None a grown c1 sorted same over = tt
grown_over sizes file space guide (Some snow) a grown c1 sorted same over =
    grown_merge (merge_of snow) a a (entries_of c1) grown sorted same over

-- over the tree's lists, where the file holds a tree of the same components whose table A grew ahead
over_tree : (runs : RunsState) (tree next : Tree) (old new : List ℕ) → IsBesideRuns runs old new
    → up_to (cursor_of_pass runs.pass) (replayed next.lane_a.entries) ≡ up_to (cursor_of_pass runs.pass) (replayed tree.lane_a.entries) → AreOf runs tree old
    → HoldsTree runs.sizes next new
    → next.catalogue ≡ tree.catalogue → next.c1 ≡ tree.c1 → next.c1x ≡ tree.c1x → next.c2 ≡ tree.c2 → next.output ≡ tree.output → AreOf runs next new
over_tree runs tree next old new same behind is holds catalogue c1 c1x c2 output = record {
  holds = holds;
  catalogue = catalogue ∙ is.catalogue;
  c1 = subst (λ (ps : List RunPage). AreTagged runs.space runs.tags.c1 ps) (sym c1) is.c1;
  c1x = subst (λ (ps : List RunPage). AreTagged runs.space runs.tags.c1x ps) (sym c1x) is.c1x;
  c2 = subst (λ (ps : List RunPage). AreTagged runs.space runs.tags.c2 ps) (sym c2) is.c2;
  pass = subst (λ (ps : List RunPage). IsPassOver runs.sizes new runs.space (guide_at runs.guides runs.tags.pass) runs.pass
      (replayed next.lane_a.entries) ps) (sym c1)
      (grown_over runs.sizes new runs.space (guide_at runs.guides runs.tags.pass) runs.pass (replayed tree.lane_a.entries) (replayed next.lane_a.entries) tree.c1
      (sorted_replayed next.lane_a.entries) behind
      (pass_over_still (guide_at runs.guides runs.tags.pass) runs.pass (replayed tree.lane_a.entries) tree.c1
      (keeps_used runs true old new (tag_of_pass runs.pass) (λ told. same)) (pages_used runs runs.tags.c1)
      (pass_has_it runs.pass) is.c1 is.pass));
  deep = subst (λ (ps : List RunPage). IsDeepOver runs.sizes new runs.space (guide_at runs.guides runs.tags.deep) runs.deep ps next.c2) (sym c1x)
      (subst (λ (ps : List RunPage). IsDeepOver runs.sizes new runs.space (guide_at runs.guides runs.tags.deep) runs.deep tree.c1x ps) (sym c2)
      (deep_over_still (guide_at runs.guides runs.tags.deep) runs.deep tree.c1x tree.c2 (keeps_used runs true old new (tag_of_deep runs.deep) (λ told. same)) (pages_used runs runs.tags.c1x) (pages_used runs runs.tags.c2) (deep_has_it runs.deep) is.c1x is.c2 is.deep));
  guided = record {
    c1 = subst (λ (ps : List RunPage). IsGuidedBy (guide_at runs.guides runs.tags.c1) ps) (sym c1) is.guided.c1;
    c1x = subst (λ (ps : List RunPage). IsGuidedBy (guide_at runs.guides runs.tags.c1x) ps) (sym c1x) is.guided.c1x;
    c2 = subst (λ (ps : List RunPage). IsGuidedBy (guide_at runs.guides runs.tags.c2) ps) (sym c2) is.guided.c2;
  };
  output = subst (λ (ps : List RunPage). AreFinished runs.space runs.deep ps) (sym output) is.output;
}

pub lists_stay : ListsStay
lists_stay runs tree old new same is holds =
    over_tree runs tree tree old new same refl is holds refl refl refl refl refl

-- what is behind the cursor stays
pub all_grown_ahead : (cursor : Option Key) (more a : Entries) → AreAhead cursor more → up_to cursor (with_records more a) ≡ up_to cursor a
all_grown_ahead cursor [] a are_ahead = refl
all_grown_ahead cursor (e ∷ more) a are_ahead =
    all_grown_ahead cursor more (with_record e.0 e.1 a) are_ahead.1 ∙ grown_ahead cursor e.0 e.1 a are_ahead.0

pub entries_join : EntriesJoin
entries_join runs tree old new more same are_ahead is holds =
    over_tree runs tree (appended_a more tree) old new same
    (ap (λ (lists : Lists). up_to (cursor_of_pass runs.pass) lists.a) (lists_appended_a more tree)
    ∙ all_grown_ahead (cursor_of_pass runs.pass) more (replayed tree.lane_a.entries) are_ahead) is holds refl refl refl refl refl

pub entries_wait : EntriesWait
entries_wait runs tree old new more same is holds =
    over_tree runs tree (appended_b more tree) old new same refl is holds refl refl refl refl refl

-- ---- numbers

pub left_grows : LeftGrows
left_grows snow a more are_ahead =
    omega (
      arith,
      weight_parts snow.at a,
      weight_parts snow.at (with_records more a),
      ap (λ (es : Entries). entries_weight es) (all_grown_ahead snow.at more a are_ahead),
    )
