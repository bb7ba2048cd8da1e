-- A quantum of a merge: what the components, the other merge and the tree keep, and what the one that took it has.
use Rattle.std.specs.Int.{from_bool}
use Rattle.std.specs.Prelude.{◌≡◌, ◌≢◌, ℕ, ◌+◌, ◌-◌, ◌*◌, ◌/◌, ◌^◌, ◌<◌, ◌≤◌, Bool, IsTrue, List, Option, Some, Result, Ok, Err, OnOk, is_ok, min}
use Rattle.std.proofs.lemmas.Grind.{common_steps}
use Rattle.std.proofs.lemmas.Bool.Decides.{nat_tests}
use Rattle.std.proofs.Common.{◌∙◌, ap, sym, subst, arith}
use Rattle.disk_trait.specs.Disk.{DiskState}
use Rattle.disk_trait.specs.Effects.{Affects}
use Rattle.disk_trait.specs.Region.{Region, AreApart, IsWithin}
use Rattle.disk_trait.specs.Moments.{IsTimed, LeavesOnly}
use Rattle.std.specs.Int.{div_ceil}
use Rattle.blsm_model.specs.Format.{least_full}
use Rattle.blsm_model.specs.Sizes.{IsGeometry, Sizes}
use Rattle.blsm_model.specs.Geometry.{capacity, page_shares}
use Rattle.blsm_model.specs.declared.component.Component.{Component}
use Rattle.record_delta.specs.Entries.{Entries, above, replayed}
use Rattle.page_space.specs.Space.{SpaceState, IsSpace, role_size, role_count, seat_count}
use Rattle.page_file.specs.declared.file.Broken.{Broken}
use Rattle.page_file.specs.declared.file.Broken.TheVariants.{Fault}
use Rattle.page_file.specs.Component.{RunPage, numbers_of, entries_of}
use Rattle.page_file.specs.File.{pages_region}
use Rattle.run_writer.specs.Writer.{WriterState, role_region}
use Rattle.merge_ends.specs.Output.{HasRoom, TakesPages, most_pages}
use Rattle.merge_ends.proofs.ClosedLemmas.{keeps_closed}
use Rattle.merge_ends.proofs.WorkLemmas.{works_of}
use Rattle.run_writer.specs.Closed.{IsClosedPage}
use Rattle.merge_ends.specs.Quantum.{Grows, IsQuantum, Works}
use Rattle.merge_ends.specs.Progress.{MergesOn, TakesQuantum, stage}
use Rattle.snow_merge.specs.Pass.{SnowState, IsPass, progress_of_pass}
use Rattle.deep_merge.specs.Merge.{DeepState, IsMerge, progress_of_deep}
use Rattle.tree_file.specs.Tree.{Tree, HoldsTree}
use Rattle.tree_file.specs.Places.{StandsOn}
use Rattle.tree_file.proofs.StandLemmas.{stands_beside}
use Rattle.scan_view.proofs.StayLemmas.{unpinned_on}
use Rattle.tree_runs.specs.Runs.{GuideState, RunsState, Tags, AreGuides, AreRuns, AreRunning, Fits, HasOneTag, IsFilled, PassRuns, DeepRuns}
use Rattle.tree_runs.specs.Runs.{PassHasTag, PinsOfPass, DeepHasTag, guide_at, left_for_deep, left_for_pass, made_by_pass, made_by_deep, pages_in_use}
use Rattle.tree_runs.specs.Runs.{hold_share, run_most}
use Rattle.tree_runs.specs.Holding.{AreFinished, HasAllAhead, IsPassOver, IsDeepOver, StandOver, KeepsAllButPass, KeepsAllButDeep, PassTook, DeepTook}
use Rattle.tree_runs.proofs.CountLemmas.{within_more, other_size}
use Rattle.tree_runs.proofs.GuideLemmas.{WritesGuide, all_guided_still}
use Rattle.tree_runs.proofs.FinishedLemmas.{finished_grown, finished_other, finished_still}
use Rattle.tree_runs.proofs.PinLemmas.{pins_beside, pins_on}
use Rattle.tree_runs.proofs.KeptMerges.{deep_runs_still, pass_runs_still, deep_over_still, pass_over_still}
use Rattle.tree_runs.proofs.StayLemmas.{one_tag_after, tag_kept, keeps_other, pages_other, role_is_beside, not_live, run_filled}

-- ---- results

pub both_ok : {T E P Q R : Type 0} (result : Result T E) → OnOk result P → OnOk result Q → (P → Q → R) → OnOk result R
both_ok result h1 h2 h3 = grind (arith, common_steps, nat_tests)

-- ---- the tree

-- which tags a run's tag isn't
pub record IsRunTag (tags : Tags) (role : ℕ) : Type 0 where
  pub below : role < role_count
  pub c1 : tags.c1 ≡ role → ⊥
  pub c1x : tags.c1x ≡ role → ⊥
  pub c2 : tags.c2 ≡ role → ⊥

pub pass_is_run : (runs : RunsState) → AreRuns runs → IsRunTag runs.tags runs.tags.pass
pass_is_run runs are = record { below = are.tags.pass_below; c1 = are.tags.c1_pass; c1x = are.tags.c1x_pass; c2 = are.tags.c2_pass }

pub deep_is_run : (runs : RunsState) → AreRuns runs → IsRunTag runs.tags runs.tags.deep
deep_is_run runs are = record { below = are.tags.deep_below; c1 = are.tags.c1_deep; c1x = are.tags.c1x_deep; c2 = are.tags.c2_deep }

-- A run that takes pages and writes them, and no finished one, leaves the tree, in each image of each moment.
tree_stays : {region : Region} {end most : ℕ} (runs : RunsState) (tree : Tree) (role : ℕ) (after : SpaceState) (old new : DiskState) → AreRuns runs
    → IsRunTag runs.tags role
    → IsSpace after → TakesPages role runs.space after → Affects region end most old new → IsWithin region (role_region runs.sizes after role)
    → AreApart region (pages_region runs.sizes (numbers_of tree.output)) → IsTrue old.is_honest → IsTimed new → StandOver runs tree old
    → StandsOn runs.sizes tree new × LeavesOnly old new (HoldsTree runs.sizes tree)
tree_stays runs tree role after old new are tag shape takes effect within finished honest timed stand =
    stands_beside runs.sizes tree effect
    (role_is_beside runs.sizes tree after role old.bytes stand.stands.reads shape (takes.pages ∙ are.pages) tag.below
    (not_live runs.tags tree after role (one_tag_after takes are.one_tag) tag.c1 tag.c1x tag.c2
    (λ n has. tag_kept takes runs.tags.c1 tag.c1 n (stand.are_of.c1 n has))
    (λ n has. tag_kept takes runs.tags.c1x tag.c1x n (stand.are_of.c1x n has))
    (λ n has. tag_kept takes runs.tags.c2 tag.c2 n (stand.are_of.c2 n has)))
    within finished)
    honest timed stand.stands

-- the finished pages of a deep merge beside a pass that takes pages
finished_beside : (runs : RunsState) (after : SpaceState) (pages : List RunPage) → AreRuns runs → TakesPages runs.tags.pass runs.space after → AreFinished runs.space runs.deep pages
    → AreFinished after runs.deep pages
finished_beside runs after pages are takes =
    finished_still runs.space after runs.tags.deep runs.deep pages are.deep_tag (tag_kept takes runs.tags.deep (λ same. are.tags.pass_deep (sym same)))

pub pass_stays : (runs : RunsState) (tree : Tree) (most : ℕ) (after : SpaceState) (old new : DiskState) → AreRuns runs → IsSpace after
    → Works runs.sizes runs.tags.pass most runs.space after old new → IsTrue old.is_honest → IsTimed new → StandOver runs tree old
    → StandsOn runs.sizes tree new × LeavesOnly old new (HoldsTree runs.sizes tree)
pass_stays runs tree most after old new are shape works honest timed stand =
    tree_stays runs tree runs.tags.pass after old new are (pass_is_run runs are) shape works.takes works.effect (λ i here. here)
    (finished_other runs.sizes after runs.tags.pass runs.tags.deep runs.deep tree.output (one_tag_after works.takes are.one_tag) are.tags.pass_deep are.deep_tag
    (finished_beside runs after tree.output are works.takes stand.are_of.output))
    honest timed stand

-- ---- room

-- a run and what is left for it weigh no more than their filter and fences have room for
pub pass_light : (runs : RunsState) (snow : SnowState) (a : Entries) → runs.pass ≡ Some snow → Fits runs a → snow.writer.component.weight + left_for_pass (Some snow) a ≤ run_most runs.sizes
pass_light runs snow a is fits = grind (arith, common_steps, nat_tests)

pub deep_light : (runs : RunsState) (merge : DeepState) (a : Entries) → runs.deep ≡ Some merge → Fits runs a → merge.writer.component.weight + left_for_deep (Some merge) ≤ capacity runs.sizes
deep_light runs merge a is fits = grind (arith, common_steps, nat_tests)

-- so much weighs what the components may at least
wide : (sizes : Sizes) → IsGeometry sizes → 139264 ≤ capacity sizes
wide sizes h1 = grind (arith, common_steps, nat_tests)

-- Three components, a run that is to grow, another one, and what all seats may pin have no more pages than there are.
spare : (all first second third p q r weighs left other other_pages : ℕ) → 139264 ≤ all → least_full * (p - 1) ≤ first → least_full * (q - 1) ≤ second
    → least_full * (r - 1) ≤ third → first + second + third ≤ all → least_full * (other_pages - 1) ≤ other → weighs + left + other ≤ all
    → p + q + r + other_pages + most_pages (weighs + left) + seat_count * (all / least_full + 3 + 2) ≤ page_shares * (div_ceil all least_full + 3)
spare all first second third p q r weighs left other other_pages h1 h2 h3 h4 h5 h6 h7 = omega (arith, h1, h2, h3, h4, h5, h6, h7)

-- so there are pages for it
pub pass_has_room : (runs : RunsState) (snow : SnowState) (a : Entries) → runs.pass ≡ Some snow → AreRuns runs → Fits runs a → HasRoom runs.space snow.writer (left_for_pass (Some snow) a)
pass_has_room runs snow a is are fits =
    let made : (made_by_pass runs.pass) ≡ snow.writer.component = ap made_by_pass is in
    let left : left_for_pass runs.pass a ≡ left_for_pass (Some snow) a = ap (λ (s : Option SnowState). left_for_pass s a) is in
    let deep = made_by_deep runs.deep in
    record {
      live = pages_in_use runs;
      share = hold_share runs.sizes;
      within = are.within;
      room = omega (
        arith,
        ap (λ (c : Component). c.pages) made,
        are.pages,
        spare (capacity runs.sizes) runs.catalogue.c1.weight runs.catalogue.c1x.weight runs.catalogue.c2.weight runs.catalogue.c1.pages
            runs.catalogue.c1x.pages
            runs.catalogue.c2.pages snow.writer.component.weight (left_for_pass (Some snow) a) deep.weight deep.pages (wide runs.sizes are.geometry)
            are.c1.filled.full are.c1x.filled.full are.c2.filled.full fits.live are.deep.filled.full
            (omega (arith, fits.made, ap (λ (c : Component). c.weight) made, left)),
      );
    }

pub deep_has_room : (runs : RunsState) (merge : DeepState) (a : Entries) → runs.deep ≡ Some merge → AreRuns runs → Fits runs a → HasRoom runs.space merge.writer (left_for_deep (Some merge))
deep_has_room runs merge a is are fits =
    let made : (made_by_deep runs.deep) ≡ merge.writer.component = ap made_by_deep is in
    let left : left_for_deep runs.deep ≡ left_for_deep (Some merge) = ap left_for_deep is in
    let pass = made_by_pass runs.pass in
    record {
      live = pages_in_use runs;
      share = hold_share runs.sizes;
      within = are.within;
      room = omega (
        arith,
        ap (λ (c : Component). c.pages) made,
        are.pages,
        spare (capacity runs.sizes) runs.catalogue.c1.weight runs.catalogue.c1x.weight runs.catalogue.c2.weight runs.catalogue.c1.pages
            runs.catalogue.c1x.pages
            runs.catalogue.c2.pages merge.writer.component.weight (left_for_deep (Some merge)) pass.weight pass.pages (wide runs.sizes are.geometry)
            are.c1.filled.full are.c1x.filled.full are.c2.filled.full fits.live are.pass.filled.full
            (omega (arith, fits.made, ap (λ (c : Component). c.weight) made, left)),
      );
    }

-- one that went well is counted
pub counted_one : (result : Result ℕ Broken) (more old new : ℕ) → more ≡ from_bool (is_ok result) → new ≡ min (old + more) (2 ^ 64 - 1)
    → OnOk result (old + 1 < 2 ^ 64 → new ≡ old + 1)
counted_one (Ok n) more old new is counted = λ small. omega (arith, is, counted, small)
counted_one (Err e) more old new is counted = tt

-- ---- the pass

abbrev pub passed : RunsState → SpaceState → List GuideState → ℕ → SnowState → RunsState
passed runs space guides quanta snow = record runs { space = space; pass = Some snow; guides = guides; quanta = quanta }

pub passed_is : {old new : RunsState} (space : SpaceState) (guides : List GuideState) (quanta : ℕ) (snow : SnowState) → KeepsAllButPass old new → new.space ≡ space → new.guides ≡ guides → new.quanta ≡ quanta → new.pass ≡ Some snow
    → new ≡ passed old space guides quanta snow
passed_is space guides quanta snow keeps s g q p = λ j. record { sizes = keeps.sizes j; catalogue = keeps.catalogue j; space = s j; tags = keeps.tags j; pass = p j; deep = keeps.deep j; guides = g j; quanta = q j }

-- what its quantum ensures
pub record PassQuantum (sizes : Sizes) (space after : SpaceState) (guide guide_after : GuideState) (snow next : SnowState) (a : Entries) (result : Result ℕ Broken) (old new : DiskState) : Type 0 where
  pub took : (pages : List ℕ) (all c1 : Entries) → IsTrue old.is_honest → above snow.at all ≡ above snow.at a
      → IsPass sizes old.bytes space snow guide.filter guide.fences pages all c1 → result ≢ Err Fault
      → (n : ℕ) × (result ≡ Ok n) × IsPass sizes new.bytes after next guide_after.filter guide_after.fences pages all c1
      × IsQuantum sizes.quantum snow.at next.at all c1 n
  pub on : MergesOn sizes (sizes.quantum / 7 + 2) (TakesQuantum sizes.quantum) (stage (progress_of_pass snow a) space guide.filter guide.fences old)
      (stage (progress_of_pass next a) after guide_after.filter guide_after.fences new) result

pass_role : (runs : RunsState) (snow : SnowState) → runs.pass ≡ Some snow → AreRuns runs → snow.writer.role ≡ runs.tags.pass
pass_role runs snow is are = subst (λ (p : Option SnowState). PassHasTag runs.tags.pass p) is are.pass_tag

pub pass_works : (runs : RunsState) (after : SpaceState) (guide guide_after : GuideState) (snow next : SnowState) (a : Entries) (result : Result ℕ Broken) (old new : DiskState) → runs.pass ≡ Some snow → AreRuns runs
    → PassQuantum runs.sizes runs.space after guide guide_after snow next a result old new → Works runs.sizes runs.tags.pass (runs.sizes.quantum / 7 + 2) runs.space after old new
pass_works runs after guide guide_after snow next a result old new is are quantum =
    subst (λ (r : ℕ). Works runs.sizes r (runs.sizes.quantum / 7 + 2) runs.space after old new) (pass_role runs snow is are) (works_of quantum.on.works)

pass_in_order : (runs : RunsState) (after : SpaceState) (guides : List GuideState) (quanta : ℕ) (snow next : SnowState) → runs.pass ≡ Some snow → AreRuns runs → IsSpace after
    → TakesPages runs.tags.pass runs.space after → role_size after runs.tags.pass + snow.writer.component.pages ≡ role_size runs.space runs.tags.pass + next.writer.component.pages
    → next.writer.role ≡ runs.tags.pass → IsFilled next.writer.component → AreGuides runs.sizes runs.tags guides
    → ((n : ℕ) → IsClosedPage runs.space snow.writer n → IsClosedPage after next.writer n) → AreRuns (passed runs after guides quanta next)
pass_in_order runs after guides quanta snow next is are shape takes size role filled reserved still =
    let made = ap (λ (p : Option SnowState). (made_by_pass p).pages) is in
    record {
      geometry = are.geometry;
      pages = takes.pages ∙ are.pages;
      shape = shape;
      tags = are.tags;
      one_tag = one_tag_after takes are.one_tag;
      c1 = record { filled = are.c1.filled; size = other_size takes runs.tags.c1 are.tags.c1_pass ∙ are.c1.size };
      c1x = record { filled = are.c1x.filled; size = other_size takes runs.tags.c1x are.tags.c1x_pass ∙ are.c1x.size };
      c2 = record { filled = are.c2.filled; size = other_size takes runs.tags.c2 are.tags.c2_pass ∙ are.c2.size };
      pass = record { filled = filled; size = omega (arith, size, are.pass.size, made) };
      deep = record { filled = are.deep.filled; size = other_size takes runs.tags.deep (λ same. are.tags.pass_deep (sym same)) ∙ are.deep.size };
      pass_tag = role;
      deep_tag = are.deep_tag;
      rests = are.rests;
      open_unpinned = pins_on runs.space after snow next (role ∙ sym (pass_role runs snow is are))
          (subst (λ (r : ℕ). TakesPages r runs.space after) (sym (pass_role runs snow is are)) takes) still (subst (PinsOfPass runs.space) is are.open_unpinned);
      deep_unpinned = unpinned_on runs.space after runs.tags.pass runs.tags.deep takes are.deep_unpinned;
      within = within_more snow.writer.component.pages next.writer.component.pages (pages_in_use runs)
          (pages_in_use (passed runs after guides quanta next)) (hold_share runs.sizes) takes are.tags.pass_below size
          (omega (arith, made)) are.within;
      guides = reserved;
    }

-- On any disk.
pub pass_ran : (runs : RunsState) (after : SpaceState) (guides : List GuideState) (quanta : ℕ) (guide : GuideState) (snow next : SnowState) (a : Entries) (result : Result ℕ Broken) (old new : DiskState) → runs.pass ≡ Some snow
    → AreRunning old.is_honest old.bytes runs → IsSpace after → WritesGuide runs.sizes runs.tags runs.tags.pass runs.guides guides guide
    → PassQuantum runs.sizes runs.space after (guide_at runs.guides runs.tags.pass) guide snow next a result old new
    → OnOk result (AreRunning new.is_honest new.bytes (passed runs after guides quanta next))
pass_ran runs after guides quanta guide snow next a result old new is running shape writes quantum =
    both_ok result quantum.on.runs quantum.on.size
    (λ goes size. record {
      in_order = pass_in_order runs after guides quanta snow next is running.in_order shape works.takes
          (subst (λ (r : ℕ). role_size after r + snow.writer.component.pages ≡ role_size runs.space r + next.writer.component.pages) role size) (quantum.on.role ∙ role)
          (run_filled runs.sizes new.is_honest new.bytes after next.writer guide.filter guide.fences goes.running.run.out goes.running.run.pushed) writes.reserved
          (keeps_closed quantum.on.role quantum.on.works).still;
      pass = subst (λ (g : GuideState). PassRuns runs.sizes new.is_honest new.bytes after g (Some next)) (sym writes.here) goes.running;
      deep = subst (λ (g : GuideState). DeepRuns runs.sizes new.is_honest new.bytes after g runs.deep) (sym (writes.others runs.tags.deep (λ same. running.in_order.tags.pass_deep (sym same))))
          (deep_runs_still runs.tags.deep (guide_at runs.guides runs.tags.deep) runs.deep
          (keeps_other runs.sizes runs.tags.deep (λ same. running.in_order.tags.pass_deep (sym same)) (one_tag_after works.takes running.in_order.one_tag) works.takes
          (λ told. works.effect.bytes (subst IsTrue works.effect.goes_on.is_honest told)))
          running.in_order.deep_tag (subst (λ (b : Bool). DeepRuns runs.sizes b old.bytes runs.space (guide_at runs.guides runs.tags.deep) runs.deep) (sym works.effect.goes_on.is_honest) running.deep));
    })
  where
    role : snow.writer.role ≡ runs.tags.pass
    role = pass_role runs snow is running.in_order

    works : Works runs.sizes runs.tags.pass (runs.sizes.quantum / 7 + 2) runs.space after old new
    works = pass_works runs after (guide_at runs.guides runs.tags.pass) guide snow next a result old new is running.in_order quantum

-- On an honest disk.
pub pass_stands : (runs : RunsState) (after : SpaceState) (guides : List GuideState) (quanta : ℕ) (guide : GuideState) (snow next : SnowState) (a : Entries) (result : Result ℕ Broken) (old new : DiskState) → runs.pass ≡ Some snow → AreRuns runs → IsSpace after
    → WritesGuide runs.sizes runs.tags runs.tags.pass runs.guides guides guide
    → PassQuantum runs.sizes runs.space after (guide_at runs.guides runs.tags.pass) guide snow next a result old new → IsTimed new → (tree : Tree)
    → IsTrue old.is_honest → StandOver runs tree old → HasAllAhead runs.pass a tree → result ≢ Err Fault
    → (n : ℕ) × (result ≡ Ok n) × StandOver (passed runs after guides quanta next) tree new
    × PassTook runs.sizes.quantum runs.pass (Some next) (replayed tree.lane_a.entries) (entries_of tree.c1) n
pass_stands runs after guides quanta guide snow next a result old new is are shape writes quantum timed tree honest stand ahead other =
    let list = replayed tree.lane_a.entries in
    let over = subst (λ (p : Option SnowState). IsPassOver runs.sizes old.bytes runs.space (guide_at runs.guides runs.tags.pass) p list tree.c1) is
    stand.are_of.pass in
    let same = subst (λ (p : Option SnowState). HasAllAhead p a tree) is ahead in
    let took = quantum.took (numbers_of tree.c1) list (entries_of tree.c1) honest same over other in
    let stood = (pass_stays runs tree (runs.sizes.quantum / 7 + 2) after old new are shape works honest timed stand).0 in (
      took.0,
      took.1,
      record {
        stands = stood;
        are_of = record {
          holds = stood.reads;
          catalogue = stand.are_of.catalogue;
          c1 = λ n has. tag_kept works.takes runs.tags.c1 are.tags.c1_pass n (stand.are_of.c1 n has);
          c1x = λ n has. tag_kept works.takes runs.tags.c1x are.tags.c1x_pass n (stand.are_of.c1x n has);
          c2 = λ n has. tag_kept works.takes runs.tags.c2 are.tags.c2_pass n (stand.are_of.c2 n has);
          pass = subst (λ (g : GuideState). IsPassOver runs.sizes new.bytes after g (Some next) list tree.c1) (sym writes.here) took.2;
          deep = subst (λ (g : GuideState). IsDeepOver runs.sizes new.bytes after g runs.deep tree.c1x tree.c2) (sym (writes.others runs.tags.deep (λ same. are.tags.pass_deep (sym same))))
              (deep_over_still (guide_at runs.guides runs.tags.deep) runs.deep tree.c1x tree.c2 (keeps_other runs.sizes runs.tags.deep (λ same. are.tags.pass_deep (sym same)) one_tag works.takes (λ told. works.effect.bytes honest))
              (pages_other runs.sizes runs.tags.c1x are.tags.c1x_pass one_tag works.takes) (pages_other runs.sizes runs.tags.c2 are.tags.c2_pass one_tag works.takes) are.deep_tag stand.are_of.c1x stand.are_of.c2 stand.are_of.deep);
          guided = all_guided_still runs.guides guides runs.tags tree writes.others are.tags.c1_pass are.tags.c1x_pass are.tags.c2_pass stand.are_of.guided;
          output = finished_beside runs after tree.output are works.takes stand.are_of.output;
        };
      },
      subst (λ (p : Option SnowState). PassTook runs.sizes.quantum p (Some next) list (entries_of tree.c1) took.0) (sym is) took.3,
    )
  where
    works : Works runs.sizes runs.tags.pass (runs.sizes.quantum / 7 + 2) runs.space after old new
    works = pass_works runs after (guide_at runs.guides runs.tags.pass) guide snow next a result old new is are quantum

    one_tag : HasOneTag after
    one_tag = one_tag_after works.takes are.one_tag

-- ---- the deep merge

abbrev pub deepened : RunsState → SpaceState → List GuideState → ℕ → DeepState → RunsState
deepened runs space guides quanta merge = record runs { space = space; deep = Some merge; guides = guides; quanta = quanta }

pub deepened_is : {old new : RunsState} (space : SpaceState) (guides : List GuideState) (quanta : ℕ) (merge : DeepState) → KeepsAllButDeep old new → new.space ≡ space → new.guides ≡ guides → new.quanta ≡ quanta → new.deep ≡ Some merge
    → new ≡ deepened old space guides quanta merge
deepened_is space guides quanta merge keeps s g q d = λ j. record { sizes = keeps.sizes j; catalogue = keeps.catalogue j; space = s j; tags = keeps.tags j; pass = keeps.pass j; deep = d j; guides = g j; quanta = q j }

-- what its quantum ensures
pub record DeepQuantum (sizes : Sizes) (space after : SpaceState) (guide guide_after : GuideState) (merge next : DeepState) (result : Result ℕ Broken) (old new : DiskState) : Type 0 where
  pub took : (newer older : List ℕ) (c1x c2 : Entries) → IsTrue old.is_honest → IsMerge sizes old.bytes space merge guide.filter guide.fences newer older c1x c2 → result ≢ Err Fault
      → (n : ℕ) × (result ≡ Ok n) × IsMerge sizes new.bytes after next guide_after.filter guide_after.fences newer older c1x c2 × IsQuantum sizes.quantum merge.at next.at c1x c2 n
  pub on : MergesOn sizes (sizes.quantum / 4 + 3) (TakesQuantum sizes.quantum) (stage (progress_of_deep merge) space guide.filter guide.fences old)
      (stage (progress_of_deep next) after guide_after.filter guide_after.fences new) result

deep_role : (runs : RunsState) (merge : DeepState) → runs.deep ≡ Some merge → AreRuns runs → merge.writer.role ≡ runs.tags.deep
deep_role runs merge is are = subst (λ (d : Option DeepState). DeepHasTag runs.tags.deep d) is are.deep_tag

pub deep_works : (runs : RunsState) (after : SpaceState) (guide guide_after : GuideState) (merge next : DeepState) (result : Result ℕ Broken) (old new : DiskState) → runs.deep ≡ Some merge → AreRuns runs
    → DeepQuantum runs.sizes runs.space after guide guide_after merge next result old new → Works runs.sizes runs.tags.deep (runs.sizes.quantum / 4 + 3) runs.space after old new
deep_works runs after guide guide_after merge next result old new is are quantum =
    subst (λ (r : ℕ). Works runs.sizes r (runs.sizes.quantum / 4 + 3) runs.space after old new) (deep_role runs merge is are) (works_of quantum.on.works)

pub deep_stays : (runs : RunsState) (tree : Tree) (most : ℕ) (after : SpaceState) (merge : DeepState) (next : WriterState) (old new : DiskState)
    → runs.deep ≡ Some merge
    → AreRuns runs → IsSpace after → Grows runs.sizes most runs.space after merge.writer next old new → IsTrue old.is_honest → IsTimed new
    → StandOver runs tree old
    → StandsOn runs.sizes tree new × LeavesOnly old new (HoldsTree runs.sizes tree)
deep_stays runs tree most after merge next old new is are shape grows honest timed stand =
    let role = deep_role runs merge is are in
    tree_stays runs tree runs.tags.deep after old new are (deep_is_run runs are) shape
    (subst (λ (r : ℕ). TakesPages r runs.space after) role grows.takes) grows.effect
    (λ i here. subst (λ (r : ℕ). role_region runs.sizes after r i) role here.0)
    (finished_grown runs.sizes runs.space after merge tree.output (subst (λ (d : Option DeepState). AreFinished runs.space d tree.output) is stand.are_of.output))
    honest timed stand

deep_in_order : (runs : RunsState) (after : SpaceState) (guides : List GuideState) (quanta : ℕ) (merge next : DeepState) → runs.deep ≡ Some merge → AreRuns runs → IsSpace after → TakesPages runs.tags.deep runs.space after
    → role_size after runs.tags.deep + merge.writer.component.pages ≡ role_size runs.space runs.tags.deep + next.writer.component.pages
    → next.writer.role ≡ runs.tags.deep → IsFilled next.writer.component → AreGuides runs.sizes runs.tags guides
    → AreRuns (deepened runs after guides quanta next)
deep_in_order runs after guides quanta merge next is are shape takes size role filled reserved =
    let made = ap (λ (d : Option DeepState). (made_by_deep d).pages) is in
    record {
      geometry = are.geometry;
      pages = takes.pages ∙ are.pages;
      shape = shape;
      tags = are.tags;
      one_tag = one_tag_after takes are.one_tag;
      c1 = record { filled = are.c1.filled; size = other_size takes runs.tags.c1 are.tags.c1_deep ∙ are.c1.size };
      c1x = record { filled = are.c1x.filled; size = other_size takes runs.tags.c1x are.tags.c1x_deep ∙ are.c1x.size };
      c2 = record { filled = are.c2.filled; size = other_size takes runs.tags.c2 are.tags.c2_deep ∙ are.c2.size };
      pass = record { filled = are.pass.filled; size = other_size takes runs.tags.pass are.tags.pass_deep ∙ are.pass.size };
      deep = record { filled = filled; size = omega (arith, size, are.deep.size, made) };
      pass_tag = are.pass_tag;
      deep_tag = role;
      rests = tt;
      open_unpinned = pins_beside runs.space after runs.tags.deep runs.tags.pass runs.pass are.pass_tag are.tags.pass_deep takes are.open_unpinned;
      deep_unpinned = unpinned_on runs.space after runs.tags.deep runs.tags.deep takes are.deep_unpinned;
      within = within_more merge.writer.component.pages next.writer.component.pages (pages_in_use runs)
          (pages_in_use (deepened runs after guides quanta next)) (hold_share runs.sizes) takes are.tags.deep_below size
          (omega (arith, made)) are.within;
      guides = reserved;
    }

-- On any disk.
pub deep_ran : (runs : RunsState) (after : SpaceState) (guides : List GuideState) (quanta : ℕ) (guide : GuideState) (merge next : DeepState) (result : Result ℕ Broken) (old new : DiskState) → runs.deep ≡ Some merge
    → AreRunning old.is_honest old.bytes runs → IsSpace after → WritesGuide runs.sizes runs.tags runs.tags.deep runs.guides guides guide
    → DeepQuantum runs.sizes runs.space after (guide_at runs.guides runs.tags.deep) guide merge next result old new
    → OnOk result (AreRunning new.is_honest new.bytes (deepened runs after guides quanta next))
deep_ran runs after guides quanta guide merge next result old new is running shape writes quantum =
    both_ok result quantum.on.runs quantum.on.size
    (λ goes size. record {
      in_order = deep_in_order runs after guides quanta merge next is running.in_order shape works.takes
          (subst (λ (r : ℕ). role_size after r + merge.writer.component.pages ≡ role_size runs.space r + next.writer.component.pages) role size) (quantum.on.role ∙ role)
          (run_filled runs.sizes new.is_honest new.bytes after next.writer guide.filter guide.fences goes.running.run.out goes.running.run.pushed) writes.reserved;
      pass = subst (λ (g : GuideState). PassRuns runs.sizes new.is_honest new.bytes after g runs.pass) (sym (writes.others runs.tags.pass running.in_order.tags.pass_deep))
          (pass_runs_still runs.tags.pass (guide_at runs.guides runs.tags.pass) runs.pass
          (keeps_other runs.sizes runs.tags.pass running.in_order.tags.pass_deep (one_tag_after works.takes running.in_order.one_tag) works.takes
          (λ told. works.effect.bytes (subst IsTrue works.effect.goes_on.is_honest told)))
          running.in_order.pass_tag (subst (λ (b : Bool). PassRuns runs.sizes b old.bytes runs.space (guide_at runs.guides runs.tags.pass) runs.pass) (sym works.effect.goes_on.is_honest) running.pass));
      deep = subst (λ (g : GuideState). DeepRuns runs.sizes new.is_honest new.bytes after g (Some next)) (sym writes.here) goes.running;
    })
  where
    role : merge.writer.role ≡ runs.tags.deep
    role = deep_role runs merge is running.in_order

    works : Works runs.sizes runs.tags.deep (runs.sizes.quantum / 4 + 3) runs.space after old new
    works = deep_works runs after (guide_at runs.guides runs.tags.deep) guide merge next result old new is running.in_order quantum

-- On an honest disk.
pub deep_stands : (runs : RunsState) (after : SpaceState) (guides : List GuideState) (quanta : ℕ) (guide : GuideState) (merge next : DeepState) (result : Result ℕ Broken) (old new : DiskState) → runs.deep ≡ Some merge → AreRuns runs → IsSpace after
    → WritesGuide runs.sizes runs.tags runs.tags.deep runs.guides guides guide
    → DeepQuantum runs.sizes runs.space after (guide_at runs.guides runs.tags.deep) guide merge next result old new → IsTimed new
    → (tree : Tree) → IsTrue old.is_honest → StandOver runs tree old → result ≢ Err Fault
    → (n : ℕ) × (result ≡ Ok n) × StandOver (deepened runs after guides quanta next) tree new
    × DeepTook runs.sizes.quantum runs.deep (Some next) (entries_of tree.c1x) (entries_of tree.c2) n
deep_stands runs after guides quanta guide merge next result old new is are shape writes quantum timed tree honest stand other =
    let over = subst (λ (d : Option DeepState). IsDeepOver runs.sizes old.bytes runs.space (guide_at runs.guides runs.tags.deep) d tree.c1x tree.c2) is stand.are_of.deep in
    let took = quantum.took (numbers_of tree.c1x) (numbers_of tree.c2) (entries_of tree.c1x) (entries_of tree.c2) honest over other in
    let stood = (deep_stays runs tree (runs.sizes.quantum / 4 + 3) after merge next.writer old new is are shape quantum.on.works honest timed
    stand).0 in (
      took.0,
      took.1,
      record {
        stands = stood;
        are_of = record {
          holds = stood.reads;
          catalogue = stand.are_of.catalogue;
          c1 = λ n has. tag_kept works.takes runs.tags.c1 are.tags.c1_deep n (stand.are_of.c1 n has);
          c1x = λ n has. tag_kept works.takes runs.tags.c1x are.tags.c1x_deep n (stand.are_of.c1x n has);
          c2 = λ n has. tag_kept works.takes runs.tags.c2 are.tags.c2_deep n (stand.are_of.c2 n has);
          pass = subst (λ (g : GuideState). IsPassOver runs.sizes new.bytes after g runs.pass (replayed tree.lane_a.entries) tree.c1)
              (sym (writes.others runs.tags.pass are.tags.pass_deep))
              (pass_over_still (guide_at runs.guides runs.tags.pass) runs.pass (replayed tree.lane_a.entries) tree.c1
              (keeps_other runs.sizes runs.tags.pass are.tags.pass_deep one_tag works.takes (λ told. works.effect.bytes honest))
              (pages_other runs.sizes runs.tags.c1 are.tags.c1_deep one_tag works.takes) are.pass_tag stand.are_of.c1 stand.are_of.pass);
          deep = subst (λ (g : GuideState). IsDeepOver runs.sizes new.bytes after g (Some next) tree.c1x tree.c2) (sym writes.here) took.2;
          guided = all_guided_still runs.guides guides runs.tags tree writes.others are.tags.c1_deep are.tags.c1x_deep are.tags.c2_deep stand.are_of.guided;
          output =
              let finished = subst (λ (d : Option DeepState). AreFinished runs.space d tree.output) is stand.are_of.output in
              λ n among. (keeps_closed quantum.on.role quantum.on.works).still n (finished n among);
        };
      },
      subst (λ (d : Option DeepState). DeepTook runs.sizes.quantum d (Some next) (entries_of tree.c1x) (entries_of tree.c2) took.0) (sym is) took.3,
    )
  where
    works : Works runs.sizes runs.tags.deep (runs.sizes.quantum / 4 + 3) runs.space after old new
    works = deep_works runs after (guide_at runs.guides runs.tags.deep) guide merge next result old new is are quantum

    one_tag : HasOneTag after
    one_tag = one_tag_after works.takes are.one_tag
