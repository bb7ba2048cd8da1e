-- A deep merge that settling goes on with is light. An opening's has taken nothing, or is taken up behind what was finished of it.
use Rattle.std.proofs.Common.{◌≡◌, ℕ, ◌+◌, ◌≤◌, Bool, List, Option, None, Some, ap, arith}
use Rattle.std.proofs.lemmas.Grind.{common_steps}
use Rattle.std.proofs.lemmas.Bool.Decides.{nat_tests}
use Rattle.std.specs.Prelude.{if◌then◌else◌, is_some, nat_eq}
use Rattle.blsm_model.specs.Sizes.{Sizes}
use Rattle.page_space.specs.Space.{SpaceState}
use Rattle.catalog_swap.specs.declared.catalog.Catalog.{Catalog}
use Rattle.deep_merge.specs.Merge.{started}
use Rattle.tree_runs.specs.declared.resumable.Resumable.{Resumable}
use Rattle.tree_runs.specs.Ahead.{IsAhead}
use Rattle.tree_runs.specs.Runs.{GuideState, RunsState, due_deep, first_tags, left_for_deep, made_by_deep, opened_from}
use Rattle.tree_settling.specs.Counting.{where_so}
use Rattle.tree_settling.specs.Settling.{IsDeepLight, due_to_deep, taken_before}

-- what it had taken before counts for nothing where none is named
pub light_unnamed : (runs : RunsState) → runs.catalogue.progress ≡ None → due_to_deep runs ≤ runs.catalogue.c1x.weight + runs.catalogue.c2.weight
    → IsDeepLight runs
light_unnamed runs none light = record { run = light; rest = omega (arith, light, ap taken_before none) }

-- ---- it has taken nothing, whether C1' has pages or not

light : (catalogue : Catalog) (none : Bool)
    → (made_by_deep (if none then None else Some (started first_tags.deep catalogue.c1x catalogue.c2))).weight
    + left_for_deep (if none then None else Some (started first_tags.deep catalogue.c1x catalogue.c2))
    ≤ catalogue.c1x.weight + catalogue.c2.weight
light catalogue none = grind (arith, common_steps, nat_tests)

left : (catalogue : Catalog) (none : Bool)
    → left_for_deep (if none then None else Some (started first_tags.deep catalogue.c1x catalogue.c2))
    ≡ (if none then 0 else catalogue.c1x.weight + catalogue.c2.weight)
left catalogue none = grind (arith, common_steps, nat_tests)

pub left_before_it : (catalogue : Catalog)
    → left_for_deep (due_deep first_tags.deep catalogue) ≡ (if nat_eq catalogue.c1x.pages 0 then 0 else catalogue.c1x.weight + catalogue.c2.weight)
left_before_it catalogue = left catalogue (nat_eq catalogue.c1x.pages 0)

due : (catalogue : Catalog) (none : Bool) (n : ℕ)
    → where_so (is_some (if none then None else Some (started first_tags.deep catalogue.c1x catalogue.c2))) n ≡ (if none then 0 else n)
due catalogue none n = grind (arith, common_steps, nat_tests)

pub due_before_it : (catalogue : Catalog) (n : ℕ)
    → where_so (is_some (due_deep first_tags.deep catalogue)) n ≡ (if nat_eq catalogue.c1x.pages 0 then 0 else n)
due_before_it catalogue n = due catalogue (nat_eq catalogue.c1x.pages 0) n

-- ---- or it is taken up

pub begins_light : (sizes : Sizes) (catalogue : Catalog) (space : SpaceState) (guides : List GuideState) (ahead : Option Resumable)
    → IsAhead first_tags.deep catalogue.progress (catalogue.c1x.weight + catalogue.c2.weight) ahead
    → IsDeepLight (opened_from sizes catalogue space guides ahead)
begins_light sizes catalogue space guides None is =
    light_unnamed (opened_from sizes catalogue space guides None) is (light catalogue (nat_eq catalogue.c1x.pages 0))
begins_light sizes catalogue space guides (Some ahead) is = record {
  run = omega (arith, is.2.light, is.2.left_is);
  rest = omega (arith, ap taken_before is.1, is.2.left, is.2.left_is);
}
