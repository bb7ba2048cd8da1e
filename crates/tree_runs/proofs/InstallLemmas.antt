-- What the components and merges keep when a run becomes a component.
use Rattle.std.specs.Prelude.{◌≡◌, ◌≢◌, ℕ, List, Option, Some, None, refl}
use Rattle.std.proofs.lemmas.Grind.{common_steps}
use Rattle.std.proofs.lemmas.Bool.Decides.{nat_tests}
use Rattle.std.proofs.Common.{sym, subst, ap, ◌∙◌, arith}
use Rattle.blsm_model.specs.Components.{empty_component}
use Rattle.blsm_model.specs.declared.component.Component.{Component}
use Rattle.catalog_swap.specs.declared.catalog.Catalog.{Catalog}
use Rattle.catalog_swap.specs.declared.catalog.Progress.{Progress}
use Rattle.page_space.specs.Space.{SpaceState, role_size}
use Rattle.deep_merge.specs.Merge.{DeepState, started as deep_started}
use Rattle.tree_runs.specs.Runs.{GuideState, RunsState, Tags, AreGuides, AreRuns, AreTags, HasOneTag, IsFilled, IsHeld, RestsEmpty, made_by_pass, made_by_deep}
use Rattle.tree_runs.proofs.ReleasedTags.{Released, has_before, size_still, sizes_released}
use Rattle.tree_runs.proofs.CatalogLemmas.{HasParts}
use Rattle.tree_runs.proofs.CountLemmas.{pins_same}
use Rattle.tree_runs.proofs.PinLemmas.{pins_still, unpinned_still, released_unpinned}

-- ---- which tags are which

tags_for_deep : (tags : Tags) → AreTags tags → AreTags (record tags { c2 = tags.deep; deep = tags.c2 })
tags_for_deep tags are = grind (arith, common_steps, nat_tests)

tags_for_pass : (tags : Tags) → AreTags tags → AreTags (record tags { c1 = tags.pass; pass = tags.c1 })
tags_for_pass tags are = grind (arith, common_steps, nat_tests)

tags_for_rotation : (tags : Tags) → AreTags tags → AreTags (record tags { c1 = tags.c1x; c1x = tags.c1 })
tags_for_rotation tags are = grind (arith, common_steps, nat_tests)

-- C1 gets the tag of C1', C1' that of the pass, and the pass that of C1
tags_for_rotated : (tags : Tags) → AreTags tags → AreTags (record tags { c1 = tags.c1x; c1x = tags.pass; pass = tags.c1 })
tags_for_rotated tags are = tags_for_rotation (record tags { c1 = tags.pass; pass = tags.c1 }) (tags_for_pass tags are)

-- ---- what is held

empty_filled : IsFilled empty_component
empty_filled = record { none = λ is. refl; full = omega arith }

pub nothing_held : (space : SpaceState) (tag : ℕ) → role_size space tag ≡ 0 → IsHeld space tag empty_component
nothing_held space tag none = record { filled = empty_filled; size = none }

held_still : {role : ℕ} {old new : SpaceState} {tag : ℕ} {component : Component} → Released role old new → tag ≢ role → IsHeld old tag component → IsHeld new tag component
held_still {role} {old} {new} {tag} is differs held = record { filled = held.filled; size = size_still is tag differs ∙ held.size }

pub one_tag_still : {role : ℕ} {old new : SpaceState} → Released role old new → HasOneTag old → HasOneTag new
one_tag_still is once page one other has also = once page one other (has_before is one page has) (has_before is other page also)

-- ---- the deep merge's run becomes C2

pub runs_for_deep : (old : RunsState) (next : Catalog) (mid after : SpaceState) → AreRuns old → HasParts next old.catalogue.c1 empty_component (made_by_deep old.deep) None
    → Released old.tags.c1x old.space mid → Released old.tags.c2 mid after
    → AreRuns (record { sizes = old.sizes; catalogue = next; space = after; tags = record old.tags { c2 = old.tags.deep; deep = old.tags.c2 }; pass = old.pass; deep = None; guides = old.guides; quanta = old.quanta })
runs_for_deep old next mid after are parts first second = record {
  geometry = are.geometry;
  pages = second.pages ∙ first.pages ∙ are.pages;
  shape = second.shape;
  tags = tags_for_deep tags are.tags;
  one_tag = one_tag_still second (one_tag_still first are.one_tag);
  c1 = subst (λ (k : Component). IsHeld after tags.c1 k) (sym parts.c1_is) (held_still second are.tags.c1_c2 (held_still first are.tags.c1_c1x are.c1));
  c1x = subst (λ (k : Component). IsHeld after tags.c1x k) (sym parts.c1x_is) (nothing_held after tags.c1x (size_still second tags.c1x are.tags.c1x_c2 ∙ first.size));
  c2 = subst (λ (k : Component). IsHeld after tags.deep k) (sym parts.c2_is)
      (held_still second (λ is. are.tags.c2_deep (sym is)) (held_still first (λ is. are.tags.c1x_deep (sym is)) are.deep));
  pass = held_still second (λ is. are.tags.c2_pass (sym is)) (held_still first (λ is. are.tags.c1x_pass (sym is)) are.pass);
  deep = nothing_held after tags.c2 second.size;
  pass_tag = are.pass_tag;
  deep_tag = tt;
  rests = parts.c1x_is;
  open_unpinned = pins_still old.pass second (pins_still old.pass first are.open_unpinned);
  deep_unpinned = released_unpinned second;
  within = record {
    roles = omega (
      arith,
      sizes_released first are.tags.c1x_below,
      sizes_released second are.tags.c2_below,
      size_still first tags.c2 (λ is. are.tags.c1x_c2 (sym is)),
      are.c1x.size,
      are.c2.size,
      are.within.roles,
      ap (λ (k : Component). k.pages) parts.c1_is,
      ap (λ (k : Component). k.pages) parts.c1x_is,
      ap (λ (k : Component). k.pages) parts.c2_is,
    );
    seats = pins_same old.space after _ (second.pins ∙ first.pins) are.within.seats;
  };
  guides = record {
    five = are.guides.five;
    c1 = are.guides.c1;
    c1x = are.guides.c1x;
    pass = are.guides.pass;
    c2 = are.guides.deep;
    deep = are.guides.c2;
  };
}
  where
    tags : Tags
    tags = old.tags

-- ---- the pass's run becomes C1

pub runs_for_pass : {progress : Option Progress} (old : RunsState) (next : Catalog) (after : SpaceState) → AreRuns old → HasParts next (made_by_pass old.pass) old.catalogue.c1x old.catalogue.c2 progress
    → Released old.tags.c1 old.space after
    → AreRuns (record { sizes = old.sizes; catalogue = next; space = after; tags = record old.tags { c1 = old.tags.pass; pass = old.tags.c1 }; pass = None; deep = old.deep; guides = old.guides; quanta = old.quanta })
runs_for_pass old next after are parts gone = record {
  geometry = are.geometry;
  pages = gone.pages ∙ are.pages;
  shape = gone.shape;
  tags = tags_for_pass tags are.tags;
  one_tag = one_tag_still gone are.one_tag;
  c1 = subst (λ (k : Component). IsHeld after tags.pass k) (sym parts.c1_is) (held_still gone (λ is. are.tags.c1_pass (sym is)) are.pass);
  c1x = subst (λ (k : Component). IsHeld after tags.c1x k) (sym parts.c1x_is) (held_still gone (λ is. are.tags.c1_c1x (sym is)) are.c1x);
  c2 = subst (λ (k : Component). IsHeld after tags.c2 k) (sym parts.c2_is) (held_still gone (λ is. are.tags.c1_c2 (sym is)) are.c2);
  pass = nothing_held after tags.c1 gone.size;
  deep = held_still gone (λ is. are.tags.c1_deep (sym is)) are.deep;
  pass_tag = tt;
  deep_tag = are.deep_tag;
  rests = subst (λ (k : Component). RestsEmpty old.deep k) (sym parts.c1x_is) are.rests;
  open_unpinned = tt;
  deep_unpinned = unpinned_still tags.deep gone are.deep_unpinned;
  within = record {
    roles = omega (
      arith,
      sizes_released gone are.tags.c1_below,
      are.c1.size,
      are.within.roles,
      ap (λ (k : Component). k.pages) parts.c1_is,
      ap (λ (k : Component). k.pages) parts.c1x_is,
      ap (λ (k : Component). k.pages) parts.c2_is,
    );
    seats = pins_same old.space after _ gone.pins are.within.seats;
  };
  guides = record {
    five = are.guides.five;
    c1 = are.guides.pass;
    c1x = are.guides.c1x;
    pass = are.guides.c1;
    c2 = are.guides.c2;
    deep = are.guides.deep;
  };
}
  where
    tags : Tags
    tags = old.tags

-- C1' has no page where no deep merge runs
c1x_empty : (old : RunsState) → AreRuns old → old.deep ≡ None → old.catalogue.c1x ≡ empty_component
c1x_empty old are rests = subst (λ (d : Option DeepState). RestsEmpty d old.catalogue.c1x) rests are.rests

-- or it becomes C1', and C1 is empty
pub runs_for_rotated_pass : {progress : Option Progress} (old : RunsState) (next : Catalog) (after : SpaceState) (guides : List GuideState) → AreRuns old → HasParts next empty_component (made_by_pass old.pass) old.catalogue.c2 progress → old.deep ≡ None
    → Released old.tags.c1 old.space after → AreGuides old.sizes old.tags guides
    → AreRuns (record {
      sizes = old.sizes;
      catalogue = next;
      space = after;
      tags = record old.tags { c1 = old.tags.c1x; c1x = old.tags.pass; pass = old.tags.c1 };
      pass = None;
      deep = Some (deep_started old.tags.deep next.c1x next.c2);
      guides = guides;
      quanta = old.quanta;
    })
runs_for_rotated_pass old next after guides are parts rests gone reserved = record {
  geometry = are.geometry;
  pages = gone.pages ∙ are.pages;
  shape = gone.shape;
  tags = tags_for_rotated tags are.tags;
  one_tag = one_tag_still gone are.one_tag;
  c1 = subst (λ (k : Component). IsHeld after tags.c1x k) (sym parts.c1_is) (nothing_held after tags.c1x (size_still gone tags.c1x (λ is. are.tags.c1_c1x (sym is)) ∙ are.c1x.size ∙ none));
  c1x = subst (λ (k : Component). IsHeld after tags.pass k) (sym parts.c1x_is) (held_still gone (λ is. are.tags.c1_pass (sym is)) are.pass);
  c2 = subst (λ (k : Component). IsHeld after tags.c2 k) (sym parts.c2_is) (held_still gone (λ is. are.tags.c1_c2 (sym is)) are.c2);
  pass = nothing_held after tags.c1 gone.size;
  deep = nothing_held after tags.deep (size_still gone tags.deep (λ is. are.tags.c1_deep (sym is)) ∙ are.deep.size ∙ no_run);
  pass_tag = tt;
  deep_tag = refl;
  rests = tt;
  open_unpinned = tt;
  deep_unpinned = unpinned_still tags.deep gone are.deep_unpinned;
  within = record {
    roles = omega (
      arith,
      sizes_released gone are.tags.c1_below,
      are.c1.size,
      are.within.roles,
      none,
      no_run,
      ap (λ (k : Component). k.pages) parts.c1_is,
      ap (λ (k : Component). k.pages) parts.c1x_is,
      ap (λ (k : Component). k.pages) parts.c2_is,
    );
    seats = pins_same old.space after _ gone.pins are.within.seats;
  };
  guides = record { five = reserved.five; c1 = reserved.c1x; c1x = reserved.pass; pass = reserved.c1; c2 = reserved.c2; deep = reserved.deep };
}
  where
    tags : Tags
    tags = old.tags

    none : old.catalogue.c1x.pages ≡ 0
    none = ap (λ (k : Component). k.pages) (c1x_empty old are rests)

    no_run : (made_by_deep old.deep).pages ≡ 0
    no_run = ap (λ (d : Option DeepState). (made_by_deep d).pages) rests

-- ---- C1 becomes C1'

pub runs_for_rotation : (old : RunsState) (next : Catalog) (guides : List GuideState) → AreRuns old → HasParts next empty_component old.catalogue.c1 old.catalogue.c2 None → old.deep ≡ None → AreGuides old.sizes old.tags guides
    → AreRuns (record {
      sizes = old.sizes;
      catalogue = next;
      space = old.space;
      tags = record old.tags { c1 = old.tags.c1x; c1x = old.tags.c1 };
      pass = old.pass;
      deep = Some (deep_started old.tags.deep next.c1x next.c2);
      guides = guides;
      quanta = old.quanta;
    })
runs_for_rotation old next guides are parts rests reserved = grind (arith, common_steps, nat_tests)
