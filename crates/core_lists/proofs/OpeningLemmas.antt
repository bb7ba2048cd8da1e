-- A store that was opened stands at the machine's first state.
use Rattle.std.proofs.Common.{◌≡◌, ◌∙◌, ℕ, ◌+◌, List, [], Option, None, refl, ap, sym, subst, arith}
use Rattle.std.proofs.lemmas.Grind.{common_steps}
use Rattle.std.proofs.lemmas.Bool.Decides.{nat_tests}
use Rattle.blsm_model.specs.Book.{Book}
use Rattle.gated_log.specs.Lane.{Lane, no_lane, MayEnd}
use Rattle.catalog_swap.specs.declared.catalog.Catalog.{Catalog}
use Rattle.record_delta.specs.Entries.{entries_weight, replayed}
use Rattle.page_file.specs.Component.{entries_of}
use Rattle.deep_merge.specs.Merge.{DeepState}
use Rattle.pacing.specs.Pace.{Pace}
use Rattle.pacing.specs.Laws.{IsOpening}
use Rattle.pacing.proofs.Fronts.{opening_fronts}
use Rattle.tree_machine.specs.Lists.{Lists, map_in}
use Rattle.tree_machine.specs.Machine.{Machine, opened}
use Rattle.paced_tree.specs.Kept.{AreComponents, IsPacedTree}
use Rattle.paced_tree.specs.Lanes.{IsLane}
use Rattle.paced_tree.proofs.LaneLemmas.{empty_lane}
use Rattle.paced_tree.proofs.Promises.{opened_is_paced}
use Rattle.tree_file.specs.Tree.{Tree, lists_of, map_of_tree}
use Rattle.tree_file.proofs.ListLemmas.{sorted_component, lists_light}
use Rattle.tree_log.specs.Log.{IsLogOf}
use Rattle.tree_log.proofs.RestLemmas.{rest_whole}
use Rattle.tree_runs.specs.Runs.{guide_at, released_by}
use Rattle.tree_runs.specs.Holding.{AreOf, IsDeepOver}
use Rattle.core_moves.specs.declared.held.Held.{Held}
use Rattle.core_moves.specs.Held.{IsOne}
use Rattle.core_lists.specs.Standing.{HoldsMachine, catalogue_of}
use Rattle.core_pace.specs.Opening.{IsOpened}
use Rattle.core_lists.proofs.SwapLands.{same_lists}
use Rattle.core_pace.specs.Pacing.{HasPace}
use Rattle.core_lists.proofs.Terms.{StandsIn}
use Rattle.pacing.proofs.Terms.{no_fronts}

module _ (annals : Book) (faults : ℕ) (held : Held) (tree : Tree) (file : List ℕ) (is : IsOpened annals faults held) (one : IsOne held)
    (of : AreOf held.runs tree file) (lane_a : tree.lane_a ≡ no_lane) (lane_b : tree.lane_b ≡ no_lane)
    (opening : IsOpening held.runs.sizes held.runs.catalogue.c1.weight held.runs.catalogue.c2.weight) where
  abbrev first : Machine
  first = opened held.runs.sizes (entries_of tree.c1) (entries_of tree.c2) (catalogue_of held.runs.catalogue) faults annals.room

  -- C1' has nothing
  no_c1x : tree.c1x ≡ []
  no_c1x = subst (λ (o : Option DeepState). IsDeepOver held.runs.sizes file held.runs.space (guide_at held.runs.guides held.runs.tags.deep) o tree.c1x tree.c2) is.deep of.deep

  weight_c1 : entries_weight (entries_of tree.c1) ≡ held.runs.catalogue.c1.weight
  weight_c1 = of.holds.c1.weight_is ∙ ap (λ (k : Catalog). k.c1.weight) of.catalogue

  weight_c2 : entries_weight (entries_of tree.c2) ≡ held.runs.catalogue.c2.weight
  weight_c2 = of.holds.c2.weight_is ∙ ap (λ (k : Catalog). k.c2.weight) of.catalogue

  charge_is : entries_weight (entries_of tree.c1) + entries_weight (entries_of tree.c2) ≡ held.runs.catalogue.c1.weight + held.runs.catalogue.c2.weight
  charge_is = omega (arith, weight_c1, weight_c2)

  -- the annals are empty
  annals_are : ◌≡◌ {A = Book} (record { entries = []; quanta = []; room = annals.room }) annals
  annals_are = grind (arith, common_steps, nat_tests)

  lists : first.lists ≡ lists_of tree
  lists = same_lists first.lists (lists_of tree) (ap (λ (l : Lane). replayed l.entries) (sym lane_b))
      (ap (λ (l : Lane). replayed l.entries) (sym lane_a)) refl (ap entries_of (sym no_c1x)) refl

  floor_none : held.log.a.floor ≡ None
  floor_none = one.follows.floor ∙ ap released_by is.pass

  of_log : IsLogOf tree held.log
  of_log = record {
    roles = one.roles ∙ sym (ap (λ (k : Catalog). k.lanes) of.catalogue);
    end_a = is.end_a ∙ sym (ap (λ (l : Lane). l.end) lane_a);
    end_b = is.end_b ∙ sym (ap (λ (l : Lane). l.end) lane_b);
    may_a = subst MayEnd (sym lane_a) (λ none. refl);
    may_b = subst MayEnd (sym lane_b) (λ none. refl);
    a = rest_whole (replayed tree.lane_a.entries) held.log.a (floor_none, one.follows.whole floor_none) (is.a ∙ sym (ap (λ (l : Lane). replayed l.entries) lane_a));
    b = is.b ∙ sym (ap (λ (l : Lane). replayed l.entries) lane_b);
  }

  holds : HoldsMachine held tree first
  holds =
      record {
        lists = lists;
        of_log = of_log;
        pass = grind (arith, common_steps, nat_tests);
        deep = grind (arith, common_steps, nat_tests);
        gears = grind (arith, common_steps, nat_tests);
        spring = grind (arith, common_steps, nat_tests);
        catalogue = grind (arith, common_steps, nat_tests);
        book = grind (arith, common_steps, nat_tests);
      }

  are : AreComponents held.runs.sizes (entries_of tree.c1) (entries_of tree.c2)
  are =
      let light = lists_light held.runs.sizes tree file of.holds in
      record {
        sorted_c1 = sorted_component of.holds.c1;
        sorted_c2 = sorted_component of.holds.c2;
        light_c1 = light.2;
        light_c2 = light.4;
        bases = of.holds.bases;
        numbers = subst (λ (n : ℕ). IsOpening held.runs.sizes n (entries_weight (entries_of tree.c2))) (sym weight_c1) (subst (λ (n : ℕ). IsOpening held.runs.sizes held.runs.catalogue.c1.weight n) (sym weight_c2) opening);
      }

  paced : IsPacedTree (map_of_tree tree) first
  paced = subst (λ (l : Lists). IsPacedTree (map_in l) first) lists
      (opened_is_paced held.runs.sizes (entries_of tree.c1) (entries_of tree.c2) (catalogue_of held.runs.catalogue) faults annals.room are)

-- Where the file holds a tree whose lanes are empty, the machine's history begins with the map of that tree.
pub opening_stands : (annals : Book) (faults : ℕ) (held : Held) (numbers : Pace) (tree : Tree) (file : List ℕ) → IsOpened annals faults held → IsOne held → HasPace held numbers
    → AreOf held.runs tree file → tree.lane_a ≡ no_lane → tree.lane_b ≡ no_lane → IsOpening held.runs.sizes held.runs.catalogue.c1.weight
    held.runs.catalogue.c2.weight
    → StandsIn (map_of_tree tree) held (opened held.runs.sizes (entries_of tree.c1) (entries_of tree.c2) (catalogue_of held.runs.catalogue) faults annals.room)
    no_fronts tree file
opening_stands annals faults held numbers tree file is one has of lane_a lane_b opening = record {
  at = record { are_of = of; holds = holds annals faults held tree file is one of lane_a lane_b opening };
  paced = paced annals faults held tree file is one of lane_a lane_b opening;
  numbers = numbers;
  has = has;
  one = one;
  within = opening_fronts held.runs.sizes (entries_weight (entries_of tree.c1)) (entries_weight (entries_of tree.c2)) (are annals faults held tree file is one of lane_a lane_b opening).numbers;
  lanes = record {
    lane_a = subst (λ (l : Lane). IsLane l.entries [] 0) (sym lane_a) empty_lane;
    lane_b = subst (λ (l : Lane). IsLane l.entries [] 0) (sym lane_b) empty_lane;
  };
}
