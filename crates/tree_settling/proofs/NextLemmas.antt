-- The tree that a swap makes fits as the tree before it did, and has the same map.
use Rattle.std.proofs.Common.{◌≡◌, ◌∙◌, ℕ, ◌+◌, ◌≤◌, ◌<◌, Bool, true, false, List, [], refl, ap, sym, subst, arith, length, take}
use Rattle.std.proofs.Math.Seq.{take-nil, take-length}
use Rattle.blsm_model.specs.Sizes.{Sizes}
use Rattle.blsm_model.specs.Geometry.{c1_mark, capacity}
use Rattle.blsm_model.specs.declared.key.Key.{Key}
use Rattle.blsm_model.specs.declared.row.Value.{Value}
use Rattle.record_delta.specs.Entries.{Entries, entries_weight, folded_over, replayed, settled_entries}
use Rattle.record_delta.specs.Replays.{ReplaysWithin}
use Rattle.gated_log.specs.Lane.{Lane, no_lane}
use Rattle.page_file.specs.Component.{RunPage, entries_of}
use Rattle.tree_file.specs.Tree.{Tree, HoldsTree, FitsSizes, ReadsAsMap, components_weight, lists_of, map_of_tree}
use Rattle.tree_file.proofs.ListLemmas.{lists_sorted}
use Rattle.tree_machine.specs.Lists.{Lists, map_in}
use Rattle.tree_machine.proofs.FoldLemmas.{sorted_folded_over}
use Rattle.tree_machine.proofs.MergeLemmas.{settled_sorted}
use Rattle.tree_machine.proofs.WeightLemmas.{weight_folded, weight_settled}
use Rattle.tree_runs.specs.Holding.{IsDeepSwapped, IsPassSwapped}
use Rattle.tree_settling.proofs.MapLemmas.{AreFive, same_map, deep_values, pass_values}

-- what another tree keeps
pub record Follows (sizes : Sizes) (old new : Tree) : Type 0 where
  pub fits : FitsSizes sizes new
  pub map_is : map_of_tree new ≡ map_of_tree old

pub reads_next : (sizes : Sizes) (old new : Tree) (pairs : List (Key × Value)) (file : List ℕ) → Follows sizes old new → map_of_tree old ≡ pairs → HoldsTree sizes new file → ReadsAsMap sizes pairs file
reads_next sizes old new pairs file follows is holds = record { tree = new; holds = holds; fits = follows.fits; map_is = follows.map_is ∙ is }

five_lists : (sizes : Sizes) (tree : Tree) (file : List ℕ) → HoldsTree sizes tree file → AreFive (lists_of tree)
five_lists sizes tree file holds = let sorted = lists_sorted sizes tree file holds in record { b = sorted.0; a = sorted.1; c1 = sorted.2; c1x = sorted.3; c2 = sorted.4 }

-- ---- replays

-- of the same lanes, over components that weigh no more
replays_lighter : (sizes : Sizes) (more less : ℕ) (a b : Entries) → less ≤ more → ReplaysWithin sizes more a b → ReplaysWithin sizes less a b
replays_lighter sizes more less a b light within = record {
  high_a = within.high_a;
  full_a = λ n. omega (arith, within.full_a n, light);
  high_b = within.high_b;
  full_b = λ n. omega (arith, within.full_b n, light);
}

-- of lane B alone, over components that table A may have joined
replays_turned : (sizes : Sizes) (more less : ℕ) (a b : Entries) → less ≤ more + entries_weight (replayed a) → ReplaysWithin sizes more a b → ReplaysWithin sizes less b []
replays_turned sizes more less a b light within = record {
  high_a = λ n. omega (arith, within.high_b n);
  full_a = λ n. omega (arith, within.full_b n, light);
  high_b = λ n. omega (arith, none n, whole, within.high_b (length b));
  full_b = λ n. omega (arith, none n, whole, within.full_b (length b), light);
}
  where
    none : (n : ℕ) → entries_weight (replayed (take n [])) ≡ 0
    none n = ap (λ (es : Entries). entries_weight (replayed es)) (take-nil n)

    whole : entries_weight (replayed (take (length b) b)) ≡ entries_weight (replayed b)
    whole = ap (λ (es : Entries). entries_weight (replayed es)) (take-length b)

-- ---- a deep merge

abbrev merged : Lists → Lists
merged lists = record { b = lists.b; a = lists.a; c1 = lists.c1; c1x = []; c2 = settled_entries (folded_over lists.c1x lists.c2) }

pub deep_follows : (sizes : Sizes) (old new : Tree) (file : List ℕ) → HoldsTree sizes old file → FitsSizes sizes old → IsDeepSwapped old new → Follows sizes old new
deep_follows sizes old new file holds fits swapped = record {
  fits = record {
    mark = omega (arith, ap (λ (ps : List RunPage). entries_weight (entries_of ps)) swapped.c1, fits.mark);
    full = omega (arith, light, fits.full);
    replays = subst (λ (l : Lane). ReplaysWithin sizes (components_weight new) l.entries new.lane_b.entries) (sym swapped.lane_a)
        (subst (λ (l : Lane). ReplaysWithin sizes (components_weight new) old.lane_a.entries l.entries) (sym swapped.lane_b)
        (replays_lighter sizes (components_weight old) (components_weight new) old.lane_a.entries old.lane_b.entries light fits.replays));
  };
  map_is =
      ap map_in lists_are
      ∙ same_map (lists_of old) (merged (lists_of old)) five
      (record { b = five.b; a = five.a; c1 = five.c1; c1x = refl; c2 = settled_sorted (folded_over (lists_of old).c1x (lists_of old).c2) (sorted_folded_over (lists_of old).c1x (lists_of old).c2 five.c2) })
      (deep_values (lists_of old) five);
}
  where
    five : AreFive (lists_of old)
    five = five_lists sizes old file holds

    lists_are : lists_of new ≡ merged (lists_of old)
    lists_are = λ i. record {
      b = replayed (swapped.lane_b i).entries;
      a = replayed (swapped.lane_a i).entries;
      c1 = entries_of (swapped.c1 i);
      c1x = entries_of (swapped.c1x i);
      c2 = swapped.c2 i;
    }

    light : components_weight new ≤ components_weight old
    light =
        omega (
          arith,
          ap (λ (ps : List RunPage). entries_weight (entries_of ps)) swapped.c1,
          ap (λ (ps : List RunPage). entries_weight (entries_of ps)) swapped.c1x,
          ap entries_weight swapped.c2,
          weight_settled (folded_over (lists_of old).c1x (lists_of old).c2),
          weight_folded (lists_of old).c1x (lists_of old).c2 five.c2,
        )

-- ---- a pass

abbrev passed : Lists → Lists
passed lists = record { b = []; a = lists.b; c1 = folded_over lists.a lists.c1; c1x = []; c2 = lists.c2 }

-- It is C1's place or that of C1', which is empty, that the fold of table A over C1 takes: C1's only where it is below the mark.
pub pass_follows : (rotates : Bool) (sizes : Sizes) (old new : Tree) (file : List ℕ) → HoldsTree sizes old file → FitsSizes sizes old → old.c1x ≡ []
    → (rotates ≡ false → entries_weight (folded_over (replayed old.lane_a.entries) (entries_of old.c1)) < c1_mark sizes) → IsPassSwapped rotates old new
    → Follows sizes old new
pass_follows rotates sizes old new file holds fits none below swapped = by rotates below swapped
  where
    five : AreFive (lists_of old)
    five = five_lists sizes old file holds

    light_fold : entries_weight (folded_over (replayed old.lane_a.entries) (entries_of old.c1)) ≤ entries_weight
        (replayed old.lane_a.entries) + entries_weight (entries_of old.c1)
    light_fold = weight_folded (replayed old.lane_a.entries) (entries_of old.c1) five.c1

    room : components_weight old + entries_weight (replayed old.lane_a.entries) ≤ capacity sizes
    room = omega (arith, fits.replays.full_b 0)

    same : map_in (passed (lists_of old)) ≡ map_of_tree old
    same =
        same_map (lists_of old) (passed (lists_of old)) five
        (record {
          b = refl;
          a = five.b;
          c1 = sorted_folded_over (replayed old.lane_a.entries) (entries_of old.c1) five.c1;
          c1x = refl;
          c2 = five.c2;
        })
        (pass_values (lists_of old) five (ap entries_of none))

    replays : {lane_a lane_b : Lane} → lane_a ≡ old.lane_b → lane_b ≡ no_lane
        → components_weight new ≤ components_weight old + entries_weight (replayed old.lane_a.entries)
        → ReplaysWithin sizes (components_weight new) lane_a.entries lane_b.entries
    replays {lane_a} {lane_b} is_a is_b light =
        subst (λ (l : Lane). ReplaysWithin sizes (components_weight new) l.entries lane_b.entries) (sym is_a)
        (subst (λ (l : Lane). ReplaysWithin sizes (components_weight new) old.lane_b.entries l.entries) (sym is_b)
        (replays_turned sizes (components_weight old) (components_weight new) old.lane_a.entries old.lane_b.entries light fits.replays))

    by : (b : Bool) → (b ≡ false → entries_weight (folded_over (replayed old.lane_a.entries) (entries_of old.c1)) < c1_mark sizes) → IsPassSwapped b old new
        → Follows sizes old new
    by true below swapped =
        let light : components_weight new ≤ components_weight old + entries_weight (replayed old.lane_a.entries) =
        omega (arith, ap entries_weight swapped.c1, ap entries_weight swapped.c1x, ap (λ (ps : List RunPage). entries_weight (entries_of ps)) swapped.c2, light_fold) in
        record {
          fits = record { mark = omega (arith, ap entries_weight swapped.c1, fits.mark); full = omega (arith, light, room); replays = replays swapped.lane_a swapped.lane_b light };
          map_is = (λ i. map_in (record {
            b = replayed (swapped.lane_b i).entries;
            a = replayed (swapped.lane_a i).entries;
            c1 = swapped.c1 i;
            c1x = swapped.c1x i;
            c2 = entries_of (swapped.c2 i);
          })) ∙ same;
        }
    by false below swapped =
        let light : components_weight new ≤ components_weight old + entries_weight (replayed old.lane_a.entries) =
        omega (arith, ap entries_weight swapped.c1, ap entries_weight swapped.c1x, ap (λ (ps : List RunPage). entries_weight (entries_of ps)) swapped.c2, light_fold) in
        let empty : entries_of new.c1x ≡ [] = swapped.c1x ∙ ap entries_of none in
        record {
          fits = record { mark = omega (arith, ap entries_weight swapped.c1, below refl); full = omega (arith, light, room); replays = replays swapped.lane_a swapped.lane_b light };
          map_is = (λ i. map_in (record {
            b = replayed (swapped.lane_b i).entries;
            a = replayed (swapped.lane_a i).entries;
            c1 = swapped.c1 i;
            c1x = empty i;
            c2 = entries_of (swapped.c2 i);
          })) ∙ same;
        }
