-- A quantum of either merge, over lists.
use Rattle.std.proofs.Common.{◌≡◌, ◌∙◌, ℕ, ◌<◌, true, Option, Some, None, refl, ap, sym, subst}
use Rattle.std.proofs.lemmas.Grind.{common_steps}
use Rattle.std.proofs.lemmas.Bool.Decides.{nat_tests}
use Rattle.std.proofs.Common.{arith}
use Rattle.blsm_model.specs.Sizes.{Sizes}
use Rattle.blsm_model.specs.declared.key.Key.{Key}
use Rattle.record_delta.specs.Entries.{Entries, is_above, replayed}
use Rattle.page_file.specs.Component.{entries_of}
use Rattle.gear_sched.specs.Gears.{GearState}
use Rattle.merge_ends.specs.Quantum.{IsQuantum}
use Rattle.snow_merge.specs.Pass.{SnowState}
use Rattle.deep_merge.specs.Merge.{DeepState}
use Rattle.tree_machine.specs.Merges.{Merge, cursor_after, quantum_of}
use Rattle.tree_machine.specs.Moves.{pass_quantum_of, deep_quantum_of, pass_quantum, deep_quantum}
use Rattle.tree_runs.specs.Holding.{PassTakes, PassTook, DeepTakes, DeepTook, AreOf}
use Rattle.tree_runs.proofs.QuantaLemmas.{quanta_agree}
use Rattle.core_lists.specs.Standing.{HoldsMachine, IsPassAt, IsDeepAt}
use Rattle.core_lists.proofs.WeighLemmas.{list_a, list_c1, list_c1x, list_c2}
use Rattle.std.specs.Prelude.{List}
use Rattle.tree_machine.specs.Layers.{IsSound}
use Rattle.tree_machine.specs.Machine.{Machine}
use Rattle.tree_file.specs.Tree.{Tree}
use Rattle.tree_log.specs.Log.{IsLogOf}
use Rattle.tree_log.proofs.RestLemmas.{dropped_by_is_of}
use Rattle.tree_runs.specs.Runs.{released_by}
use Rattle.core_moves.specs.declared.held.Held.{Held}
use Rattle.core_moves.specs.Held.{IsOne}
use Rattle.core_moves.specs.Moves.{TakesOfPass, TakesOfDeep}
use Rattle.core_lists.proofs.Terms.{IsAt}
use Rattle.tree_runs.proofs.Terms.{IsOnward}

-- a quantum over the same numbers, cursor and lists
same_quantum : (least least2 : ℕ) (from from2 to : Option Key) (newer newer2 older older2 : Entries) (n : ℕ) → least ≡ least2 → from ≡ from2 → newer ≡ newer2 → older ≡ older2
    → IsQuantum least from to newer older n → IsQuantum least2 from2 to newer2 older2 n
same_quantum least least2 from from2 to newer newer2 older older2 n l f a b is = grind (arith, common_steps, nat_tests)

pub pass_quantum_lands : (seat n : ℕ) (old new : Held) (tree : Tree) (m : Machine) (file after : List ℕ) → IsAt old tree m file → IsSound m → IsOne old → 0 < old.runs.sizes.quantum
    → TakesOfPass seat n old new → PassTook old.runs.sizes.quantum old.runs.pass new.runs.pass (replayed tree.lane_a.entries) (entries_of tree.c1) n
    → AreOf new.runs tree after → IsAt new tree (pass_quantum seat m) after
pass_quantum_lands seat n old new tree m file after at sound one positive moves took are_of =
    record { are_of = are_of; holds = by m.merges.pass old.runs.pass new.runs.pass refl at.holds.pass moves.takes took }
  where
    least_is : old.runs.sizes.quantum ≡ m.gears.sizes.quantum
    least_is = sym (ap (λ (s : Sizes). s.quantum) (ap (λ (g : GearState). g.sizes) at.holds.gears ∙ one.gears))

    moved : (pass : Merge) (snow next : SnowState) → new.runs.pass ≡ Some next → next.at ≡ cursor_after pass.cursor (quantum_of m.gears.sizes.quantum pass m.lists.a m.lists.c1).groups
        → n ≡ (quantum_of m.gears.sizes.quantum pass m.lists.a m.lists.c1).weight → HoldsMachine new tree (pass_quantum_of (Some pass) seat m)
    moved pass snow next is comes weighs =
        record {
          lists = grind (arith, common_steps, nat_tests);
          of_log = subst (IsLogOf tree) (sym moves.log) (dropped_by_is_of (released_by new.runs.pass) tree old.log at.holds.of_log);
          pass = grind (arith, common_steps, nat_tests);
          deep = grind (arith, common_steps, nat_tests);
          gears = grind (arith, common_steps, nat_tests);
          spring = grind (arith, common_steps, nat_tests);
          catalogue = grind (arith, common_steps, nat_tests);
          book = grind (arith, common_steps, nat_tests);
        }

    by : (p : Option Merge) (o q : Option SnowState) → new.runs.pass ≡ q → IsPassAt p o → PassTakes old.runs.sizes.quantum o q old.log.a.entries n
        → PassTook old.runs.sizes.quantum o q (replayed tree.lane_a.entries) (entries_of tree.c1) n
        → HoldsMachine new tree (pass_quantum_of p seat m)
    by None None None is comes takes took = absurd takes
    by None None (Some next) is comes takes took = absurd takes
    by None (Some snow) None is comes takes took = absurd takes
    by None (Some snow) (Some next) is comes takes took = absurd comes
    by (Some pass) None None is comes takes took = absurd comes
    by (Some pass) None (Some next) is comes takes took = absurd comes
    by (Some pass) (Some snow) None is comes takes took = absurd takes
    by (Some pass) (Some snow) (Some next) is comes takes took =
        let onward : IsOnward pass.cursor next.at = λ (key : Key) past. subst (λ (k : Option Key). is_above k key ≡ true) (sym comes) (takes.takes.onward key past) in
        let agree = quanta_agree m.gears.sizes.quantum pass next.at m.lists.a m.lists.c1 n (subst (λ (k : ℕ). 0 < k) least_is positive) sound.layered.sorted_a sound.layered.sorted_c1 onward
        (same_quantum old.runs.sizes.quantum m.gears.sizes.quantum snow.at pass.cursor next.at (replayed tree.lane_a.entries) m.lists.a
        (entries_of tree.c1) m.lists.c1 n least_is (sym comes) (sym (list_a old tree m at.holds)) (sym (list_c1 old tree m file at)) took) in
        moved pass snow next is agree.1 agree.0

pub deep_quantum_lands : (seat n : ℕ) (old new : Held) (tree : Tree) (m : Machine) (file after : List ℕ) → IsAt old tree m file → IsSound m → old.gears.sizes ≡ old.runs.sizes → 0 < old.runs.sizes.quantum
    → TakesOfDeep seat n old new → DeepTook old.runs.sizes.quantum old.runs.deep new.runs.deep (entries_of tree.c1x) (entries_of tree.c2) n
    → AreOf new.runs tree after → IsAt new tree (deep_quantum seat m) after
deep_quantum_lands seat n old new tree m file after at sound sizes positive moves took are_of =
    record { are_of = are_of; holds = by m.merges.deep old.runs.deep new.runs.deep refl at.holds.deep moves.takes took }
  where
    least_is : old.runs.sizes.quantum ≡ m.gears.sizes.quantum
    least_is = sym (ap (λ (s : Sizes). s.quantum) (ap (λ (g : GearState). g.sizes) at.holds.gears ∙ sizes))

    moved : (deep : Merge) (merge next : DeepState) → new.runs.deep ≡ Some next → next.at ≡ cursor_after deep.cursor (quantum_of m.gears.sizes.quantum deep m.lists.c1x m.lists.c2).groups
        → n ≡ (quantum_of m.gears.sizes.quantum deep m.lists.c1x m.lists.c2).weight → HoldsMachine new tree (deep_quantum_of (Some deep) seat m)
    moved deep merge next is comes weighs =
        record {
          lists = grind (arith, common_steps, nat_tests);
          of_log = subst (IsLogOf tree) (sym moves.log) at.holds.of_log;
          pass = grind (arith, common_steps, nat_tests);
          deep = grind (arith, common_steps, nat_tests);
          gears = grind (arith, common_steps, nat_tests);
          spring = grind (arith, common_steps, nat_tests);
          catalogue = grind (arith, common_steps, nat_tests);
          book = grind (arith, common_steps, nat_tests);
        }

    by : (p : Option Merge) (o q : Option DeepState) → new.runs.deep ≡ q → IsDeepAt p o → DeepTakes old.runs.sizes.quantum o q n → DeepTook old.runs.sizes.quantum o q (entries_of tree.c1x) (entries_of tree.c2) n
        → HoldsMachine new tree (deep_quantum_of p seat m)
    by None None None is comes takes took = absurd takes
    by None None (Some next) is comes takes took = absurd takes
    by None (Some merge) None is comes takes took = absurd takes
    by None (Some merge) (Some next) is comes takes took = absurd comes
    by (Some deep) None None is comes takes took = absurd comes
    by (Some deep) None (Some next) is comes takes took = absurd comes
    by (Some deep) (Some merge) None is comes takes took = absurd takes
    by (Some deep) (Some merge) (Some next) is comes takes took =
        let onward : IsOnward deep.cursor next.at = λ (key : Key) past. subst (λ (k : Option Key). is_above k key ≡ true) (sym comes) (takes.takes.onward key past) in
        let agree = quanta_agree m.gears.sizes.quantum deep next.at m.lists.c1x m.lists.c2 n (subst (λ (k : ℕ). 0 < k) least_is positive) sound.layered.sorted_c1x sound.layered.sorted_c2 onward
        (same_quantum old.runs.sizes.quantum m.gears.sizes.quantum merge.at deep.cursor next.at (entries_of tree.c1x) m.lists.c1x (entries_of tree.c2) m.lists.c2 n
        least_is (sym comes) (sym (list_c1x old tree m file at)) (sym (list_c2 old tree m file at)) took) in
        moved deep merge next is agree.1 agree.0
