-- A quantum of the lists is one of the numbers.
use Rattle.std.proofs.Common.{◌≡◌, ◌∙◌, refl, ap, subst, ℕ, ◌+◌, ◌<◌, ◌≤◌, ◌⊎◌, inl, inr, Bool, true, [], ◌++◌, Some, arith}
use Rattle.std.proofs.lemmas.Grind.{common_steps}
use Rattle.std.proofs.lemmas.Bool.Decides.{nat_tests}
use Rattle.blsm_model.specs.Format.{most_weight}
use Rattle.pacing.specs.Steps.{IsSnow, IsDeep}
use Rattle.record_delta.specs.Entries.{AreSorted, Entries, entries_weight, settled_entries, up_to}
use Rattle.tree_machine.specs.Merges.{Merge, is_empty, cursor_after, quantum_of, moved_on}
use Rattle.tree_machine.specs.Layers.{IsMergeOf, IsPassOver, IsDeepOver, IsPassCounted, IsDeepCounted, IsSound, as_it_is, as_base}
use Rattle.tree_machine.specs.Machine.{Machine}
use Rattle.tree_machine.proofs.MergeLemmas.{groups_sorted, groups_ahead, quantum_keeps, written_as_it_is, written_as_base}
use Rattle.tree_machine.proofs.QuantumLemmas.{quantum_weighs, quantum_enough, quantum_few, done_weighs, weight_parts, took_newer, took_older, light_none}
use Rattle.tree_machine.proofs.NumberLemmas.{pass_light, deep_light}
use Rattle.tree_machine.proofs.LightLemmas.{light_weighs}
use Rattle.paced_tree.specs.Numbers.{taken_of, HasTaken, pace_of}
use Rattle.paced_tree.proofs.Terms.{snow_of, deep_of}

-- ---- of two lists

module _ (quantum : ℕ) (merge : Merge) (newer older : Entries) (sorted_newer : AreSorted newer) (sorted_older : AreSorted older) where
  abbrev groups : Entries
  groups = (quantum_of quantum merge newer older).groups

  abbrev took : ℕ
  took = (quantum_of quantum merge newer older).weight

  -- what lies behind the cursor, and behind the next one
  abbrev was : Entries → ℕ
  was es = entries_weight (up_to merge.cursor es)

  abbrev is_now : Entries → ℕ
  is_now es = entries_weight (up_to (cursor_after merge.cursor groups) es)

  pub enough_taken : (quantum ≤ took) ⊎ ((was newer + was older) + took ≡ entries_weight newer + entries_weight older)
  enough_taken = by (quantum_enough quantum merge newer older sorted_newer sorted_older)
    where
      by : (quantum ≤ took) ⊎ (Rattle.tree_machine.specs.Merges.is_done (moved_on merge groups []) newer older ≡ true) → (quantum ≤ took) ⊎ ((was newer + was older) + took ≡ entries_weight newer + entries_weight older)
      by (inl enough) = inl enough
      by (inr done) = inr (quantum_weighs quantum merge newer older sorted_newer sorted_older ∙ done_weighs (moved_on merge groups []) newer older done)

  pub all_at_most : (was newer + was older) + took ≤ entries_weight newer + entries_weight older
  all_at_most = omega (arith, quantum_weighs quantum merge newer older sorted_newer sorted_older, weight_parts (cursor_after merge.cursor groups) newer, weight_parts (cursor_after merge.cursor groups) older)

  pub newer_rises : was newer ≤ is_now newer
  newer_rises = omega (arith, took_newer quantum merge newer older sorted_newer sorted_older)

  pub older_rises : was older ≤ is_now older
  older_rises = omega (arith, took_older quantum merge newer older sorted_newer sorted_older)

  pub newer_within : is_now newer ≤ entries_weight newer
  newer_within = omega (arith, weight_parts (cursor_after merge.cursor groups) newer)

  pub older_within : is_now older ≤ entries_weight older
  older_within = omega (arith, weight_parts (cursor_after merge.cursor groups) older)

  pub pass_writes : IsMergeOf as_it_is newer older merge → entries_weight (merge.output ++ groups) ≤ (was newer + was older) + took
  pass_writes is =
      let on = quantum_keeps quantum merge newer older sorted_newer sorted_older as_it_is groups refl is
      (written_as_it_is merge.cursor groups (groups_sorted quantum merge newer older sorted_newer sorted_older) (groups_ahead quantum merge newer older sorted_newer sorted_older)) in
      omega (arith, pass_light (moved_on merge groups groups) newer older sorted_newer sorted_older on, quantum_weighs quantum merge newer older sorted_newer sorted_older)

  pub deep_writes : IsMergeOf as_base newer older merge → entries_weight (merge.output ++ settled_entries groups) ≤ (was newer + was older) + took
  deep_writes is =
      let on = quantum_keeps quantum merge newer older sorted_newer sorted_older as_base (settled_entries groups) refl is
      (written_as_base merge.cursor groups (groups_sorted quantum merge newer older sorted_newer sorted_older) (groups_ahead quantum merge newer older sorted_newer sorted_older)) in
      omega (arith, deep_light (moved_on merge groups (settled_entries groups)) newer older sorted_newer sorted_older on, quantum_weighs quantum merge newer older sorted_newer sorted_older)

-- lists of no weight have no group
no_groups : (quantum : ℕ) (merge : Merge) (newer older : Entries) → is_empty newer ≡ true → is_empty older ≡ true → (quantum_of quantum merge newer older).groups ≡ []
no_groups quantum merge newer older h1 h2 = grind (arith, common_steps, nat_tests)

-- a pass whose cursor stands at a key has taken something
pub has_taken_on : (quantum : ℕ) (merge : Merge) (newer older : Entries) (taken : ℕ) → AreSorted newer → AreSorted older → 0 < quantum
    → taken ≡ entries_weight (up_to merge.cursor newer) + entries_weight (up_to merge.cursor older)
    → HasTaken (Some merge) taken → HasTaken (Some (moved_on merge (quantum_of quantum merge newer older).groups (quantum_of quantum merge newer older).groups)) (taken + (quantum_of quantum merge newer older).weight)
has_taken_on quantum merge newer older taken sorted_newer sorted_older some counted started stands =
    by (enough_taken quantum merge newer older sorted_newer sorted_older) (Rattle.std.specs.Prelude.nat_lt 0 (taken + (quantum_of quantum merge newer older).weight)) refl
  where
    by : (quantum ≤ (quantum_of quantum merge newer older).weight) ⊎ ((entries_weight (up_to merge.cursor newer) + entries_weight (up_to merge.cursor older)) + (quantum_of quantum merge newer older).weight ≡ entries_weight newer + entries_weight older)
        → (b : Bool) → Rattle.std.specs.Prelude.nat_lt 0 (taken + (quantum_of quantum merge newer older).weight) ≡ b → 0 < taken + (quantum_of quantum merge newer older).weight
    by h1 b h2 = grind (arith, common_steps, nat_tests, no_groups, light_none)

-- ---- of the machine

pub pass_counted : (m : Machine) (pass : Merge) → m.merges.pass ≡ Some pass → IsSound m
    → (m.gears.pass ≡ true) × (m.gears.pass_c1 ≡ entries_weight m.lists.c1) × (m.gears.pass_taken ≡ entries_weight (up_to pass.cursor m.lists.a) + entries_weight (up_to pass.cursor m.lists.c1))
pass_counted m pass is sound = subst (λ p. IsPassCounted m.lists.a m.lists.c1 m.gears.pass m.gears.pass_c1 m.gears.pass_memory m.gears.pass_admitted m.gears.pass_taken p) is sound.pass

pub deep_counted : (m : Machine) (deep : Merge) → m.merges.deep ≡ Some deep → IsSound m
    → (m.gears.deep ≡ true) × (m.gears.deep_input ≡ entries_weight m.lists.c1x + entries_weight m.lists.c2) × (m.gears.deep_taken ≡ entries_weight (up_to deep.cursor m.lists.c1x) + entries_weight (up_to deep.cursor m.lists.c2))
deep_counted m deep is sound = subst (λ p. IsDeepCounted m.lists.c1x m.lists.c2 m.gears.deep m.gears.deep_input m.gears.deep_admitted m.gears.deep_taken p) is sound.deep

pub snow_is : (m : Machine) (pass : Merge) → m.merges.pass ≡ Some pass → IsSound m → 1 ≤ m.gears.sizes.quantum → IsSnow (pace_of m) (snow_of (Some pass) m)
snow_is m pass is sound some =
    let counted = pass_counted m pass is sound in
    let over = subst (λ p. IsPassOver m.lists p) is sound.layered.pass in
    let taken : taken_of m.merges.pass m.lists.a ≡ entries_weight (up_to pass.cursor m.lists.a) = ap (λ p. taken_of p m.lists.a) is in
    let most = all_at_most m.gears.sizes.quantum pass m.lists.a m.lists.c1 sound.layered.sorted_a sound.layered.sorted_c1 in
    let up = newer_rises m.gears.sizes.quantum pass m.lists.a m.lists.c1 sound.layered.sorted_a sound.layered.sorted_c1 in
    let up_older = older_rises m.gears.sizes.quantum pass m.lists.a m.lists.c1 sound.layered.sorted_a sound.layered.sorted_c1 in
    let within = newer_within m.gears.sizes.quantum pass m.lists.a m.lists.c1 sound.layered.sorted_a sound.layered.sorted_c1 in
    let within_older = older_within m.gears.sizes.quantum pass m.lists.a m.lists.c1 sound.layered.sorted_a sound.layered.sorted_c1 in
    let weighs = quantum_weighs m.gears.sizes.quantum pass m.lists.a m.lists.c1 sound.layered.sorted_a sound.layered.sorted_c1 in (
      record {
        enough = enough counted.2 (enough_taken m.gears.sizes.quantum pass m.lists.a m.lists.c1 sound.layered.sorted_a sound.layered.sorted_c1);
        few = quantum_few m.gears.sizes.quantum most_weight pass m.lists.a m.lists.c1 some (light_weighs m.lists.a sound.light.a) (light_weighs m.lists.c1 sound.light.c1);
        left = omega (arith, counted.2, most);
        written = omega (arith, counted.2, pass_writes m.gears.sizes.quantum pass m.lists.a m.lists.c1 sound.layered.sorted_a sound.layered.sorted_c1 over);
      },
      omega (arith, up, up_older, weighs),
      omega (arith, taken, up, within),
      omega (arith, taken, counted.2, up, within_older, weighs),
    )
  where
    enough : m.gears.pass_taken ≡ entries_weight (up_to pass.cursor m.lists.a) + entries_weight (up_to pass.cursor m.lists.c1)
        → (m.gears.sizes.quantum ≤ (quantum_of m.gears.sizes.quantum pass m.lists.a m.lists.c1).weight)
        ⊎ ((entries_weight (up_to pass.cursor m.lists.a) + entries_weight (up_to pass.cursor m.lists.c1)) + (quantum_of m.gears.sizes.quantum pass m.lists.a m.lists.c1).weight ≡ entries_weight m.lists.a + entries_weight m.lists.c1)
        → (m.gears.sizes.quantum ≤ (quantum_of m.gears.sizes.quantum pass m.lists.a m.lists.c1).weight)
        ⊎ (m.gears.pass_taken + (quantum_of m.gears.sizes.quantum pass m.lists.a m.lists.c1).weight ≡ entries_weight m.lists.a + entries_weight m.lists.c1)
    enough h1 h2 = grind (arith, common_steps, nat_tests)

pub deep_is : (m : Machine) (deep : Merge) → m.merges.deep ≡ Some deep → IsSound m → 1 ≤ m.gears.sizes.quantum → IsDeep (pace_of m) (deep_of (Some deep) m)
deep_is m deep is sound some =
    let counted = deep_counted m deep is sound in
    let over = subst (λ p. IsDeepOver m.lists p) is sound.layered.deep in
    let most = all_at_most m.gears.sizes.quantum deep m.lists.c1x m.lists.c2 sound.layered.sorted_c1x sound.layered.sorted_c2 in
    record {
      enough = enough counted.2 (enough_taken m.gears.sizes.quantum deep m.lists.c1x m.lists.c2 sound.layered.sorted_c1x sound.layered.sorted_c2);
      few = quantum_few m.gears.sizes.quantum most_weight deep m.lists.c1x m.lists.c2 some (light_weighs m.lists.c1x sound.light.c1x) (light_weighs m.lists.c2 sound.light.c2);
      left = omega (arith, counted.2, most);
      written = omega (arith, counted.2, deep_writes m.gears.sizes.quantum deep m.lists.c1x m.lists.c2 sound.layered.sorted_c1x sound.layered.sorted_c2 over);
    }
  where
    enough : m.gears.deep_taken ≡ entries_weight (up_to deep.cursor m.lists.c1x) + entries_weight (up_to deep.cursor m.lists.c2)
        → (m.gears.sizes.quantum ≤ (quantum_of m.gears.sizes.quantum deep m.lists.c1x m.lists.c2).weight)
        ⊎ ((entries_weight (up_to deep.cursor m.lists.c1x) + entries_weight (up_to deep.cursor m.lists.c2)) + (quantum_of m.gears.sizes.quantum deep m.lists.c1x m.lists.c2).weight ≡ entries_weight m.lists.c1x + entries_weight m.lists.c2)
        → (m.gears.sizes.quantum ≤ (quantum_of m.gears.sizes.quantum deep m.lists.c1x m.lists.c2).weight)
        ⊎ (m.gears.deep_taken + (quantum_of m.gears.sizes.quantum deep m.lists.c1x m.lists.c2).weight ≡ entries_weight m.lists.c1x + entries_weight m.lists.c2)
    enough h1 h2 = grind (arith, common_steps, nat_tests)
