-- The gears' numbers are those of the lists: when a merge is done, and what it wrote.
use Rattle.std.proofs.Common.{◌≡◌, ◌+◌, ◌≤◌, Bool, cond, true, not, T, None, Option, ap, sym, subst, ◌∙◌, arith}
use Rattle.std.proofs.lemmas.Grind.{common_steps}
use Rattle.std.proofs.lemmas.Bool.Decides.{nat_tests}
use Rattle.std.specs.FinMap.{is_sorted}
use Rattle.std.specs.FinMap.Entries.{same_entries}
use Rattle.std.proofs.lemmas.Cmp.{nat_list_cmp_total}
use Rattle.blsm_model.specs.declared.key.Key.{Key}
use Rattle.blsm_model.specs.Keys.{key_cmp}
use Rattle.record_delta.specs.declared.record.Rec.{Rec}
use Rattle.record_delta.specs.Entries.{AreSorted, Entries, entries_weight, folded_over, is_above, over_any, record_of_key, settled_entries, up_to}
use Rattle.tree_machine.specs.Merges.{Merge}
use Rattle.tree_machine.specs.Layers.{IsMergeOf, IsSound, HasWay, as_base, as_it_is}
use Rattle.blsm_model.specs.Geometry.{c1_mark}
use Rattle.tree_machine.specs.Machine.{Machine, in_pass, in_deep, pass_done, deep_done}
use Rattle.tree_machine.specs.Moves.{output_of}
use Rattle.tree_machine.proofs.FoldLemmas.{holds, tied, find-folded_over, sorted_folded_over}
use Rattle.tree_machine.proofs.MergeLemmas.{find-settled, settled_sorted}
use Rattle.tree_machine.proofs.WriteLemmas.{find-behind, sorted_behind}
use Rattle.tree_machine.proofs.WeightLemmas.{weight_folded, weight_settled}
use Rattle.tree_machine.proofs.QuantumLemmas.{done_weighs, weighs_done}

module _ (merge : Merge) (newer older : Entries) (sorted_newer : AreSorted newer) (sorted_older : AreSorted older) where
  behind_sorted : (es : Entries) → AreSorted es → AreSorted (up_to merge.cursor es)
  behind_sorted es sorted = holds _ (sorted_behind merge.cursor es sorted)

  fold_sorted : is_sorted key_cmp (folded_over (up_to merge.cursor newer) (up_to merge.cursor older)) ≡ true
  fold_sorted = sorted_folded_over (up_to merge.cursor newer) (up_to merge.cursor older) (behind_sorted older sorted_older)

  behind_of : (b : Bool) (n o : Option Rec) → over_any (cond (not b) n None) (cond (not b) o None) ≡ cond b None (over_any n o)
  behind_of b n o = grind (arith, common_steps, nat_tests)

  -- the fold of what both lists have up to the cursor
  find-fold : (q : Key) → record_of_key q (folded_over (up_to merge.cursor newer) (up_to merge.cursor older))
      ≡ cond (is_above merge.cursor q) None (over_any (record_of_key q newer) (record_of_key q older))
  find-fold q =
      find-folded_over (up_to merge.cursor newer) (up_to merge.cursor older) (behind_sorted newer sorted_newer) q
      ∙ ap (λ r. over_any r (record_of_key q (up_to merge.cursor older))) (find-behind merge.cursor newer q)
      ∙ ap (λ r. over_any (cond (not (is_above merge.cursor q)) (record_of_key q newer) None) r) (find-behind merge.cursor older q)
      ∙ behind_of (is_above merge.cursor q) (record_of_key q newer) (record_of_key q older)

  pub pass_wrote : IsMergeOf as_it_is newer older merge → merge.output ≡ folded_over (up_to merge.cursor newer) (up_to merge.cursor older)
  pass_wrote is = same_entries key_cmp nat_list_cmp_total tied merge.output (folded_over (up_to merge.cursor newer) (up_to merge.cursor older))
      (subst T (sym is.sorted) tt) (subst T (sym fold_sorted) tt) (λ q. is.folds q ∙ sym (find-fold q))

  base_of : (b : Bool) (x : Option Rec) → as_base (cond b None x) ≡ cond b None (as_base x)
  base_of b x = grind (arith, common_steps, nat_tests)

  pub deep_wrote : IsMergeOf as_base newer older merge → merge.output ≡ settled_entries (folded_over (up_to merge.cursor newer) (up_to merge.cursor older))
  deep_wrote is = same_entries key_cmp nat_list_cmp_total tied merge.output (settled_entries (folded_over (up_to merge.cursor newer) (up_to merge.cursor older)))
      (subst T (sym is.sorted) tt) (subst T (sym (settled_sorted (folded_over (up_to merge.cursor newer) (up_to merge.cursor older)) fold_sorted)) tt)
      (λ q. is.folds q ∙ sym (find-settled (folded_over (up_to merge.cursor newer) (up_to merge.cursor older)) q fold_sorted ∙ ap as_base (find-fold q)
      ∙ base_of (is_above merge.cursor q) (over_any (record_of_key q newer) (record_of_key q older))))

  -- it weighs no more than was taken
  pub pass_light : IsMergeOf as_it_is newer older merge → entries_weight merge.output ≤ entries_weight (up_to merge.cursor newer) + entries_weight (up_to merge.cursor older)
  pass_light is = omega (arith, ap entries_weight (pass_wrote is), weight_folded (up_to merge.cursor newer) (up_to merge.cursor older) (behind_sorted older sorted_older))

  pub deep_light : IsMergeOf as_base newer older merge → entries_weight merge.output ≤ entries_weight (up_to merge.cursor newer) + entries_weight (up_to merge.cursor older)
  deep_light is = omega (
    arith,
    ap entries_weight (deep_wrote is),
    weight_settled (folded_over (up_to merge.cursor newer) (up_to merge.cursor older)),
    weight_folded (up_to merge.cursor newer) (up_to merge.cursor older) (behind_sorted older sorted_older),
  )

-- ---- of the machine

-- A merge is done just where it has taken the weight of its inputs, and what it wrote weighs no more than it took.
pub pass_taken_when_done : (m : Machine) → IsSound m → pass_done m ≡ true → m.gears.pass_taken ≡ entries_weight m.lists.a + entries_weight m.lists.c1
pass_taken_when_done m sound done = grind (arith, common_steps, nat_tests, done_weighs)

pub pass_done_when_taken : (m : Machine) → IsSound m → in_pass m ≡ true → m.gears.pass_taken ≡ entries_weight m.lists.a + entries_weight m.lists.c1 → pass_done m ≡ true
pass_done_when_taken m sound runs all = grind (arith, common_steps, nat_tests, weighs_done)

pub deep_taken_when_done : (m : Machine) → IsSound m → deep_done m ≡ true → m.gears.deep_taken ≡ m.gears.deep_input
deep_taken_when_done m sound done = grind (arith, common_steps, nat_tests, done_weighs)

pub deep_done_when_taken : (m : Machine) → IsSound m → in_deep m ≡ true → m.gears.deep_taken ≡ m.gears.deep_input → deep_done m ≡ true
deep_done_when_taken m sound runs all = grind (arith, common_steps, nat_tests, weighs_done)

pub pass_runs : (m : Machine) → IsSound m → pass_done m ≡ true → in_pass m ≡ true
pass_runs m sound done = grind (arith, common_steps, nat_tests)

pub deep_runs : (m : Machine) → IsSound m → deep_done m ≡ true → in_deep m ≡ true
deep_runs m sound done = grind (arith, common_steps, nat_tests)

-- no deep merge is cut off where the numbers say so
pub way_by_numbers : (m : Machine) → IsSound m → (in_pass m ≡ true → m.gears.pass_taken ≡ entries_weight m.lists.a + entries_weight m.lists.c1 → c1_mark m.gears.sizes ≤ entries_weight (output_of m.merges.pass)
    → in_deep m ≡ true → m.gears.deep_taken ≡ m.gears.deep_input) → HasWay m
way_by_numbers m sound in_time done heavy = grind (arith, common_steps, nat_tests, deep_done_when_taken, pass_runs, pass_taken_when_done, common_steps, nat_tests)
