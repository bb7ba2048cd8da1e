-- Lists whose keys have the same values have the same map.
use Rattle.std.proofs.Common.{◌≡◌, ◌∙◌, [], None, Option, refl, ap, sym}
use Rattle.std.proofs.lemmas.Grind.{common_steps}
use Rattle.std.proofs.lemmas.Bool.Decides.{nat_tests}
use Rattle.std.proofs.Common.{arith}
use Rattle.std.specs.FinMap.{find}
use Rattle.std.specs.FinMap.Entries.{same_entries}
use Rattle.std.proofs.lemmas.Cmp.{nat_list_cmp_total}
use Rattle.blsm_model.specs.declared.key.Key.{Key}
use Rattle.blsm_model.specs.Keys.{key_cmp}
use Rattle.record_delta.specs.declared.record.Rec.{Rec}
use Rattle.record_delta.specs.Records.{settled}
use Rattle.record_delta.specs.Entries.{AreSorted, Entries, folded_over, over_any, record_of_key, settled_entries}
use Rattle.tree_machine.specs.Lists.{Lists, map_in, record_at, value_in}
use Rattle.tree_machine.specs.Layers.{as_base}
use Rattle.tree_machine.proofs.FoldLemmas.{over_any_assoc, find-folded_over, sorted_folded_over, tied}
use Rattle.tree_machine.proofs.MapLemmas.{find-map_in, sorted_map_in}
use Rattle.tree_machine.proofs.MergeLemmas.{find-settled}

-- five sorted lists
pub record AreFive (lists : Lists) : Type 0 where
  pub b : AreSorted lists.b
  pub a : AreSorted lists.a
  pub c1 : AreSorted lists.c1
  pub c1x : AreSorted lists.c1x
  pub c2 : AreSorted lists.c2

-- one list of all
all_folded : Lists → Entries
all_folded lists = folded_over lists.b (folded_over lists.a (folded_over lists.c1 (folded_over lists.c1x lists.c2)))

find-all : (lists : Lists) → AreFive lists → (q : Key) → record_of_key q (all_folded lists) ≡ record_at lists q
unfolding all_folded
find-all lists five q =
    find-folded_over lists.b (folded_over lists.a (folded_over lists.c1 (folded_over lists.c1x lists.c2))) five.b q
    ∙ ap (over_any (record_of_key q lists.b)) (
    find-folded_over lists.a (folded_over lists.c1 (folded_over lists.c1x lists.c2)) five.a q
    ∙ ap (over_any (record_of_key q lists.a)) (
    find-folded_over lists.c1 (folded_over lists.c1x lists.c2) five.c1 q
    ∙ ap (over_any (record_of_key q lists.c1)) (find-folded_over lists.c1x lists.c2 five.c1x q)))

-- their map is that of this one list
find-map : (lists : Lists) → AreFive lists → (q : Key) → find key_cmp q (map_in lists) ≡ value_in lists q
unfolding all_folded
find-map lists five q =
    find-map_in (record { b = []; a = []; c1 = []; c1x = []; c2 = all_folded lists }) (record { pass = None; deep = None })
    (record {
      sorted_b = refl;
      sorted_a = refl;
      sorted_c1 = refl;
      sorted_c1x = refl;
      sorted_c2 =
          sorted_folded_over lists.b (folded_over lists.a (folded_over lists.c1 (folded_over lists.c1x lists.c2)))
          (sorted_folded_over lists.a (folded_over lists.c1 (folded_over lists.c1x lists.c2))
          (sorted_folded_over lists.c1 (folded_over lists.c1x lists.c2) (sorted_folded_over lists.c1x lists.c2 five.c2)));
      pass = refl;
      deep = refl;
    })
    q
    ∙ ap settled (find-all lists five q)

pub same_map : (old new : Lists) → AreFive old → AreFive new → ((q : Key) → value_in new q ≡ value_in old q) → map_in new ≡ map_in old
same_map old new five five' values =
    same_entries key_cmp nat_list_cmp_total tied (map_in new) (map_in old) (sorted_map_in new) (sorted_map_in old)
    (λ q. find-map new five' q ∙ values q ∙ sym (find-map old five q))

-- ---- what the merges change

-- the records of the two tables, of C1, of C1' and of C2
abbrev five_of : (b a c1 c1x c2 : Option Rec) → Option Rec
five_of b a c1 c1x c2 = over_any b (over_any a (over_any c1 (over_any c1x c2)))

five_deep : (b a c1 c1x c2 : Option Rec) → settled (five_of b a c1 None (as_base (over_any c1x c2))) ≡ settled (five_of b a c1 c1x c2)
five_deep b a c1 c1x c2 = grind (arith, common_steps, nat_tests)

-- C1' and C2 give place to the bases of their values
pub deep_values : (lists : Lists) → AreFive lists → (q : Key)
    → value_in (record { b = lists.b; a = lists.a; c1 = lists.c1; c1x = []; c2 = settled_entries (folded_over lists.c1x lists.c2) }) q ≡ value_in lists q
deep_values lists five q = grind (arith, common_steps, nat_tests, find-settled, sorted_folded_over, find-folded_over, five_deep)

-- Table A and C1 give place to their fold, which is C1 or, where there is no C1', C1'; table B is table A.
pub pass_values : (lists : Lists) → AreFive lists → lists.c1x ≡ [] → (q : Key)
    → value_in (record { b = []; a = lists.b; c1 = folded_over lists.a lists.c1; c1x = []; c2 = lists.c2 }) q ≡ value_in lists q
pass_values lists five none q = grind (arith, common_steps, nat_tests, find-folded_over, over_any_assoc)
