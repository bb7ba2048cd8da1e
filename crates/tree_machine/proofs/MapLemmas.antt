-- The map of the lists, and its rows.
use Rattle.std.proofs.Common.{◌≡◌, inl, inr, cond, T, List, [], ◌∷◌, Some, None, Option, refl, ap, sym, ◌∙◌, map}
use Rattle.std.specs.Ordering.{eq_by_cmp}
use Rattle.std.specs.FinMap.{is_sorted, find}
use Rattle.std.specs.FinMap.Entries.{below_all, same_entries, find-put, is_sorted-put}
use Rattle.std.specs.List.{filter}
use Rattle.std.proofs.lemmas.Cmp.{nat_list_cmp_total}
use Rattle.blsm_model.specs.declared.key.Key.{Key}
use Rattle.blsm_model.specs.declared.row.Value.{Value}
use Rattle.blsm_model.specs.declared.op.Write.{Write}
use Rattle.blsm_model.specs.Keys.{key_cmp, in_range}
use Rattle.blsm_model.specs.Rows.{map_of, rows, with_value}
use Rattle.blsm_model.specs.Values.{value_at}
use Rattle.blsm_model.proofs.RowLemmas.{find-map_of, is_sorted-map_of}
use Rattle.record_delta.specs.Records.{settle, settled}
use Rattle.record_delta.specs.Entries.{AreSorted, Entries, folded_over, over_any, record_of_key}
use Rattle.tree_machine.specs.Lists.{Lists, record_at, value_in, settled_pairs, map_in, rows_in}
use Rattle.tree_machine.specs.Layers.{AreLayered}
use Rattle.tree_machine.specs.Machine.{Merges}
use Rattle.tree_machine.proofs.FoldLemmas.{by_test, both_hold, tied, equal_of, below_none, find-folded_over, sorted_folded_over}

sorted_with_value : (key : Key) (v : Option Value) (pairs : List (Key × Value)) → T (is_sorted key_cmp pairs) → T (is_sorted key_cmp (with_value key v pairs))
sorted_with_value key None pairs sorted = sorted
sorted_with_value key (Some v) pairs sorted = is_sorted-put key_cmp nat_list_cmp_total key v pairs sorted

sorted_pairs : (es : Entries) → T (is_sorted key_cmp (settled_pairs es))
sorted_pairs [] = tt
sorted_pairs (e ∷ es) = sorted_with_value e.0 (settle e.1) (settled_pairs es) (sorted_pairs es)

find-pairs : (es : Entries) (q : Key) → AreSorted es → find key_cmp q (settled_pairs es) ≡ settled (record_of_key q es)
find-pairs [] q sorted = refl
find-pairs (e ∷ es) q sorted =
    let parts = both_hold (below_all key_cmp e.0 es) (is_sorted key_cmp es) sorted in
    by (settle e.1) refl (below_none e.0 es parts.0) (find-pairs es q parts.1)
  where
    by : (v : Option Value) → settle e.1 ≡ v → record_of_key e.0 es ≡ None → find key_cmp q (settled_pairs es) ≡ settled (record_of_key q es)
        → find key_cmp q (with_value e.0 v (settled_pairs es)) ≡ settled (cond (eq_by_cmp key_cmp q e.0) (Some e.1) (record_of_key q es))
    by None is none rest = rest ∙ elim (by_test (eq_by_cmp key_cmp q e.0)) [
      | inl same ↦
          ap (λ k. settled (record_of_key k es)) (tied q e.0 (equal_of (key_cmp q e.0) same)) ∙ ap settled none ∙ sym is
          ∙ ap (λ b. settled (cond b (Some e.1) (record_of_key q es))) (sym same)
      | inr apart ↦ ap (λ b. settled (cond b (Some e.1) (record_of_key q es))) (sym apart)
    ]
    by (Some v) is none rest =
        find-put key_cmp nat_list_cmp_total q e.0 v (settled_pairs es)
        ∙ ap (λ r. cond (eq_by_cmp key_cmp q e.0) (Some v) r) rest
        ∙ elim (by_test (eq_by_cmp key_cmp q e.0)) [
          | inl same ↦ ap (λ b. cond b (Some v) (settled (record_of_key q es))) same ∙ sym is ∙ ap (λ b. settled (cond b (Some e.1) (record_of_key q es))) (sym same)
          | inr apart ↦ ap (λ b. cond b (Some v) (settled (record_of_key q es))) apart ∙ ap (λ b. settled (cond b (Some e.1) (record_of_key q es))) (sym apart)
        ]

all_folded : Lists → Entries
all_folded lists = folded_over lists.b (folded_over lists.a (folded_over lists.c1 (folded_over lists.c1x lists.c2)))

find-all : (lists : Lists) (merges : Merges) → AreLayered lists merges → (q : Key) → record_of_key q (all_folded lists) ≡ record_at lists q
unfolding all_folded
find-all lists merges layered q =
    find-folded_over lists.b (folded_over lists.a (folded_over lists.c1 (folded_over lists.c1x lists.c2))) layered.sorted_b q
    ∙ ap (over_any (record_of_key q lists.b)) (
    find-folded_over lists.a (folded_over lists.c1 (folded_over lists.c1x lists.c2)) layered.sorted_a q
    ∙ ap (over_any (record_of_key q lists.a)) (
    find-folded_over lists.c1 (folded_over lists.c1x lists.c2) layered.sorted_c1 q
    ∙ ap (over_any (record_of_key q lists.c1)) (find-folded_over lists.c1x lists.c2 layered.sorted_c1x q)))

-- the map of the lists has the value of each key
pub find-map_in : (lists : Lists) (merges : Merges) → AreLayered lists merges → (q : Key) → find key_cmp q (map_in lists) ≡ value_in lists q
unfolding all_folded
find-map_in lists merges layered q =
    find-pairs (all_folded lists) q
    (sorted_folded_over lists.b (folded_over lists.a (folded_over lists.c1 (folded_over lists.c1x lists.c2)))
    (sorted_folded_over lists.a (folded_over lists.c1 (folded_over lists.c1x lists.c2))
    (sorted_folded_over lists.c1 (folded_over lists.c1x lists.c2) (sorted_folded_over lists.c1x lists.c2 layered.sorted_c2))))
    ∙ ap settled (find-all lists merges layered q)

pub sorted_map_in : (lists : Lists) → T (is_sorted key_cmp (map_in lists))
unfolding all_folded
sorted_map_in lists = sorted_pairs (all_folded lists)

-- so where the values are those of the writes it is the map of the writes
pub map_in_is : (lists : Lists) (merges : Merges) (writes : List Write) → AreLayered lists merges → ((q : Key) → value_in lists q ≡ value_at writes q) → map_in lists ≡ map_of writes
unfolding all_folded
map_in_is lists merges writes layered values =
    same_entries key_cmp nat_list_cmp_total tied (map_in lists) (map_of writes) (sorted_pairs (all_folded lists)) (is_sorted-map_of writes)
    (λ q. find-map_in lists merges layered q ∙ values q ∙ sym (find-map_of writes q))

-- and its rows are the rows
pub rows_in_are : (lists : Lists) (merges : Merges) (writes : List Write) (low high : Key) → AreLayered lists merges → ((q : Key) → value_in lists q ≡ value_at writes q)
    → rows_in lists low high ≡ rows writes low high
rows_in_are lists merges writes low high layered values =
    ap (λ pairs. map (λ p. record { key = p.0; value = p.1 }) (filter (λ p. in_range low high p.0) pairs)) (map_in_is lists merges writes layered values)
