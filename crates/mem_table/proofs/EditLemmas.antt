-- What folding a record into sorted entries does to them and to their weight.
use Rattle.std.proofs.lemmas.Bool.Decides.{nat_tests}
use Rattle.std.proofs.lemmas.Grind.{common_steps}
use Rattle.std.proofs.Common.{◌≡◌, ◌≢◌, ℕ, ◌+◌, ◌-◌, ◌*◌, ◌≤◌, true, cond, Option, List, [], ◌∷◌, ◌++◌, length, get_or, set, Some, ap, sym, ◌∙◌, inl, inr, arith}
use Rattle.std.specs.List.{insert, AllByRecursion}
use Rattle.std.specs.Ordering.{is_eq, eq_by_cmp}
use Rattle.std.specs.Cmp.{nat_eq_equiv, tied_itself}
use Rattle.std.specs.Cmp.Lexicographic.{texts_ties, lists_equiv}
use Rattle.std.specs.FinMap.{put}
use Rattle.std.specs.FinMap.Entries.{is_sorted-put, find-put}
use Rattle.std.proofs.lemmas.Cmp.{nat_list_cmp_total}
use Rattle.std.proofs.lemmas.List.Sums.{sum_by-cons, sum_by-set, sum_by-insert}
use Rattle.blsm_model.specs.declared.key.Key.{Key}
use Rattle.blsm_model.specs.declared.op.Write.{Write}
use Rattle.blsm_model.specs.Keys.{key_cmp, same_key}
use Rattle.record_delta.specs.declared.record.Rec.{Rec}
use Rattle.record_delta.specs.Records.{weight, writes_of_record, IsRecord}
use Rattle.record_delta.specs.Folding.{fold, over}
use Rattle.record_delta.proofs.FoldingLemmas.{fold_lighter, stands_rec}
use Rattle.record_delta.specs.Entries.{Entries, AreSorted, record_of_key, entries_weight, with_record, is_above}
use Rattle.mem_table.specs.Entries.{StandFor}
use Rattle.mem_table.specs.Tables.{IsTable}
use Rattle.mem_table.proofs.SortedLemmas.{test_holds, put_at, put_apart}
use Rattle.mem_table.proofs.PlaceLemmas.{sorted_test, tied, present_at, absent_at, parts_of_gap, place_of}
use Rattle.mem_table.proofs.Terms.{IsAt, IsGapFor}

-- ---- the entries after it

pub with_record_at : (es : Entries) (key : Key) (rec : Rec) (i : ℕ) (d : Key × Rec) → AreSorted es → IsAt es key i → with_record key rec es ≡ set es i (key, fold rec (get_or es i d).1)
with_record_at es key rec i d h1 h2 = grind (arith, common_steps, nat_tests, present_at, get_or, set, put_at, nat_list_cmp_total, sorted_test)

pub with_record_apart : (es : Entries) (key : Key) (rec : Rec) (i : ℕ) → IsGapFor es key i → with_record key rec es ≡ insert es i (key, rec)
with_record_apart es key rec i gap =
    ap (λ r. put key_cmp key (over rec r) es) (absent_at es key i gap) ∙ put_apart key_cmp nat_list_cmp_total es key i rec gap.in_range (parts_of_gap es key i gap)

pub sorted_with_record : (es : Entries) (key : Key) (rec : Rec) → AreSorted es → AreSorted (with_record key rec es)
sorted_with_record es key rec sorted =
    test_holds _ (is_sorted-put key_cmp nat_list_cmp_total key (over rec (record_of_key key es)) es (sorted_test es sorted))

pub all_put : (P : Key → Type 0) (es : Entries) (key : Key) (rec : Rec) → P key → AllByRecursion (λ e. P e.0) es
    → AllByRecursion (λ e. P e.0) (put key_cmp key rec es)
all_put P [] key rec here all = (here, tt)
all_put P (e ∷ es) key rec here all = grind (arith, common_steps, nat_tests, all_put P es key rec here all.1)

-- ---- their weight

-- one record gives place to another
pub total_at : (es : Entries) (key : Key) (rec : Rec) (i : ℕ) (d : Key × Rec) → AreSorted es → IsAt es key i
    → entries_weight (with_record key rec es) + weight key (get_or es i d).1 ≡ entries_weight es + weight key (fold rec (get_or es i d).1)
total_at es key rec i d sorted at =
    ap (λ l. entries_weight l + weight key (get_or es i d).1) (with_record_at es key rec i d sorted at)
    ∙ ap (λ k. entries_weight (set es i (key, fold rec (get_or es i d).1)) + weight k (get_or es i d).1) (sym (at.has_key d))
    ∙ sum_by-set (λ e. weight e.0 e.1) es i (key, fold rec (get_or es i d).1) d at.in_range

pub total_apart : (es : Entries) (key : Key) (rec : Rec) (i : ℕ) → IsGapFor es key i → entries_weight (with_record key rec es) ≡ entries_weight es + weight key rec
total_apart es key rec i gap = ap entries_weight (with_record_apart es key rec i gap) ∙ sum_by-insert (λ e. weight e.0 e.1) es i (key, rec)

-- an entry weighs no more than all
pub weight_at_le : (es : Entries) (key : Key) (i : ℕ) (d : Key × Rec) → IsAt es key i → weight key (get_or es i d).1 ≤ entries_weight es
weight_at_le es key i d at = grind (arith, common_steps, nat_tests)

-- each entry weighs 14 at least
pub least_total : (es : Entries) → AllByRecursion (λ e. 1 ≤ length e.0) es → 14 * length es ≤ entries_weight es
least_total [] keys = omega arith
least_total (e ∷ es) keys = omega (arith, keys.0, least_total es keys.1, sum_by-cons (λ e. weight e.0 e.1) e es)

-- wherever the key is, a folded record adds at most its own weight
pub weight_more : (es : Entries) (key : Key) (rec : Rec) → AreSorted es → entries_weight (with_record key rec es) ≤ entries_weight es + weight key rec
weight_more es key rec sorted =
    let none : Key × Rec = (key, rec) in
    elim (place_of es key (sorted_test es sorted)) [
      | inl p ↦ omega (arith, total_at es key rec p.0 none sorted p.1, fold_lighter key rec (get_or es p.0 none).1)
      | inr p ↦ omega (arith, total_apart es key rec p.0 p.1)
    ]

-- ---- what it stands for

ties : (q key : Key) → same_key key q ≡ eq_by_cmp key_cmp q key
ties q key = sym (sym (texts_ties q key) ∙ (lists_equiv nat_eq_equiv).symm q key)

record_after : (es : Entries) (key : Key) (rec : Rec) (q : Key) → record_of_key q (with_record key rec es) ≡ cond (same_key key q) (Some (over rec (record_of_key q es))) (record_of_key q es)
record_after es key rec q = grind (arith, common_steps, nat_tests, find-put key_cmp nat_list_cmp_total q key (over rec (record_of_key key es)) es, ties q key, tied q key)

pub record_of_this : (es : Entries) (key : Key) (rec : Rec) → record_of_key key (with_record key rec es) ≡ Some (over rec (record_of_key key es))
record_of_this es key rec =
    find-put key_cmp nat_list_cmp_total key key (over rec (record_of_key key es)) es
    ∙ ap (λ o. cond (is_eq o) (Some (over rec (record_of_key key es))) (record_of_key key es)) (tied_itself nat_list_cmp_total key)

pub record_of_other : (es : Entries) (key : Key) (rec : Rec) (other : Key) → other ≢ key → record_of_key other (with_record key rec es) ≡ record_of_key other es
record_of_other es key rec other differs = grind (arith, common_steps, nat_tests, find-put key_cmp nat_list_cmp_total other key (over rec (record_of_key key es)) es, tied other key)

pub stand_more : (es : Entries) (key : Key) (rec : Rec) (writes : List Write) → IsRecord rec → StandFor es writes
    → StandFor (with_record key rec es) (writes ++ writes_of_record key rec)
stand_more es key rec writes h1 h2 = grind (arith, common_steps, nat_tests, record_after, stands_rec)

-- ---- a table stays a table

pub table_at : (es : Entries) (floor : Option Key) (kept dropped reserved places : ℕ) (key : Key) (rec : Rec) (i : ℕ) (d : Key × Rec)
    (before after : ℕ)
    → IsTable es floor kept dropped reserved places → IsAt es key i → 1 ≤ length key → is_above floor key ≡ true
    → entries_weight (with_record key rec es) + dropped ≤ reserved
    → before ≡ weight key (get_or es i d).1 → after ≡ weight key (fold rec (get_or es i d).1)
    → IsTable (with_record key rec es) floor (kept - before + after) dropped reserved places
table_at es floor kept dropped reserved places key rec i d before after t at key_least high fits before_is after_is =
    let total : kept - before + after ≡ entries_weight (with_record key rec es) =
    omega (arith, total_at es key rec i d t.sorted at, weight_at_le es key i d at, t.weight_is) in
    record {
      sorted = sorted_with_record es key rec t.sorted;
      above_floor = all_put (λ k. is_above floor k ≡ true) es key (over rec (record_of_key key es)) high t.above_floor;
      weight_is = total;
      fits = omega arith;
      keys = all_put (λ k. 1 ≤ length k) es key (over rec (record_of_key key es)) key_least t.keys;
      room = t.room;
    }

pub table_apart : (es : Entries) (floor : Option Key) (kept dropped reserved places more : ℕ) (key : Key) (rec : Rec) (i after : ℕ)
    → IsTable es floor kept dropped reserved places → IsGapFor es key i → 1 ≤ length key → is_above floor key ≡ true
    → entries_weight (with_record key rec es) + dropped ≤ reserved
    → after ≡ weight key rec → places ≤ more → IsTable (with_record key rec es) floor (kept + after) dropped reserved more
table_apart es floor kept dropped reserved places more key rec i after t gap key_least high fits after_is grown =
    let kept_is = t.weight_is in
    let room = t.room in
    let total : kept + after ≡ entries_weight (with_record key rec es) = omega (arith, total_apart es key rec i gap) in
    record {
      sorted = sorted_with_record es key rec t.sorted;
      above_floor = all_put (λ k. is_above floor k ≡ true) es key (over rec (record_of_key key es)) high t.above_floor;
      weight_is = total;
      fits = omega arith;
      keys = all_put (λ k. 1 ≤ length k) es key (over rec (record_of_key key es)) key_least t.keys;
      room = omega arith;
    }
