-- What folding does to the weight of lists, and so to the charge.
use Rattle.std.proofs.Common.{◌≡◌, ℕ, List, length, ◌+◌, ◌≤◌, cond, true, T, [], ◌∷◌, Some, None, refl, ap, sym, subst, ◌∙◌, arith}
use Rattle.std.proofs.lemmas.Grind.{common_steps}
use Rattle.std.proofs.lemmas.Bool.Decides.{nat_tests}
use Rattle.std.specs.Prelude.{◌<◌, is_some}
use Rattle.std.specs.Ordering.{is_eq, is_lt}
use Rattle.std.specs.declared.cmp.Ordering.{Ordering}
use Rattle.std.specs.declared.cmp.Ordering.TheVariants.{Less, Equal, Greater}
use Rattle.std.specs.FinMap.{is_sorted, put}
use Rattle.std.specs.FinMap.Entries.{by_order, below_all, same_entries}
use Rattle.std.proofs.lemmas.Bool.{false≢true}
use Rattle.std.proofs.lemmas.Cmp.{nat_list_cmp_total}
use Rattle.std.proofs.lemmas.List.Sums.{sum_by-cons}
use Rattle.blsm_model.specs.declared.key.Key.{Key}
use Rattle.blsm_model.specs.declared.op.Write.{Write}
use Rattle.blsm_model.specs.Keys.{key_cmp}
use Rattle.blsm_model.specs.Format.{overhead}
use Rattle.blsm_model.specs.Legal.{total_weight}
use Rattle.blsm_model.specs.Values.{key_of, text_written, weight_of}
use Rattle.record_delta.specs.declared.record.Rec.{Rec}
use Rattle.record_delta.specs.Records.{weight, settle, record_of, text_of}
use Rattle.record_delta.specs.Folding.{over}
use Rattle.record_delta.proofs.FoldingLemmas.{fold_lighter}
use Rattle.record_delta.specs.Entries.{AreSorted, Entries, entries_weight, folded_over, record_of_key, settled_base, settled_entries, with_record}
use Rattle.record_delta.specs.Several.{entries_of, with_records}
use Rattle.tree_machine.specs.Merges.{Merge, is_done}
use Rattle.tree_machine.specs.Layers.{IsMergeOf, as_base, as_it_is}
use Rattle.tree_machine.proofs.FoldLemmas.{both_hold, tied, below_none, find-folded_over, sorted_folded_over, sorted_with_record}
use Rattle.tree_machine.proofs.CursorLemmas.{below_all_trans}
use Rattle.tree_machine.proofs.MergeLemmas.{done_folds, find-settled, settled_sorted}

pub weigh_first : (e : Key × Rec) (es : Entries) → entries_weight (e ∷ es) ≡ weight e.0 e.1 + entries_weight es
weigh_first e es = sum_by-cons (λ f. weight f.0 f.1) e es

-- a list with a record of a key weighs something
pub key_weighs : (key : Key) (es : Entries) → is_some (record_of_key key es) ≡ true → 0 < entries_weight es
key_weighs key [] some = absurd (false≢true some)
key_weighs key (e ∷ es) some = omega (arith, weigh_first e es)

over_weight : (key : Key) (rec old : Rec) → weight key (over rec (Some old)) ≤ weight key rec + weight key old
over_weight key rec old = omega (arith, fold_lighter key rec old)

-- a folded record adds no more than its own weight
pub weight_with : (key : Key) (rec : Rec) (es : Entries) → AreSorted es → entries_weight (with_record key rec es) ≤ entries_weight es + weight key rec
weight_with key rec [] sorted = omega (arith, weigh_first (key, rec) [])
weight_with key rec (e ∷ es) sorted =
    let parts = both_hold (below_all key_cmp e.0 es) (is_sorted key_cmp es) sorted in
    by (key_cmp key e.0) refl parts.0 (weight_with key rec es parts.1)
  where
    by : (o : Ordering) → key_cmp key e.0 ≡ o → below_all key_cmp e.0 es ≡ true → entries_weight (with_record key rec es) ≤ entries_weight es + weight key rec
        → entries_weight (by_order o ((key, over rec (cond (is_eq o) (Some e.1) (record_of_key key es))) ∷ e ∷ es)
        ((e.0, over rec (cond (is_eq o) (Some e.1) (record_of_key key es))) ∷ es)
        (e ∷ put key_cmp key (over rec (cond (is_eq o) (Some e.1) (record_of_key key es))) es))
        ≤ entries_weight (e ∷ es) + weight key rec
    by Less is below rest =
        let none : record_of_key key es ≡ None = below_none key es (below_all_trans key e.0 es (ap is_lt is) below) in
        let same : entries_weight ((key, over rec (record_of_key key es)) ∷ e ∷ es) ≡ entries_weight ((key, rec) ∷ e ∷ es) = ap (λ r. entries_weight ((key, over rec r) ∷ e ∷ es)) none in
        omega (arith, same, weigh_first (key, rec) (e ∷ es))
    by Equal is below rest =
        let key_is : key ≡ e.0 = tied key e.0 is in
        let light : weight e.0 (over rec (Some e.1)) ≤ weight key rec + weight e.0 e.1 = subst (λ (k : Key). weight e.0 (over rec (Some e.1)) ≤ weight k rec + weight e.0 e.1) (sym key_is) (over_weight e.0 rec e.1) in
        omega (arith, light, weigh_first (e.0, over rec (Some e.1)) es, weigh_first e es)
    by Greater is below rest = omega (arith, rest, weigh_first e (with_record key rec es), weigh_first e es)

pub weight_folded : (newer older : Entries) → AreSorted older → entries_weight (folded_over newer older) ≤ entries_weight newer + entries_weight older
weight_folded [] older sorted = omega arith
weight_folded (e ∷ newer) older sorted =
    omega (arith, weight_with e.0 e.1 (folded_over newer older) (sorted_folded_over newer older sorted), weight_folded newer older sorted, weigh_first e newer)

settle_weight : (key : Key) (rec : Rec) (es : Entries) → entries_weight (settled_base key (settle rec) es) ≤ weight key rec + entries_weight es
settle_weight key rec es = grind (arith, common_steps, nat_tests)

pub weight_settled : (es : Entries) → entries_weight (settled_entries es) ≤ entries_weight es
weight_settled [] = omega arith
weight_settled (e ∷ es) = omega (arith, settle_weight e.0 e.1 (settled_entries es), weight_settled es, weigh_first e es)

-- ---- what a merge that is done has written

-- once it is done it has written the fold of its whole inputs, or the values of that fold
pub pass_output : (newer older : Entries) (merge : Merge) → AreSorted newer → AreSorted older → IsMergeOf as_it_is newer older merge → is_done merge newer older ≡ true
    → merge.output ≡ folded_over newer older
pass_output newer older merge sorted_newer sorted_older is done =
    same_entries key_cmp nat_list_cmp_total tied merge.output (folded_over newer older)
    (subst T (sym is.sorted) tt) (subst T (sym (sorted_folded_over newer older sorted_older)) tt)
    (λ q. done_folds as_it_is newer older merge refl is done q ∙ sym (find-folded_over newer older sorted_newer q))

pub deep_output : (newer older : Entries) (merge : Merge) → AreSorted newer → AreSorted older → IsMergeOf as_base newer older merge → is_done merge newer older ≡ true
    → merge.output ≡ settled_entries (folded_over newer older)
deep_output newer older merge sorted_newer sorted_older is done =
    same_entries key_cmp nat_list_cmp_total tied merge.output (settled_entries (folded_over newer older))
    (subst T (sym is.sorted) tt) (subst T (sym (settled_sorted (folded_over newer older) (sorted_folded_over newer older sorted_older))) tt)
    (λ q. done_folds as_base newer older merge refl is done q
    ∙ ap as_base (sym (find-folded_over newer older sorted_newer q))
    ∙ sym (find-settled (folded_over newer older) q (sorted_folded_over newer older sorted_older)))

pub pass_output_light : (newer older : Entries) (merge : Merge) → AreSorted newer → AreSorted older → IsMergeOf as_it_is newer older merge → is_done merge newer older ≡ true
    → entries_weight merge.output ≤ entries_weight newer + entries_weight older
pass_output_light newer older merge sorted_newer sorted_older is done =
    omega (arith, ap entries_weight (pass_output newer older merge sorted_newer sorted_older is done), weight_folded newer older sorted_older)

pub deep_output_light : (newer older : Entries) (merge : Merge) → AreSorted newer → AreSorted older → IsMergeOf as_base newer older merge → is_done merge newer older ≡ true
    → entries_weight merge.output ≤ entries_weight newer + entries_weight older
deep_output_light newer older merge sorted_newer sorted_older is done =
    omega (arith, ap entries_weight (deep_output newer older merge sorted_newer sorted_older is done), weight_settled (folded_over newer older), weight_folded newer older sorted_older)

pub text_of_record : (write : Write) → text_of (record_of write) ≡ text_written write
text_of_record write = grind (arith, common_steps, nat_tests)

pub weight_of_record : (write : Write) → weight (key_of write) (record_of write) ≡ weight_of write
weight_of_record write = ap (λ (text : List ℕ). overhead + length (key_of write) + length text) (text_of_record write)

-- ---- several entries

pub weight_with_all : (more es : Entries) → AreSorted es → entries_weight (with_records more es) ≤ entries_weight es + entries_weight more
weight_with_all [] es sorted = omega arith
weight_with_all (e ∷ more) es sorted =
    omega (arith, weight_with_all more (with_record e.0 e.1 es) (sorted_with_record e.0 e.1 es sorted), weight_with e.0 e.1 es sorted, weigh_first e more)

pub weight_of_entries : (writes : List Write) → entries_weight (entries_of writes) ≡ total_weight writes
weight_of_entries [] = refl
weight_of_entries (w ∷ ws) =
    omega (arith, weigh_first (key_of w, record_of w) (entries_of ws), sum_by-cons weight_of w ws, weight_of_record w, weight_of_entries ws)
