-- The rows of a range, where entries below it are left out.
use Rattle.std.specs.Prelude.{not, ◌&&◌}
use Rattle.std.proofs.Common.{◌≡◌, ◌∙◌, Bool, true, false, cond, [], ◌∷◌, ◌++◌, None, refl, ap, sym}
use Rattle.std.specs.FinMap.{find}
use Rattle.std.specs.List.{AllByRecursion}
use Rattle.std.specs.Ordering.{is_lt}
use Rattle.std.specs.declared.cmp.Ordering.TheVariants.{Less}
use Rattle.blsm_model.specs.declared.key.Key.{Key}
use Rattle.blsm_model.specs.Keys.{key_cmp, in_range}
use Rattle.record_delta.specs.declared.record.Rec.{Rec}
use Rattle.record_delta.specs.Entries.{Entries, AreSorted, folded_over, over_any}
use Rattle.merge_step.proofs.MergedLemmas.{find_folded, sorted_folded}
use Rattle.tree_machine.proofs.FoldLemmas.{over_any_assoc}
use Rattle.scan_view.specs.Hold.{within, rows_of, splice, view_of, IsReadAs, IsRestFrom}
use Rattle.scan_view.proofs.FoldLemmas.{find_where, same_lists}
use Rattle.scan_view.proofs.RangeLemmas.{rows_within, within_sorted}
use Rattle.scan_view.proofs.SpliceLemmas.{splice_none}

below_range : (low high : Key) (before rest : Entries) → AllByRecursion (λ (e : Key × Rec). key_cmp e.0 low ≡ Less) before → within low high (before ++ rest) ≡ within low high rest
below_range low high [] rest below = refl
below_range low high (e ∷ es) rest below =
    ap (λ b. cond b (e ∷ within low high (es ++ rest)) (within low high (es ++ rest))) (ap (λ o. not (is_lt o) && is_lt (key_cmp e.0 high)) below.0) ∙ below_range low high es rest below.1

-- a list has the same entries in the range as what is left of it
same_within : (low high : Key) (entries rest : Entries) → IsRestFrom low entries rest → within low high entries ≡ within low high rest
same_within low high entries rest is = ap (within low high) is.parts ∙ below_range low high is.before rest is.below

-- so it has the same record of each key of the range
found_left : (low high : Key) (entries rest : Entries) → IsRestFrom low entries rest → (q : Key) → in_range low high q ≡ true
    → find key_cmp q entries ≡ find key_cmp q rest
found_left low high entries rest is q inside =
    sym (found entries) ∙ ap (find key_cmp q) (same_within low high entries rest is) ∙ found rest
  where
    found : (es : Entries) → find key_cmp q (within low high es) ≡ find key_cmp q es
    found es = find_where (in_range low high) q es ∙ ap (λ (b : Bool). cond b (find key_cmp q es) None) inside

-- So a table over the rest of a component's list, and nothing in front of it, has what it has over the list.
pub read_rest : (low high : Key) (a c1 rest : Entries) → AreSorted a → IsRestFrom low c1 rest → IsReadAs low high a (splice [] None rest) a c1
read_rest low high a c1 rest sorted is = record {
  sorted_a = sorted;
  sorted_c1 = is.sorted;
  alike = λ q inside. ap (over_any (find key_cmp q a)) (ap (find key_cmp q) (splice_none rest) ∙ sym (found_left low high c1 rest is q inside));
}

-- the tree's lists have the same rows as a table over what is read in place of the first component, and what is left of the two others
module _ (low high : Key) (b a read ys zs of_a of_c1 of_c1x of_c2 : Entries) (sorted_b : AreSorted b) (sorted_a : AreSorted a)
    (sorted_read : AreSorted read) (sorted_ys : AreSorted ys) (sorted_zs : AreSorted zs) (first : IsReadAs low high a read of_a of_c1)
    (second : IsRestFrom low of_c1x ys) (third : IsRestFrom low of_c2 zs) where
  abbrev all : Entries
  all = folded_over b (view_of of_a of_c1 of_c1x of_c2)

  abbrev held : Entries
  held = folded_over b (view_of a read ys zs)

  sorted_all : AreSorted all
  sorted_all = sorted_folded b (view_of of_a of_c1 of_c1x of_c2) (sorted_folded of_a (folded_over of_c1 (folded_over of_c1x of_c2))
      (sorted_folded of_c1 (folded_over of_c1x of_c2) (sorted_folded of_c1x of_c2 third.sorted)))

  sorted_held : AreSorted held
  sorted_held = sorted_folded b (view_of a read ys zs) (sorted_folded a (folded_over read (folded_over ys zs))
      (sorted_folded read (folded_over ys zs) (sorted_folded ys zs sorted_zs)))

  found_in : (q : Key) (xs c1 c1x c2 : Entries) → AreSorted xs → AreSorted c1 → AreSorted c1x → find key_cmp q (folded_over b (view_of xs c1 c1x c2))
      ≡ over_any (find key_cmp q b) (over_any (over_any (find key_cmp q xs) (find key_cmp q c1)) (over_any (find key_cmp q c1x) (find key_cmp q c2)))
  found_in q xs c1 c1x c2 sorted_xs sorted_c1 sorted_c1x =
      let deep = folded_over c1x c2 in
      find_folded q b (view_of xs c1 c1x c2) sorted_b
      ∙ ap (over_any (find key_cmp q b)) (find_folded q xs (folded_over c1 deep) sorted_xs
      ∙ ap (over_any (find key_cmp q xs)) (find_folded q c1 deep sorted_c1 ∙ ap (over_any (find key_cmp q c1)) (find_folded q c1x c2 sorted_c1x))
      ∙ sym (over_any_assoc (find key_cmp q xs) (find key_cmp q c1) (over_any (find key_cmp q c1x) (find key_cmp q c2))))

  alike : (q : Key) → in_range low high q ≡ true → find key_cmp q all ≡ find key_cmp q held
  alike q inside =
      found_in q of_a of_c1 of_c1x of_c2 first.sorted_a first.sorted_c1 second.sorted
      ∙ (λ i. over_any (find key_cmp q b) (over_any (sym (first.alike q inside) i)
      (over_any (found_left low high of_c1x ys second q inside i) (found_left low high of_c2 zs third q inside i))))
      ∙ sym (found_in q a read ys zs sorted_a sorted_read sorted_ys)

  within_alike : (q : Key) → find key_cmp q (within low high all) ≡ find key_cmp q (within low high held)
  within_alike q =
      find_where (in_range low high) q all ∙ by (in_range low high q) refl ∙ sym (find_where (in_range low high) q held)
    where
      by : (inside : Bool) → in_range low high q ≡ inside → cond inside (find key_cmp q all) None ≡ cond inside (find key_cmp q held) None
      by true is = alike q is
      by false is = refl

  pub rows_left : rows_of low high all ≡ rows_of low high held
  rows_left =
      rows_within low high all sorted_all
      ∙ ap (rows_of low high) (same_lists _ _ (within_sorted low high all sorted_all) (within_sorted low high held sorted_held) within_alike)
      ∙ sym (rows_within low high held sorted_held)
