-- Records over one another, and what folded lists have of a key.
use Rattle.std.proofs.Common.{◌≡◌, ◌⊎◌, inl, inr, Bool, cond, true, false, ◌&&◌, T, [], ◌∷◌, Some, None, Option, refl, ap, sym, subst, ◌∙◌}
use Rattle.std.proofs.lemmas.Grind.{common_steps}
use Rattle.std.proofs.lemmas.Bool.Decides.{nat_tests}
use Rattle.std.proofs.Common.{arith}
use Rattle.std.specs.Ordering.{is_eq, is_lt, eq_by_cmp}
use Rattle.std.specs.declared.cmp.Ordering.{Ordering}
use Rattle.std.specs.declared.cmp.Ordering.TheVariants.{Less, Equal}
use Rattle.std.specs.FinMap.{slice_cmp-IsAntisymmetric, nat_cmp-IsAntisymmetric, is_sorted}
use Rattle.std.specs.FinMap.Entries.{below_all, is_sorted-put, find-put}
use Rattle.std.proofs.lemmas.Cmp.{nat_list_cmp_total}
use Rattle.blsm_model.specs.declared.key.Key.{Key}
use Rattle.blsm_model.specs.Keys.{key_cmp}
use Rattle.record_delta.specs.declared.record.Rec.{Rec}
use Rattle.record_delta.specs.Folding.{over}
use Rattle.record_delta.proofs.FoldingLemmas.{fold_associative}
use Rattle.record_delta.specs.Entries.{AreSorted, Entries, folded_over, over_any, record_of_key, with_record}
use Rattle.record_delta.specs.Several.{with_records}

pub by_test : (b : Bool) → (b ≡ true) ⊎ (b ≡ false)
by_test b = grind (arith, common_steps, nat_tests)

pub holds : (b : Bool) → T b → b ≡ true
holds b h1 = grind (arith, common_steps, nat_tests)

pub both_hold : (a b : Bool) → (a && b) ≡ true → (a ≡ true) × (b ≡ true)
both_hold a b h1 = grind (arith, common_steps, nat_tests)

pub both : (a b : Bool) → a ≡ true → b ≡ true → (a && b) ≡ true
both a b h1 h2 = grind (arith, common_steps, nat_tests)

pub tied : (a b : Key) → key_cmp a b ≡ Equal → a ≡ b
tied a b e = slice_cmp-IsAntisymmetric nat_cmp-IsAntisymmetric a b e

pub equal_of : (o : Ordering) → is_eq o ≡ true → o ≡ Equal
equal_of o h1 = grind (arith, common_steps, nat_tests)

pub less_of : (o : Ordering) → is_lt o ≡ true → o ≡ Less
less_of o h1 = grind (arith, common_steps, nat_tests)

-- ---- records over one another

pub over_any-None : (rec : Option Rec) → over_any rec None ≡ rec
over_any-None rec = grind (arith, common_steps, nat_tests)

pub over_any_assoc : (x y z : Option Rec) → over_any (over_any x y) z ≡ over_any x (over_any y z)
over_any_assoc None y z = refl
over_any_assoc (Some x) None z = refl
over_any_assoc (Some x) (Some y) None = refl
over_any_assoc (Some x) (Some y) (Some z) = ap (λ r. Some r) (fold_associative x y z)

-- ---- a key below all of a list

pub below_none : (key : Key) (es : Entries) → below_all key_cmp key es ≡ true → record_of_key key es ≡ None
below_none key [] below = refl
below_none key (e ∷ es) below =
    let parts = both_hold (is_lt (key_cmp key e.0)) (below_all key_cmp key es) below in
    ap (λ o. cond (is_eq o) (Some e.1) (record_of_key key es)) (less_of (key_cmp key e.0) parts.0) ∙ below_none key es parts.1

-- ---- what folded lists have of a key

pub find-with_record : (key : Key) (rec : Rec) (es : Entries) (q : Key) → record_of_key q (with_record key rec es) ≡ over_any (cond (eq_by_cmp key_cmp q key) (Some rec) None) (record_of_key q es)
find-with_record key rec es q =
    find-put key_cmp nat_list_cmp_total q key (over rec (record_of_key key es)) es
    ∙ elim (by_test (eq_by_cmp key_cmp q key)) [
      | inl same ↦
          ap (λ b. cond b (Some (over rec (record_of_key key es))) (record_of_key q es)) same
          ∙ ap (λ k. Some (over rec (record_of_key k es))) (sym (tied q key (equal_of (key_cmp q key) same)))
          ∙ ap (λ b. over_any (cond b (Some rec) None) (record_of_key q es)) (sym same)
      | inr apart ↦
          ap (λ b. cond b (Some (over rec (record_of_key key es))) (record_of_key q es)) apart
          ∙ ap (λ b. over_any (cond b (Some rec) None) (record_of_key q es)) (sym apart)
    ]

pub find-folded_over : (newer older : Entries) → AreSorted newer → (q : Key) → record_of_key q (folded_over newer older) ≡ over_any (record_of_key q newer) (record_of_key q older)
find-folded_over [] older sorted q = refl
find-folded_over (e ∷ newer) older sorted q =
    let parts = both_hold (below_all key_cmp e.0 newer) (is_sorted key_cmp newer) sorted in
    let rest = find-folded_over newer older parts.1 q in
    find-with_record e.0 e.1 (folded_over newer older) q
    ∙ ap (λ r. over_any (cond (eq_by_cmp key_cmp q e.0) (Some e.1) None) r) rest
    ∙ elim (by_test (eq_by_cmp key_cmp q e.0)) [
      | inl same ↦
          let q_is : q ≡ e.0 = tied q e.0 (equal_of (key_cmp q e.0) same) in
          let none : record_of_key q newer ≡ None = ap (λ k. record_of_key k newer) q_is ∙ below_none e.0 newer parts.0 in
          ap (λ b. over_any (cond b (Some e.1) None) (over_any (record_of_key q newer) (record_of_key q older))) same
          ∙ ap (λ r. over_any (Some e.1) (over_any r (record_of_key q older))) none
          ∙ ap (λ b. over_any (cond b (Some e.1) (record_of_key q newer)) (record_of_key q older)) (sym same)
      | inr apart ↦
          ap (λ b. over_any (cond b (Some e.1) None) (over_any (record_of_key q newer) (record_of_key q older))) apart
          ∙ ap (λ b. over_any (cond b (Some e.1) (record_of_key q newer)) (record_of_key q older)) (sym apart)
    ]

pub sorted_with_record : (key : Key) (rec : Rec) (es : Entries) → AreSorted es → AreSorted (with_record key rec es)
sorted_with_record key rec es sorted =
    holds _ (is_sorted-put key_cmp nat_list_cmp_total key (over rec (record_of_key key es)) es (subst T (sym sorted) tt))

pub sorted_folded_over : (newer older : Entries) → AreSorted older → AreSorted (folded_over newer older)
sorted_folded_over [] older sorted = sorted
sorted_folded_over (e ∷ newer) older sorted = sorted_with_record e.0 e.1 (folded_over newer older) (sorted_folded_over newer older sorted)

-- ---- several entries, one after the other

-- what they have of a key
abbrev pub written_at : Entries → Key → Option Rec
written_at [] q = None
written_at (e ∷ more) q = over_any (written_at more q) (cond (eq_by_cmp key_cmp q e.0) (Some e.1) None)

pub find-with_records : (more es : Entries) (q : Key) → record_of_key q (with_records more es) ≡ over_any (written_at more q) (record_of_key q es)
find-with_records [] es q = refl
find-with_records (e ∷ more) es q =
    find-with_records more (with_record e.0 e.1 es) q
    ∙ ap (over_any (written_at more q)) (find-with_record e.0 e.1 es q)
    ∙ sym (over_any_assoc (written_at more q) (cond (eq_by_cmp key_cmp q e.0) (Some e.1) None) (record_of_key q es))

pub sorted_with_records : (more es : Entries) → AreSorted es → AreSorted (with_records more es)
sorted_with_records [] es sorted = sorted
sorted_with_records (e ∷ more) es sorted = sorted_with_records more (with_record e.0 e.1 es) (sorted_with_record e.0 e.1 es sorted)
