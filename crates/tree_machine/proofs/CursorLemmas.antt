-- What a merge takes of its lists: those ahead of its cursor, from the front, up to its next cursor.
use Rattle.std.proofs.Common.{◌≡◌, ℕ, ◌-◌, inl, inr, Bool, cond, true, false, T, [], ◌∷◌, Some, None, Option, refl, ap, sym, subst, ◌∙◌}
use Rattle.std.proofs.lemmas.Grind.{common_steps}
use Rattle.std.proofs.lemmas.Bool.Decides.{nat_tests}
use Rattle.std.proofs.Common.{arith}
use Rattle.std.specs.Prelude.{nat_lt}
use Rattle.std.specs.List.{AllByRecursion}
use Rattle.std.specs.Ordering.{is_eq, is_lt, eq_by_cmp, ordering_reverse}
use Rattle.std.specs.declared.cmp.Ordering.{Ordering}
use Rattle.std.specs.declared.cmp.Ordering.TheVariants.{Equal}
use Rattle.std.specs.Cmp.{tied_itself}
use Rattle.std.specs.FinMap.{is_sorted}
use Rattle.std.specs.FinMap.Entries.{below_all, is_sorted-where_key, find-where_key}
use Rattle.std.proofs.lemmas.Cmp.{nat_list_cmp_total}
use Rattle.blsm_model.specs.declared.key.Key.{Key}
use Rattle.blsm_model.specs.Keys.{key_cmp}
use Rattle.record_delta.specs.declared.record.Rec.{Rec}
use Rattle.record_delta.specs.Entries.{AreSorted, Entries, above, is_above, record_of_key}
use Rattle.tree_machine.specs.Merges.{until, cursor_after}
use Rattle.tree_machine.proofs.FoldLemmas.{by_test, holds, both_hold, both, tied, equal_of, less_of, below_none}

-- ---- the order of keys

pub less_trans : (x y z : Key) → is_lt (key_cmp x y) ≡ true → is_lt (key_cmp y z) ≡ true → is_lt (key_cmp x z) ≡ true
less_trans x y z p q = ap is_lt (nat_list_cmp_total.trans x y z (less_of (key_cmp x y) p) (less_of (key_cmp y z) q))

-- a key isn't below itself
pub not_below_itself : (x : Key) → is_lt (key_cmp x x) ≡ false
not_below_itself x = ap is_lt (tied_itself nat_list_cmp_total x)

lt_of_cases : (o : Ordering) → is_lt (ordering_reverse o) ≡ false → is_eq o ≡ false → is_lt o ≡ true
lt_of_cases o h1 h2 = grind (arith, common_steps, nat_tests)

-- two keys that aren't the same: one is below the other
pub below_or_above : (x y : Key) → is_lt (key_cmp y x) ≡ false → is_eq (key_cmp x y) ≡ false → is_lt (key_cmp x y) ≡ true
below_or_above x y above apart = lt_of_cases (key_cmp x y) (ap is_lt (sym (nat_list_cmp_total.antisymm y x)) ∙ above) apart

pub below_all_trans : (x y : Key) (es : Entries) → is_lt (key_cmp x y) ≡ true → below_all key_cmp y es ≡ true → below_all key_cmp x es ≡ true
below_all_trans x y [] p h = refl
below_all_trans x y (e ∷ es) p h =
    let parts = both_hold (is_lt (key_cmp y e.0)) (below_all key_cmp y es) h in
    both (is_lt (key_cmp x e.0)) (below_all key_cmp x es) (less_trans x y e.0 p parts.0) (below_all_trans x y es p parts.1)

-- ---- ahead of a cursor

ahead_alike : (cursor : Option Key) (q x : Key) → key_cmp q x ≡ Equal → is_above cursor x ≡ is_above cursor q
ahead_alike cursor q x same = ap (is_above cursor) (sym (tied q x same))

pub find-ahead : (cursor : Option Key) (es : Entries) (q : Key) → record_of_key q (above cursor es) ≡ cond (is_above cursor q) (record_of_key q es) None
find-ahead cursor es q = find-where_key key_cmp (is_above cursor) q (ahead_alike cursor q) es

pub sorted_ahead : (cursor : Option Key) (es : Entries) → AreSorted es → AreSorted (above cursor es)
sorted_ahead cursor es sorted = holds _ (is_sorted-where_key key_cmp (is_above cursor) es (subst T (sym sorted) tt))

-- ---- groups from the front

module _ (weigh : Key → ℕ) where
  pub below_until : (x : Key) (wanted : ℕ) (es : Entries) → below_all key_cmp x es ≡ true → below_all key_cmp x (until wanted weigh es) ≡ true
  below_until x wanted [] h = refl
  below_until x wanted (e ∷ es) h =
      let parts = both_hold (is_lt (key_cmp x e.0)) (below_all key_cmp x es) h in
      both (is_lt (key_cmp x e.0)) _ parts.0
      (elim (nat_lt (weigh e.0) wanted) as (λ b. below_all key_cmp x (cond b (until (wanted - weigh e.0) weigh es) []) ≡ true) [
        | true ↦ below_until x (wanted - weigh e.0) es parts.1
        | false ↦ refl
      ])

  pub sorted_until : (wanted : ℕ) (es : Entries) → AreSorted es → AreSorted (until wanted weigh es)
  sorted_until wanted [] sorted = refl
  sorted_until wanted (e ∷ es) sorted =
      let parts = both_hold (below_all key_cmp e.0 es) (is_sorted key_cmp es) sorted in
      elim (nat_lt (weigh e.0) wanted) as (λ b. is_sorted key_cmp (e ∷ cond b (until (wanted - weigh e.0) weigh es) []) ≡ true) [
        | true ↦ both (below_all key_cmp e.0 (until (wanted - weigh e.0) weigh es)) _ (below_until e.0 (wanted - weigh e.0) es parts.0) (sorted_until (wanted - weigh e.0) es parts.1)
        | false ↦ refl
      ]

-- the cursor after groups that are all above a key is no lower than this key
pub cursor_rises : (x : Key) (groups : Entries) (q : Key) → below_all key_cmp x groups ≡ true → is_sorted key_cmp groups ≡ true
    → is_above (cursor_after (Some x) groups) q ≡ true → is_above (Some x) q ≡ true
cursor_rises x [] q below sorted past = past
cursor_rises x (e ∷ groups) q below sorted past =
    let here = both_hold (is_lt (key_cmp x e.0)) (below_all key_cmp x groups) below in
    let parts = both_hold (below_all key_cmp e.0 groups) (is_sorted key_cmp groups) sorted in
    less_trans x e.0 q here.0 (cursor_rises e.0 groups q parts.0 parts.1 past)

-- what stands ahead of the later cursor stood ahead of the earlier one
pub still_ahead : (cursor : Option Key) (groups : Entries) (q : Key) → is_sorted key_cmp groups ≡ true → AllByRecursion (λ e. is_above cursor e.0 ≡ true) groups
    → is_above (cursor_after cursor groups) q ≡ true → is_above cursor q ≡ true
still_ahead cursor [] q sorted all past = past
still_ahead None (e ∷ groups) q sorted all past = refl
still_ahead (Some x) (e ∷ groups) q sorted all past =
    let parts = both_hold (below_all key_cmp e.0 groups) (is_sorted key_cmp groups) sorted in
    less_trans x e.0 q all.0 (cursor_rises e.0 groups q parts.0 parts.1 past)

-- of the next cursor's key the first group is found
pub not_ahead_at_first : (x : Key) (groups : Entries) → below_all key_cmp x groups ≡ true → is_sorted key_cmp groups ≡ true → is_above (cursor_after (Some x) groups) x ≡ false
not_ahead_at_first x groups below sorted = grind (arith, common_steps, nat_tests, by_test, not_below_itself, cursor_rises)

none_twice : (b : Bool) (x : Option Rec) → cond b x x ≡ x
none_twice b x = grind (arith, common_steps, nat_tests)

-- The groups taken have just the keys up to the next cursor.
pub find-until : (weigh : Key → ℕ) (wanted : ℕ) (es : Entries) (cursor : Option Key) (q : Key) → AreSorted es
    → record_of_key q (until wanted weigh es) ≡ cond (is_above (cursor_after cursor (until wanted weigh es)) q) None (record_of_key q es)
find-until weigh wanted [] cursor q sorted = sym (none_twice (is_above cursor q) None)
find-until weigh wanted (e ∷ es) cursor q sorted =
    let parts = both_hold (below_all key_cmp e.0 es) (is_sorted key_cmp es) sorted in
    elim (nat_lt (weigh e.0) wanted) as (λ b. record_of_key q (e ∷ cond b (until (wanted - weigh e.0) weigh es) [])
    ≡ cond (is_above (cursor_after (Some e.0) (cond b (until (wanted - weigh e.0) weigh es) [])) q) None (record_of_key q (e ∷ es))) [
      | true ↦ more parts.0 parts.1 (find-until weigh (wanted - weigh e.0) es (Some e.0) q parts.1)
      | false ↦ last parts.0
    ]
  where
    more : below_all key_cmp e.0 es ≡ true → is_sorted key_cmp es ≡ true
        → record_of_key q (until (wanted - weigh e.0) weigh es) ≡ cond (is_above (cursor_after (Some e.0) (until (wanted - weigh e.0) weigh es)) q) None (record_of_key q es)
        → record_of_key q (e ∷ until (wanted - weigh e.0) weigh es)
        ≡ cond (is_above (cursor_after (Some e.0) (until (wanted - weigh e.0) weigh es)) q) None (record_of_key q (e ∷ es))
    more below rise rest =
        let groups = until (wanted - weigh e.0) weigh es in
        let past = is_above (cursor_after (Some e.0) groups) q in
        elim (by_test (eq_by_cmp key_cmp q e.0)) [
          | inl same ↦
              let q_is : q ≡ e.0 = tied q e.0 (equal_of (key_cmp q e.0) same) in
              let behind : past ≡ false = ap (is_above (cursor_after (Some e.0) groups)) q_is
              ∙ not_ahead_at_first e.0 groups (below_until weigh e.0 (wanted - weigh e.0) es below) (sorted_until weigh (wanted - weigh e.0) es rise) in
              ap (λ b. cond b (Some e.1) (record_of_key q groups)) same
              ∙ ap (λ b. cond b (Some e.1) (record_of_key q es)) (sym same)
              ∙ ap (λ b. cond b None (cond (eq_by_cmp key_cmp q e.0) (Some e.1) (record_of_key q es))) (sym behind)
          | inr apart ↦
              ap (λ b. cond b (Some e.1) (record_of_key q groups)) apart ∙ rest
              ∙ ap (λ b. cond past None (cond b (Some e.1) (record_of_key q es))) (sym apart)
        ]

    last : below_all key_cmp e.0 es ≡ true → record_of_key q (e ∷ []) ≡ cond (is_above (Some e.0) q) None (record_of_key q (e ∷ es))
    last below = elim (by_test (eq_by_cmp key_cmp q e.0)) [
      | inl same ↦
          let q_is : q ≡ e.0 = tied q e.0 (equal_of (key_cmp q e.0) same) in
          let behind : is_above (Some e.0) q ≡ false = ap (λ k. is_lt (key_cmp e.0 k)) q_is ∙ not_below_itself e.0 in
          ap (λ b. cond b (Some e.1) None) same
          ∙ ap (λ b. cond b (Some e.1) (record_of_key q es)) (sym same)
          ∙ ap (λ b. cond b None (cond (eq_by_cmp key_cmp q e.0) (Some e.1) (record_of_key q es))) (sym behind)
      | inr apart ↦
          ap (λ b. cond b (Some e.1) None) apart
          ∙ elim (by_test (is_above (Some e.0) q)) [
            | inl past ↦ ap (λ b. cond b None (cond (eq_by_cmp key_cmp q e.0) (Some e.1) (record_of_key q es))) (sym past)
            | inr behind ↦
                let below_e : is_lt (key_cmp q e.0) ≡ true = below_or_above q e.0 behind apart in
                sym (below_none q es (below_all_trans q e.0 es below_e below))
                ∙ ap (λ b. cond b (Some e.1) (record_of_key q es)) (sym apart)
                ∙ ap (λ b. cond b None (cond (eq_by_cmp key_cmp q e.0) (Some e.1) (record_of_key q es))) (sym behind)
          ]
    ]
