-- What a quantum of a merge keeps: what was written is the fold of the inputs up to the cursor. A merge that is done has
-- written the fold of its whole inputs.
use Rattle.std.proofs.Common.{◌≡◌, ℕ, ◌-◌, Bool, cond, true, false, [], ◌∷◌, ◌++◌, Some, None, Option, refl, ap, sym, ◌∙◌}
use Rattle.std.proofs.lemmas.Grind.{common_steps}
use Rattle.std.proofs.lemmas.Bool.Decides.{nat_tests}
use Rattle.std.proofs.Common.{arith}
use Rattle.std.specs.List.{AllByRecursion}
use Rattle.std.specs.Ordering.{is_lt, eq_by_cmp}
use Rattle.std.specs.FinMap.{is_sorted, put}
use Rattle.std.specs.FinMap.Entries.{below_all}
use Rattle.std.proofs.lemmas.Bool.{false≢true}
use Rattle.blsm_model.specs.declared.key.Key.{Key}
use Rattle.blsm_model.specs.declared.row.Value.{Value}
use Rattle.blsm_model.specs.Keys.{key_cmp}
use Rattle.record_delta.specs.declared.record.Rec.{Rec}
use Rattle.record_delta.specs.declared.record.Rec.TheVariants.{Base}
use Rattle.record_delta.specs.Records.{settle}
use Rattle.record_delta.specs.Folding.{over}
use Rattle.record_delta.specs.Entries.{AreSorted, Entries, above, folded_over, is_above, over_any, record_of_key, settled_base, settled_entries}
use Rattle.tree_machine.specs.Merges.{Merge, is_empty, is_done, until, group_weight, cursor_after, quantum_of, moved_on}
use Rattle.tree_machine.specs.Layers.{IsBehind, IsMergeOf, as_base, as_it_is}
use Rattle.tree_machine.proofs.FoldLemmas.{by_test, both_hold, both, tied, equal_of, below_none, over_any-None, find-folded_over, sorted_folded_over}
use Rattle.tree_machine.proofs.CursorLemmas.{less_trans, below_or_above, find-ahead, sorted_ahead, sorted_until, still_ahead, not_ahead_at_first, find-until}

abbrev AllAhead : Option Key → Entries → Type 0
AllAhead cursor es = AllByRecursion (λ e. is_above cursor e.0 ≡ true) es

-- ---- the groups are ahead of the cursor

ahead_of : (cursor : Option Key) (es : Entries) → AllAhead cursor (above cursor es)
ahead_of cursor [] = tt
ahead_of cursor (e ∷ es) = grind (arith, common_steps, nat_tests, ahead_of cursor es)

ahead_put : (cursor : Option Key) (key : Key) (rec : Rec) (es : Entries) → is_above cursor key ≡ true → AllAhead cursor es → AllAhead cursor (put key_cmp key rec es)
ahead_put cursor key rec [] here all = (here, tt)
ahead_put cursor key rec (e ∷ es) here all = grind (arith, common_steps, nat_tests, ahead_put cursor key rec es here all.1)

ahead_folded : (cursor : Option Key) (newer older : Entries) → AllAhead cursor newer → AllAhead cursor older → AllAhead cursor (folded_over newer older)
ahead_folded cursor [] older new old = old
ahead_folded cursor (e ∷ newer) older new old =
    ahead_put cursor e.0 (over e.1 (record_of_key e.0 (folded_over newer older))) (folded_over newer older) new.0 (ahead_folded cursor newer older new.1 old)

ahead_until : (cursor : Option Key) (wanted : ℕ) (weigh : Key → ℕ) (es : Entries) → AllAhead cursor es → AllAhead cursor (until wanted weigh es)
ahead_until cursor wanted weigh [] all = tt
ahead_until cursor wanted weigh (e ∷ es) all = grind (arith, common_steps, nat_tests, ahead_until cursor (wanted - weigh e.0) weigh es all.1)

-- ---- behind the next cursor

pub behind_cursor : (cursor : Option Key) (groups : Entries) → is_sorted key_cmp groups ≡ true → IsBehind (cursor_after cursor groups) groups
behind_cursor cursor [] sorted = tt
behind_cursor cursor (e ∷ groups) sorted =
    let parts = both_hold (below_all key_cmp e.0 groups) (is_sorted key_cmp groups) sorted in
    (not_ahead_at_first e.0 groups parts.0 parts.1, behind_cursor (Some e.0) groups parts.1)

pub still_behind : (cursor : Option Key) (groups es : Entries) → is_sorted key_cmp groups ≡ true → AllAhead cursor groups → IsBehind cursor es → IsBehind (cursor_after cursor groups) es
still_behind cursor groups [] sorted all behind = tt
still_behind cursor groups (e ∷ es) sorted all behind = grind (arith, common_steps, nat_tests, still_behind cursor groups es sorted all behind.1, by_test, still_ahead)

behind_append : (cursor : Option Key) (xs ys : Entries) → IsBehind cursor xs → IsBehind cursor ys → IsBehind cursor (xs ++ ys)
behind_append cursor [] ys p q = q
behind_append cursor (x ∷ xs) ys p q = (p.0, behind_append cursor xs ys p.1 q)

-- ---- what was written, and what is written now

abbrev first_of : Option Rec → Option Rec → Option Rec
first_of None y = y
first_of (Some x) y = Some x

find-append : (xs ys : Entries) (q : Key) → record_of_key q (xs ++ ys) ≡ first_of (record_of_key q xs) (record_of_key q ys)
find-append [] ys q = refl
find-append (x ∷ xs) ys q = grind (arith, common_steps, nat_tests, find-append xs ys q)

-- a key that isn't ahead is below all that are
below_ahead : (cursor : Option Key) (x : Key) (ys : Entries) → is_above cursor x ≡ false → AllAhead cursor ys → below_all key_cmp x ys ≡ true
below_ahead cursor x [] behind all = refl
below_ahead None x (y ∷ ys) behind all = absurd (false≢true (sym behind))
below_ahead (Some k) x (y ∷ ys) behind all = both (is_lt (key_cmp x y.0)) (below_all key_cmp x ys) here (below_ahead (Some k) x ys behind all.1)
  where
    here : is_lt (key_cmp x y.0) ≡ true
    here = grind (arith, common_steps, nat_tests, by_test, tied, equal_of, less_trans, below_or_above)

below_append : (x : Key) (xs ys : Entries) → below_all key_cmp x xs ≡ true → below_all key_cmp x ys ≡ true → below_all key_cmp x (xs ++ ys) ≡ true
below_append x [] ys p q = q
below_append x (e ∷ xs) ys p q =
    let parts = both_hold (is_lt (key_cmp x e.0)) (below_all key_cmp x xs) p in
    both (is_lt (key_cmp x e.0)) (below_all key_cmp x (xs ++ ys)) parts.0 (below_append x xs ys parts.1 q)

sorted_append : (cursor : Option Key) (xs ys : Entries) → is_sorted key_cmp xs ≡ true → is_sorted key_cmp ys ≡ true → IsBehind cursor xs → AllAhead cursor ys → is_sorted key_cmp (xs ++ ys) ≡ true
sorted_append cursor [] ys p q behind all = q
sorted_append cursor (x ∷ xs) ys p q behind all =
    let parts = both_hold (below_all key_cmp x.0 xs) (is_sorted key_cmp xs) p in
    both (below_all key_cmp x.0 (xs ++ ys)) (is_sorted key_cmp (xs ++ ys))
    (below_append x.0 xs ys parts.0 (below_ahead cursor x.0 ys behind.0 all)) (sorted_append cursor xs ys parts.1 q behind.1 all)

-- ---- settled entries

settled_below : (x : Key) (es : Entries) → below_all key_cmp x es ≡ true → below_all key_cmp x (settled_entries es) ≡ true
settled_below x [] h = refl
settled_below x (e ∷ es) h =
    let parts = both_hold (is_lt (key_cmp x e.0)) (below_all key_cmp x es) h in
    by (settle e.1) parts.0 (settled_below x es parts.1)
  where
    by : (v : Option Value) → is_lt (key_cmp x e.0) ≡ true → below_all key_cmp x (settled_entries es) ≡ true → below_all key_cmp x (settled_base e.0 v (settled_entries es)) ≡ true
    by v h1 h2 = grind (arith, common_steps, nat_tests)

pub settled_sorted : (es : Entries) → is_sorted key_cmp es ≡ true → is_sorted key_cmp (settled_entries es) ≡ true
settled_sorted [] h = refl
settled_sorted (e ∷ es) h =
    let parts = both_hold (below_all key_cmp e.0 es) (is_sorted key_cmp es) h in
    by (settle e.1) (settled_below e.0 es parts.0) (settled_sorted es parts.1)
  where
    by : (v : Option Value) → below_all key_cmp e.0 (settled_entries es) ≡ true → is_sorted key_cmp (settled_entries es) ≡ true → is_sorted key_cmp (settled_base e.0 v (settled_entries es)) ≡ true
    by v h1 h2 = grind (arith, common_steps, nat_tests)

settled_all : (P : Key → Type 0) (es : Entries) → AllByRecursion (λ e. P e.0) es → AllByRecursion (λ e. P e.0) (settled_entries es)
settled_all P [] all = tt
settled_all P (e ∷ es) all = grind (arith, common_steps, nat_tests, settled_all P es all.1)

abbrev based : Option Value → Option Rec
based None = None
based (Some v) = Some (Base v)

as_base_of : (rec : Rec) → as_base (Some rec) ≡ based (settle rec)
as_base_of rec = grind (arith, common_steps, nat_tests)

pub find-settled : (es : Entries) (q : Key) → is_sorted key_cmp es ≡ true → record_of_key q (settled_entries es) ≡ as_base (record_of_key q es)
find-settled [] q h = refl
find-settled (e ∷ es) q h =
    let parts = both_hold (below_all key_cmp e.0 es) (is_sorted key_cmp es) h in
    by (eq_by_cmp key_cmp q e.0) refl (settle e.1) (as_base_of e.1) (settled_below e.0 es parts.0) (find-settled es q parts.1)
  where
    by : (b : Bool) → eq_by_cmp key_cmp q e.0 ≡ b → (v : Option Value) → as_base (Some e.1) ≡ based v → below_all key_cmp e.0 (settled_entries es) ≡ true
        → record_of_key q (settled_entries es) ≡ as_base (record_of_key q es)
        → record_of_key q (settled_base e.0 v (settled_entries es)) ≡ as_base (cond b (Some e.1) (record_of_key q es))
    by true same None is below rest =
        ap (λ k. record_of_key k (settled_entries es)) (tied q e.0 (equal_of (key_cmp q e.0) same)) ∙ below_none e.0 (settled_entries es) below ∙ sym is
    by true same (Some v) is below rest = ap (λ b. cond b (Some (Base v)) (record_of_key q (settled_entries es))) same ∙ sym is
    by false apart None is below rest = rest
    by false apart (Some v) is below rest = ap (λ b. cond b (Some (Base v)) (record_of_key q (settled_entries es))) apart ∙ rest

-- ---- one quantum

-- what is written of the groups: their records as they are, or their values
pub record IsWritten (kept : Option Rec → Option Rec) (cursor : Option Key) (groups written : Entries) : Type 0 where
  pub finds : (q : Key) → record_of_key q written ≡ kept (record_of_key q groups)
  pub sorted : is_sorted key_cmp written ≡ true
  pub all : AllAhead cursor written
  pub behind : IsBehind (cursor_after cursor groups) written

pub written_as_it_is : (cursor : Option Key) (groups : Entries) → is_sorted key_cmp groups ≡ true → AllAhead cursor groups → IsWritten as_it_is cursor groups groups
written_as_it_is cursor groups sorted all = record { finds = λ q. refl; sorted = sorted; all = all; behind = behind_cursor cursor groups sorted }

pub written_as_base : (cursor : Option Key) (groups : Entries) → is_sorted key_cmp groups ≡ true → AllAhead cursor groups → IsWritten as_base cursor groups (settled_entries groups)
written_as_base cursor groups sorted all = record {
  finds = λ q. find-settled groups q sorted;
  sorted = settled_sorted groups sorted;
  all = settled_all (λ k. is_above cursor k ≡ true) groups all;
  behind = settled_all (λ k. is_above (cursor_after cursor groups) k ≡ false) groups (behind_cursor cursor groups sorted);
}

module _ (quantum : ℕ) (merge : Merge) (newer older : Entries) (sorted_newer : AreSorted newer) (sorted_older : AreSorted older) where
  abbrev folds_left : Entries
  folds_left = folded_over (above merge.cursor newer) (above merge.cursor older)

  pub left_sorted : is_sorted key_cmp folds_left ≡ true
  left_sorted = sorted_folded_over (above merge.cursor newer) (above merge.cursor older) (sorted_ahead merge.cursor older sorted_older)

  pub groups_sorted : is_sorted key_cmp (quantum_of quantum merge newer older).groups ≡ true
  groups_sorted = sorted_until (group_weight (above merge.cursor newer) (above merge.cursor older)) quantum folds_left left_sorted

  pub groups_ahead : AllAhead merge.cursor (quantum_of quantum merge newer older).groups
  groups_ahead = ahead_until merge.cursor quantum (group_weight (above merge.cursor newer) (above merge.cursor older)) folds_left
      (ahead_folded merge.cursor (above merge.cursor newer) (above merge.cursor older) (ahead_of merge.cursor newer) (ahead_of merge.cursor older))

  left_of : (b : Bool) (n o : Option Rec) → over_any (cond b n None) (cond b o None) ≡ cond b (over_any n o) None
  left_of b n o = grind (arith, common_steps, nat_tests)

  pub find-left : (q : Key) → record_of_key q folds_left ≡ cond (is_above merge.cursor q) (over_any (record_of_key q newer) (record_of_key q older)) None
  find-left q = grind (arith, common_steps, nat_tests, find-folded_over, sorted_ahead, find-ahead)

  pub find-groups : (q : Key) → record_of_key q (quantum_of quantum merge newer older).groups
      ≡ cond (is_above (cursor_after merge.cursor (quantum_of quantum merge newer older).groups) q) None
      (cond (is_above merge.cursor q) (over_any (record_of_key q newer) (record_of_key q older)) None)
  find-groups q =
      find-until (group_weight (above merge.cursor newer) (above merge.cursor older)) quantum folds_left merge.cursor q left_sorted
      ∙ ap (λ r. cond (is_above (cursor_after merge.cursor (quantum_of quantum merge newer older).groups) q) None r) (find-left q)

  -- what was written and what is written now is the fold up to the next cursor
  pub quantum_keeps : (kept : Option Rec → Option Rec) (written : Entries) → kept None ≡ None → IsMergeOf kept newer older merge
      → IsWritten kept merge.cursor (quantum_of quantum merge newer older).groups written
      → IsMergeOf kept newer older (moved_on merge (quantum_of quantum merge newer older).groups written)
  quantum_keeps kept written nothing is now =
      let groups = (quantum_of quantum merge newer older).groups in
      record {
        folds = λ q. folds q;
        sorted = sorted_append merge.cursor merge.output written is.sorted now.sorted is.behind now.all;
        behind = behind_append (cursor_after merge.cursor groups) merge.output written (still_behind merge.cursor groups merge.output groups_sorted groups_ahead is.behind) now.behind;
      }
    where
      folds : (q : Key) → record_of_key q (merge.output ++ written)
          ≡ cond (is_above (cursor_after merge.cursor (quantum_of quantum merge newer older).groups) q) None (kept (over_any (record_of_key q newer) (record_of_key q older)))
      folds q =
          find-append merge.output written q
          ∙ ap (λ r. first_of r (record_of_key q written)) (is.folds q)
          ∙ ap (λ r. first_of (cond (is_above merge.cursor q) None (kept (over_any (record_of_key q newer) (record_of_key q older)))) r) (now.finds q ∙ ap kept (find-groups q))
          ∙ by (is_above merge.cursor q) (is_above (cursor_after merge.cursor (quantum_of quantum merge newer older).groups) q) (over_any (record_of_key q newer) (record_of_key q older))
          (λ past. still_ahead merge.cursor (quantum_of quantum merge newer older).groups q groups_sorted groups_ahead past)
        where
          by : (was is : Bool) (x : Option Rec) → (is ≡ true → was ≡ true) → first_of (cond was None (kept x)) (kept (cond is None (cond was x None))) ≡ cond is None (kept x)
          by was is x h1 = grind (arith, common_steps, nat_tests)

-- ---- a merge that is done

none_left : (cursor : Option Key) (es : Entries) → is_empty (above cursor es) ≡ true → (q : Key) → is_above cursor q ≡ true → record_of_key q es ≡ None
none_left cursor es empty q past =
    ap (λ b. cond b (record_of_key q es) None) (sym past) ∙ sym (find-ahead cursor es q) ∙ of_empty (above cursor es) empty
  where
    of_empty : (xs : Entries) → is_empty xs ≡ true → record_of_key q xs ≡ None
    of_empty xs h1 = grind (arith, common_steps, nat_tests)

pub done_folds : (kept : Option Rec → Option Rec) (newer older : Entries) (merge : Merge) → kept None ≡ None → IsMergeOf kept newer older merge → is_done merge newer older ≡ true
    → (q : Key) → record_of_key q merge.output ≡ kept (over_any (record_of_key q newer) (record_of_key q older))
done_folds kept newer older merge nothing is done q = grind (arith, common_steps, nat_tests, both_hold, by_test, none_left)

-- what a pass wrote, over what is left of its inputs
pub output_then_rest : (merge : Merge) (newer older : Entries) → IsMergeOf as_it_is newer older merge → (q : Key)
    → over_any (record_of_key q merge.output) (over_any (record_of_key q (above merge.cursor newer)) (record_of_key q (above merge.cursor older)))
    ≡ over_any (record_of_key q newer) (record_of_key q older)
output_then_rest merge newer older is q = grind (arith, common_steps, nat_tests, find-ahead, over_any-None)
