-- A quantum as the merges take it, group by group, is the one that the machine computes of the lists.
use Rattle.std.proofs.Common.{◌≡◌, ◌∙◌, ◌⊎◌, ℕ, ◌+◌, ◌-◌, ◌<◌, ◌≤◌, Bool, true, false, cond, [], ◌∷◌, Option, Some, None, refl, ap, sym, subst, inl, inr, arith}
use Rattle.std.proofs.lemmas.Grind.{common_steps}
use Rattle.std.proofs.lemmas.Bool.Decides.{nat_tests}
use Rattle.std.specs.Prelude.{nat_lt, sum_by}
use Rattle.std.specs.List.{AllByRecursion}
use Rattle.std.specs.Ordering.{is_lt, is_eq}
use Rattle.std.specs.Cmp.{tied_itself}
use Rattle.std.specs.declared.cmp.Ordering.{Ordering}
use Rattle.std.specs.declared.cmp.Ordering.TheVariants.{Less, Equal, Greater}
use Rattle.std.specs.FinMap.{put, is_sorted}
use Rattle.std.specs.FinMap.Entries.{below_all, by_order}
use Rattle.std.proofs.lemmas.Bool.{false≢true, ltb-true, ltb-false}
use Rattle.std.proofs.lemmas.Cmp.{nat_list_cmp_total}
use Rattle.std.proofs.lemmas.List.Sums.{sum_by-cons}
use Rattle.blsm_model.specs.declared.key.Key.{Key}
use Rattle.blsm_model.specs.Keys.{key_cmp}
use Rattle.record_delta.specs.declared.record.Rec.{Rec}
use Rattle.record_delta.specs.Records.{weight}
use Rattle.record_delta.specs.Folding.{over, fold}
use Rattle.record_delta.specs.Entries.{Entries, AreSorted, entries_weight, record_of_key, with_record, folded_over, is_above, above, first_of}
use Rattle.merge_step.specs.Group.{least_of, group_of}
use Rattle.merge_step.proofs.MergedLemmas.{turned, same}
use Rattle.merge_step.proofs.StepLemmas.{goes_on}
use Rattle.merge_ends.specs.Quantum.{weight_above, IsNext, NoneAbove, IsLast, IsQuantum}
use Rattle.merge_ends.proofs.GroupLemmas.{further, above_further}
use Rattle.tree_machine.specs.Merges.{weight_of_any, group_weight, until, cursor_after, Merge, quantum_of}
use Rattle.tree_machine.proofs.FoldLemmas.{by_test, both_hold, both, less_of, below_none, sorted_folded_over}
use Rattle.tree_machine.proofs.CursorLemmas.{not_below_itself, below_all_trans, find-ahead, sorted_ahead}
use Rattle.tree_machine.proofs.WeightLemmas.{weigh_first}
use Rattle.tree_runs.proofs.Terms.{IsOnward}

-- ---- lists, from the front

-- a key below all of a list comes before it
put_front : (key : Key) (rec : Rec) (es : Entries) → below_all key_cmp key es ≡ true → with_record key rec es ≡ (key, rec) ∷ es
put_front key rec [] below = refl
put_front key rec (e ∷ es) below =
    let first = less_of (key_cmp key e.0) (both_hold (is_lt (key_cmp key e.0)) (below_all key_cmp key es) below).0 in
    ap (λ (o : Option Rec). put key_cmp key (over rec o) (e ∷ es)) (below_none key (e ∷ es) below)
    ∙ ap (λ (o : Ordering). by_order o ((key, rec) ∷ e ∷ es) ((e.0, rec) ∷ es) (e ∷ put key_cmp key rec es)) first

-- where a record comes in a list whose first key is below its own, or the same
put_in_order : (key : Key) (rec : Rec) (f : Key × Rec) (es : Entries) (o : Ordering) → key_cmp key f.0 ≡ o
    → with_record key rec (f ∷ es)
    ≡ by_order o ((key, over rec (cond (is_eq o) (Some f.1) (record_of_key key es))) ∷ f ∷ es) ((f.0, over rec (cond (is_eq o) (Some f.1) (record_of_key key es))) ∷ es)
    (f ∷ put key_cmp key (over rec (cond (is_eq o) (Some f.1) (record_of_key key es))) es)
put_in_order key rec f es o is = grind (arith, common_steps, nat_tests)

-- an older entry below all newer ones comes first
fold_front : (f : Key × Rec) (newer older : Entries) → below_all key_cmp f.0 newer ≡ true → folded_over newer (f ∷ older) ≡ f ∷ folded_over newer older
fold_front f [] older below = refl
fold_front f (e ∷ newer) older below =
    let parts = both_hold (is_lt (key_cmp f.0 e.0)) (below_all key_cmp f.0 newer) below in
    ap (with_record e.0 e.1) (fold_front f newer older parts.1)
    ∙ put_in_order e.0 e.1 f (folded_over newer older) Greater (turned f.0 e.0 Less (less_of (key_cmp f.0 e.0) parts.0))

below_put : (x key : Key) (rec : Rec) (es : Entries) → is_lt (key_cmp x key) ≡ true → below_all key_cmp x es ≡ true → below_all key_cmp x (put key_cmp key rec es) ≡ true
below_put x key rec [] first below = both (is_lt (key_cmp x key)) true first refl
below_put x key rec (e ∷ es) first below =
    let parts = both_hold (is_lt (key_cmp x e.0)) (below_all key_cmp x es) below in
    elim (key_cmp key e.0) as (λ o. below_all key_cmp x (by_order o ((key, rec) ∷ e ∷ es) ((e.0, rec) ∷ es) (e ∷ put key_cmp key rec es)) ≡ true) [
      | Less ↦ both (is_lt (key_cmp x key)) (below_all key_cmp x (e ∷ es)) first below
      | Equal ↦ below
      | Greater ↦ both (is_lt (key_cmp x e.0)) (below_all key_cmp x (put key_cmp key rec es)) parts.0 (below_put x key rec es first parts.1)
    ]

below_folded : (x : Key) (newer older : Entries) → below_all key_cmp x newer ≡ true → below_all key_cmp x older ≡ true → below_all key_cmp x (folded_over newer older) ≡ true
below_folded x [] older new old = old
below_folded x (e ∷ newer) older new old =
    let parts = both_hold (is_lt (key_cmp x e.0)) (below_all key_cmp x newer) new in
    below_put x e.0 (over e.1 (record_of_key e.0 (folded_over newer older))) (folded_over newer older) parts.0 (below_folded x newer older parts.1 old)

-- a key below all of a list leaves all of it
all_left : (key : Key) (es : Entries) → below_all key_cmp key es ≡ true → above (Some key) es ≡ es
all_left key [] below = refl
all_left key (e ∷ es) below =
    let parts = both_hold (is_lt (key_cmp key e.0)) (below_all key_cmp key es) below in
    ap (λ b. cond b (e ∷ above (Some key) es) (above (Some key) es)) parts.0 ∙ ap (λ (l : Entries). e ∷ l) (all_left key es parts.1)

-- the first key leaves what is behind it
rest_left : (e : Key × Rec) (es : Entries) → below_all key_cmp e.0 es ≡ true → above (Some e.0) (e ∷ es) ≡ es
rest_left e es below = ap (λ b. cond b (e ∷ above (Some e.0) es) (above (Some e.0) es)) (not_below_itself e.0) ∙ all_left e.0 es below

find_first : (e : Key × Rec) (es : Entries) → record_of_key e.0 (e ∷ es) ≡ Some e.1
find_first e es = ap (λ o. cond (is_eq o) (Some e.1) (record_of_key e.0 es)) (tied_itself nat_list_cmp_total e.0)

-- ---- the least group of two lists

record Front (newer older : Entries) : Type 0 where
  key : Key
  rec : Rec
  taken : ℕ
  group : group_of (first_of newer) (first_of older) ≡ Some (key, rec, taken)
  folded : folded_over newer older ≡ (key, rec) ∷ folded_over (above (Some key) newer) (above (Some key) older)
  weighs : taken ≡ group_weight newer older key
  some : 0 < taken

front_newer : (e : Key × Rec) (newer older : Entries) → below_all key_cmp e.0 newer ≡ true → below_all key_cmp e.0 older ≡ true
    → group_of (Some e) (first_of older) ≡ Some (e.0, e.1, weight e.0 e.1) → Front (e ∷ newer) older
front_newer e newer older below beyond group = grind (arith, common_steps, nat_tests, put_front, below_folded, rest_left, all_left, find_first, below_none)

front_older : (f : Key × Rec) (newer older : Entries) → below_all key_cmp f.0 newer ≡ true → below_all key_cmp f.0 older ≡ true
    → group_of (first_of newer) (Some f) ≡ Some (f.0, f.1, weight f.0 f.1) → Front newer (f ∷ older)
front_older f newer older beyond below group = grind (arith, common_steps, nat_tests, fold_front, all_left, rest_left, find_first, below_none)

front_both : (key : Key) (rec less : Rec) (newer older : Entries) → below_all key_cmp key newer ≡ true → below_all key_cmp key older ≡ true → Front ((key, rec) ∷ newer) ((key, less) ∷ older)
front_both key rec less newer older below beyond = record {
  key = key;
  rec = fold rec less;
  taken = weight key rec + weight key less;
  group = ap (λ o. Some (least_of o (key, rec) (key, less))) (tied_itself nat_list_cmp_total key);
  folded = ap (with_record key rec) (fold_front (key, less) newer older below)
      ∙ put_in_order key rec (key, less) (folded_over newer older) Equal (tied_itself nat_list_cmp_total key)
      ∙ ap (λ (l : Entries). (key, fold rec less) ∷ folded_over l older) (sym (rest_left (key, rec) newer below))
      ∙ ap (λ (l : Entries). (key, fold rec less) ∷ folded_over (above (Some key) ((key, rec) ∷ newer)) l) (sym (rest_left (key, less) older beyond));
  weighs = omega (arith, ap (weight_of_any key) (find_first (key, rec) newer), ap (weight_of_any key) (find_first (key, less) older));
  some = omega arith;
}

front : (newer older : Entries) → AreSorted newer → AreSorted older → ((newer ≡ []) × (older ≡ [])) ⊎ Front newer older
front [] [] sorted_newer sorted_older = inl (refl, refl)
front (e ∷ newer) [] sorted_newer sorted_older = inr (front_newer e newer [] (both_hold (below_all key_cmp e.0 newer) (is_sorted key_cmp newer) sorted_newer).0 refl refl)
front [] (f ∷ older) sorted_newer sorted_older = inr (front_older f [] older refl (both_hold (below_all key_cmp f.0 older) (is_sorted key_cmp older) sorted_older).0 refl)
front (e ∷ newer) (f ∷ older) sorted_newer sorted_older = inr (by (key_cmp e.0 f.0) refl)
  where
    below : below_all key_cmp e.0 newer ≡ true
    below = (both_hold (below_all key_cmp e.0 newer) (is_sorted key_cmp newer) sorted_newer).0

    beyond : below_all key_cmp f.0 older ≡ true
    beyond = (both_hold (below_all key_cmp f.0 older) (is_sorted key_cmp older) sorted_older).0

    by : (o : Ordering) → key_cmp e.0 f.0 ≡ o → Front (e ∷ newer) (f ∷ older)
    by Less is =
        let first : is_lt (key_cmp e.0 f.0) ≡ true = ap is_lt is in
        front_newer e newer (f ∷ older) below (both (is_lt (key_cmp e.0 f.0)) (below_all key_cmp e.0 older) first (below_all_trans e.0 f.0 older first beyond)) (ap (λ o. Some (least_of o e f)) is)
    by Equal is =
        subst (λ (k : Key). below_all key_cmp k older ≡ true → Front (e ∷ newer) ((k, f.1) ∷ older)) (same e.0 f.0 is) (front_both e.0 e.1 f.1 newer older below) beyond
    by Greater is =
        let first : is_lt (key_cmp f.0 e.0) ≡ true = ap is_lt (turned e.0 f.0 Greater is) in
        front_older f (e ∷ newer) older (both (is_lt (key_cmp f.0 e.0)) (below_all key_cmp f.0 newer) first (below_all_trans f.0 e.0 newer first below)) beyond (ap (λ o. Some (least_of o e f)) is)

-- ---- the least group above a key

-- a key's group of both lists
abbrev total : Entries → Entries → Key → ℕ
total newer older key = group_weight newer older key

record Group (at : Option Key) (newer older : Entries) : Type 0 where
  key : Key
  rec : Rec
  taken : ℕ
  group : group_of (first_of (above at newer)) (first_of (above at older)) ≡ Some (key, rec, taken)
  folded : folded_over (above at newer) (above at older) ≡ (key, rec) ∷ folded_over (above (Some key) newer) (above (Some key) older)
  above_at : is_above at key ≡ true
  less : weight_above at newer older ≡ taken + weight_above (Some key) newer older
  weighs_left : taken ≡ group_weight (above at newer) (above at older) key
  weighs : taken ≡ group_weight newer older key
  some : 0 < taken

-- what is above a key has the records of a key above it that the list has
same_above : (at : Option Key) (key : Key) (es : Entries) → is_above at key ≡ true → weight_of_any key (record_of_key key (above at es)) ≡ weight_of_any key (record_of_key key es)
same_above at key es is = ap (weight_of_any key) (find-ahead at es key ∙ ap (λ b. cond b (record_of_key key es) None) is)

group_at : (at : Option Key) (newer older : Entries) → AreSorted newer → AreSorted older → ((above at newer ≡ []) × (above at older ≡ [])) ⊎ Group at newer older
group_at at newer older sorted_newer sorted_older = by (front (above at newer) (above at older) (sorted_ahead at newer sorted_newer) (sorted_ahead at older sorted_older))
  where
    by : ((above at newer ≡ []) × (above at older ≡ [])) ⊎ Front (above at newer) (above at older) → ((above at newer ≡ []) × (above at older ≡ [])) ⊎ Group at newer older
    by (inl none) = inl none
    by (inr f) =
        let taken = goes_on at newer older f.key f.rec f.taken sorted_newer sorted_older f.group in
        let up = taken.above_at in
        inr (record {
          key = f.key;
          rec = f.rec;
          taken = f.taken;
          group = f.group;
          folded = f.folded
              ∙ ap (λ (l : Entries). (f.key, f.rec) ∷ folded_over l (above (Some f.key) (above at older))) (sym (above_further at f.key newer up))
              ∙ ap (λ (l : Entries). (f.key, f.rec) ∷ folded_over (above (Some f.key) newer) l) (sym (above_further at f.key older up));
          above_at = up;
          less = omega (arith, taken.taken_is, taken.newer_left, taken.older_left);
          weighs_left = f.weighs;
          weighs = omega (arith, f.weighs, same_above at f.key newer up, same_above at f.key older up);
          some = f.some;
        })

-- What is above a key weighs as much as the group of a higher key and what is above that, or more.
heavier_in : (at : Option Key) (key : Key) (es : Entries) → is_above at key ≡ true → weight_of_any key (record_of_key key es) + entries_weight (above (Some key) es) ≤ entries_weight (above at es)
heavier_in at key [] up = omega arith
heavier_in at key (e ∷ es) up = by (key_cmp key e.0) (is_above at e.0) refl refl (heavier_in at key es up)
  where
    by : (o : Ordering) (b : Bool) → key_cmp key e.0 ≡ o → is_above at e.0 ≡ b → weight_of_any key (record_of_key key es) + entries_weight (above (Some key) es) ≤ entries_weight (above at es)
        → weight_of_any key (cond (is_eq o) (Some e.1) (record_of_key key es)) + entries_weight (cond (is_lt o) (e ∷ above (Some key) es) (above (Some key) es))
        ≤ entries_weight (cond b (e ∷ above at es) (above at es))
    by Less true is here rest = omega (arith, rest, weigh_first e (above (Some key) es), weigh_first e (above at es))
    by Less false is here rest = absurd (false≢true (sym here ∙ further at key e.0 up (ap is_lt is)))
    by Equal true is here rest = omega (arith, rest, weigh_first e (above at es), ap (λ (k : Key). weight k e.1) (same key e.0 is))
    by Equal false is here rest = absurd (false≢true (sym here ∙ ap (is_above at) (sym (same key e.0 is)) ∙ up))
    by Greater true is here rest = omega (arith, rest, weigh_first e (above at es))
    by Greater false is here rest = rest

heavier : (at : Option Key) (key : Key) (newer older : Entries) → is_above at key ≡ true → total newer older key + weight_above (Some key) newer older ≤ weight_above at newer older
heavier at key newer older up = omega (arith, heavier_in at key newer up, heavier_in at key older up)

-- a key that has a group isn't below the least group's
not_before : (at : Option Key) (newer older : Entries) (g : Group at newer older) (key : Key) → is_above at key ≡ true → 0 < total newer older key → (g.key ≡ key) ⊎ (is_above (Some g.key) key ≡ true)
not_before at newer older g key up some = grind (arith, common_steps, nat_tests, same, turned, heavier)

-- what is above a key that another isn't above weighs no more
lighter : (at : Option Key) (key : Key) (newer older : Entries) → is_above at key ≡ false → weight_above at newer older ≤ weight_above (Some key) newer older
lighter None key newer older behind = absurd (false≢true (sym behind))
lighter (Some low) key newer older behind = by (key_cmp low key) refl
  where
    by : (o : Ordering) → key_cmp low key ≡ o → weight_above (Some low) newer older ≤ weight_above (Some key) newer older
    by Less is = absurd (false≢true (sym behind ∙ ap is_lt is))
    by Equal is = omega (arith, ap (λ (k : Key). weight_above (Some k) newer older) (same low key is))
    by Greater is = let more = heavier (Some key) low newer older (ap is_lt (turned low key Greater is)) in omega (arith, more)

-- a cursor that went on and isn't above the one before it is the same
same_cursor : (at : Option Key) (key : Key) → is_above at key ≡ false → IsOnward at (Some key) → Some key ≡ at
same_cursor at key h1 h2 = grind (arith, common_steps, nat_tests, same, not_below_itself, turned)

-- ---- groups that weigh alike

until_alike : (v w : Key → ℕ) (wanted : ℕ) (es : Entries) → AllByRecursion (λ e. v e.0 ≡ w e.0) es → until wanted v es ≡ until wanted w es
until_alike v w wanted [] each = refl
until_alike v w wanted (e ∷ es) each = grind (arith, common_steps, nat_tests, until_alike v w (wanted - w e.0) es each.1)

all_until : (P : Key × Rec → Type 0) (weigh : Key → ℕ) (wanted : ℕ) (es : Entries) → AllByRecursion P es → AllByRecursion P (until wanted weigh es)
all_until P weigh wanted [] each = tt
all_until P weigh wanted (e ∷ es) each = grind (arith, common_steps, nat_tests, all_until P weigh (wanted - weigh e.0) es each.1)

sum_alike : (v w : Key → ℕ) (es : Entries) → AllByRecursion (λ e. v e.0 ≡ w e.0) es → sum_by (λ e. v e.0) es ≡ sum_by (λ e. w e.0) es
sum_alike v w [] each = refl
sum_alike v w (e ∷ es) each = omega (arith, each.0, sum_alike v w es each.1, sum_by-cons (λ (e : Key × Rec). v e.0) e es, sum_by-cons (λ (e : Key × Rec). w e.0) e es)

-- what is left above the least group's key weighs the same as what was left before
left_alike : (at : Option Key) (key : Key) (newer older : Entries) (es : Entries) → is_above at key ≡ true → below_all key_cmp key es ≡ true
    → AllByRecursion (λ e. group_weight (above (Some key) newer) (above (Some key) older) e.0 ≡ group_weight (above at newer) (above at older) e.0) es
left_alike at key newer older [] up below = tt
left_alike at key newer older (e ∷ es) up below =
    let parts = both_hold (is_lt (key_cmp key e.0)) (below_all key_cmp key es) below in
    let here = further at key e.0 up parts.0 in (
      omega (arith, same_above (Some key) e.0 newer parts.0, same_above (Some key) e.0 older parts.0, same_above at e.0 newer here, same_above at e.0 older here),
      left_alike at key newer older es up parts.1,
    )

-- ---- the quantum

-- the last group that a quantum took is the least one above some key
next_group : (before to : Option Key) (newer older : Entries) (group : ℕ) → AreSorted newer → AreSorted older → IsNext before to newer older group → (g : Group before newer older) × (to ≡ Some g.key)
next_group before to newer older group sorted_newer sorted_older next = by (group_at before newer older sorted_newer sorted_older)
  where
    none_is_some : (x : Key × Rec × ℕ) → None ≡ Some x → ⊥
    none_is_some x wrong = cc

    same_some : (x y : Key × Rec × ℕ) → Some x ≡ Some y → x ≡ y
    same_some x y is = cc

    same_key : (x y : Key × Rec × ℕ) → Some x ≡ Some y → y.0 ≡ x.0
    same_key x y is = sym (ap (λ (z : Key × Rec × ℕ). z.0) (same_some x y is))

    by : ((above before newer ≡ []) × (above before older ≡ [])) ⊎ Group before newer older → (g : Group before newer older) × (to ≡ Some g.key)
    by (inl none) = absurd (none_is_some (next.0, next.1, group) (sym (λ j. group_of (first_of (none.0 j)) (first_of (none.1 j))) ∙ next.2))
    by (inr g) = (g, next.3 ∙ ap (λ (k : Key). Some k) (same_key (g.key, g.rec, g.taken) (next.0, next.1, group) (sym g.group ∙ next.2)))

none_weighs : (at : Option Key) (newer older : Entries) → NoneAbove at newer older → weight_above at newer older ≡ 0
none_weighs at newer older none = omega (arith, ap (λ (l : Entries). entries_weight l) none.0, ap (λ (l : Entries). entries_weight l) none.1)

-- where nothing is left it takes nothing
at_end : (least : ℕ) (at to : Option Key) (newer older : Entries) (taken : ℕ) → AreSorted newer → AreSorted older → weight_above at newer older ≡ 0 → IsOnward at to → IsQuantum least at to newer older taken
    → (taken ≡ 0) × (to ≡ at)
at_end least at to newer older taken sorted_newer sorted_older none onward quantum = (omega (arith, none, quantum.has_taken.taken_is), by quantum.has_taken.last)
  where
    by : (to ≡ at) ⊎ IsLast least at to newer older → to ≡ at
    by (inl is) = is
    by (inr last) =
        let g = next_group last.before to newer older last.group sorted_newer sorted_older last.next in
        elim (by_test (is_above at g.0.key)) [
          | inl up ↦ absurd (omega (arith, none, heavier at g.0.key newer older up, g.0.weighs, g.0.some))
          | inr behind ↦ g.1 ∙ same_cursor at g.0.key behind (subst (λ (t : Option Key). IsOnward at t) g.1 onward)
        ]

-- where something is left, it went on to the least group's key or further
record WentOn (least : ℕ) (at to : Option Key) (newer older : Entries) (key : Key) : Type 0 where
  before : Option Key
  last : Group before newer older
  to_is : to ≡ Some last.key
  few : weight_above at newer older < least + weight_above before newer older
  further : (key ≡ last.key) ⊎ (is_above (Some key) last.key ≡ true)

went_on : (least : ℕ) (at to : Option Key) (newer older : Entries) (taken : ℕ) (g : Group at newer older) → 0 < least → AreSorted newer → AreSorted older → IsOnward at to
    → IsQuantum least at to newer older taken → WentOn least at to newer older g.key
went_on least at to newer older taken g some sorted_newer sorted_older onward quantum = by quantum.has_taken.last
  where
    not_same : to ≡ at → ⊥
    not_same is = grind (arith, common_steps, nat_tests)

    by : (to ≡ at) ⊎ IsLast least at to newer older → WentOn least at to newer older g.key
    by (inl is) = absurd (not_same is)
    by (inr last) =
        let l = next_group last.before to newer older last.group sorted_newer sorted_older last.next in
        elim (by_test (is_above at l.0.key)) [
          | inl up ↦ record { before = last.before; last = l.0; to_is = l.1; few = last.few; further = not_before at newer older g l.0.key up (omega (arith, l.0.weighs, l.0.some)) }
          | inr behind ↦ absurd (not_same (l.1 ∙ same_cursor at l.0.key behind (subst (λ (t : Option Key). IsOnward at t) l.1 onward)))
        ]

-- what is left of the quantum behind its first group
behind_first : (least : ℕ) (at to : Option Key) (newer older : Entries) (taken : ℕ) (g : Group at newer older) → g.taken < least → WentOn least at to newer older g.key → IsQuantum least at to newer older taken
    → IsOnward (Some g.key) to × IsQuantum (least - g.taken) (Some g.key) to newer older (taken - g.taken) × (g.taken ≤ taken)
behind_first least at to newer older taken g some went quantum = (onward, record { has_taken = record { taken_is = omega (arith, g.less, quantum.has_taken.taken_is, light); last = inr last }; enough = enough quantum.enough }, omega (arith, g.less, quantum.has_taken.taken_is, light))
  where
    up_from : (key : Key) → (g.key ≡ went.last.key) ⊎ (is_above (Some g.key) went.last.key ≡ true) → is_above (Some went.last.key) key ≡ true → is_above (Some g.key) key ≡ true
    up_from key (inl is) up = subst (λ (k : Key). is_above (Some k) key ≡ true) (sym is) up
    up_from key (inr higher) up = further (Some g.key) went.last.key key higher up

    onward : IsOnward (Some g.key) to
    onward key up = up_from key went.further (subst (λ (t : Option Key). is_above t key ≡ true) went.to_is up)

    lighter_than : (g.key ≡ went.last.key) ⊎ (is_above (Some g.key) went.last.key ≡ true) → weight_above (Some went.last.key) newer older ≤ weight_above (Some g.key) newer older
    lighter_than h1 = grind (arith, common_steps, nat_tests)

    light : weight_above to newer older ≤ weight_above (Some g.key) newer older
    light = omega (arith, ap (λ (t : Option Key). weight_above t newer older) went.to_is, lighter_than went.further)

    last : IsLast (least - g.taken) (Some g.key) to newer older
    last = grind (arith, common_steps, nat_tests)

    enough : (least ≤ taken) ⊎ NoneAbove to newer older → (least - g.taken ≤ taken - g.taken) ⊎ NoneAbove to newer older
    enough h1 = grind (arith, common_steps, nat_tests)

-- a first group that is enough is all of it
only_first : (least : ℕ) (at to : Option Key) (newer older : Entries) (taken : ℕ) (g : Group at newer older) → least ≤ g.taken → WentOn least at to newer older g.key → IsQuantum least at to newer older taken
    → (taken ≡ g.taken) × (to ≡ Some g.key)
only_first least at to newer older taken g enough went quantum = grind (arith, common_steps, nat_tests, not_below_itself, by_test, further, not_before, lighter)

none_first : (f : Key × Rec) (fs : Entries) → ◌≡◌ {A = Entries} [] (f ∷ fs) → ⊥
none_first f fs wrong = cc

agree : (fs : Entries) (least : ℕ) (at to : Option Key) (newer older : Entries) (taken : ℕ) → folded_over (above at newer) (above at older) ≡ fs → 0 < least → AreSorted newer → AreSorted older → IsOnward at to
    → IsQuantum least at to newer older taken
    → (taken ≡ sum_by (λ e. group_weight (above at newer) (above at older) e.0) (until least (group_weight (above at newer) (above at older)) fs))
    × (to ≡ cursor_after at (until least (group_weight (above at newer) (above at older)) fs))
agree [] least at to newer older taken is some sorted_newer sorted_older onward quantum = by (group_at at newer older sorted_newer sorted_older)
  where
    by : ((above at newer ≡ []) × (above at older ≡ [])) ⊎ Group at newer older → (taken ≡ 0) × (to ≡ at)
    by (inl none) = at_end least at to newer older taken sorted_newer sorted_older (none_weighs at newer older none) onward quantum
    by (inr g) = absurd (none_first (g.key, g.rec) (folded_over (above (Some g.key) newer) (above (Some g.key) older)) (sym is ∙ g.folded))
agree (f ∷ fs) least at to newer older taken is some sorted_newer sorted_older onward quantum =
    by
    (λ g left its_onward rest. agree fs (least - g.taken) (Some g.key) to newer older (taken - g.taken) (sym (given g).1) left sorted_newer sorted_older its_onward rest)
    (group_at at newer older sorted_newer sorted_older)
  where
    -- the same of the groups behind the first one
    Behind : Type 0
    Behind =
        (g : Group at newer older) → 0 < least - g.taken → IsOnward (Some g.key) to → IsQuantum (least - g.taken) (Some g.key) to newer older (taken - g.taken)
        → (taken - g.taken ≡ sum_by (λ e. group_weight (above (Some g.key) newer) (above (Some g.key) older) e.0)
        (until (least - g.taken) (group_weight (above (Some g.key) newer) (above (Some g.key) older)) fs))
        × (to ≡ cursor_after (Some g.key) (until (least - g.taken) (group_weight (above (Some g.key) newer) (above (Some g.key) older)) fs))

    given : (g : Group at newer older) → (f.0 ≡ g.key) × (fs ≡ folded_over (above (Some g.key) newer) (above (Some g.key) older))
    given g = grind (arith, common_steps, nat_tests)

    weighs : (g : Group at newer older) → group_weight (above at newer) (above at older) f.0 ≡ g.taken
    weighs g = ap (group_weight (above at newer) (above at older)) (given g).0 ∙ sym g.weighs_left

    sorted : AreSorted (f ∷ fs)
    sorted = subst AreSorted is (sorted_folded_over (above at newer) (above at older) (sorted_ahead at older sorted_older))

    each : (g : Group at newer older) → AllByRecursion (λ e. group_weight (above (Some g.key) newer) (above (Some g.key) older) e.0 ≡ group_weight (above at newer) (above at older) e.0) fs
    each g =
        left_alike at g.key newer older fs g.above_at
        (subst (λ (k : Key). below_all key_cmp k fs ≡ true) (given g).0 (both_hold (below_all key_cmp f.0 fs) (is_sorted key_cmp fs) sorted).0)

    by_weight : Behind → (g : Group at newer older) (b : Bool) → nat_lt (group_weight (above at newer) (above at older) f.0) least ≡ b
        → (taken ≡ sum_by (λ e. group_weight (above at newer) (above at older) e.0)
        (f ∷ cond b (until (least - group_weight (above at newer) (above at older) f.0) (group_weight (above at newer) (above at older)) fs) []))
        × (to ≡ cursor_after (Some f.0) (cond b (until (least - group_weight (above at newer) (above at older) f.0) (group_weight (above at newer) (above at older)) fs) []))
    by_weight behind g true few =
        let v = group_weight (above (Some g.key) newer) (above (Some g.key) older) in
        let w = group_weight (above at newer) (above at older) in
        let less : g.taken < least = omega (arith, ltb-true (w f.0) least few, weighs g) in
        let rest = behind_first least at to newer older taken g less (went_on least at to newer older taken g some sorted_newer sorted_older onward quantum) quantum in
        let then = behind g (omega (arith, less)) rest.0 rest.1 in
        let groups = until_alike v w (least - g.taken) fs (each g) in
        let sums = sum_alike v w (until (least - g.taken) v fs) (all_until (λ e. v e.0 ≡ w e.0) v (least - g.taken) fs (each g)) in (
          omega (
            arith,
            rest.2,
            then.0,
            sums,
            weighs g,
            ap (λ (l : Entries). sum_by (λ e. w e.0) l) groups,
            ap (λ n. sum_by (λ e. w e.0) (until (least - n) w fs)) (weighs g),
            sum_by-cons (λ (e : Key × Rec). w e.0) f (until (least - w f.0) w fs),
          ),
          then.1
              ∙ ap (cursor_after (Some g.key)) groups
              ∙ ap (λ n. cursor_after (Some g.key) (until (least - n) w fs)) (sym (weighs g))
              ∙ ap (λ (k : Key). cursor_after (Some k) (until (least - w f.0) w fs)) (sym (given g).0),
        )
    by_weight behind g false enough =
        let went = went_on least at to newer older taken g some sorted_newer sorted_older onward quantum in
        let all = only_first least at to newer older taken g (omega (arith, ltb-false (group_weight (above at newer) (above at older) f.0) least enough, weighs g)) went quantum in
        (omega (arith, all.0, weighs g), all.1 ∙ ap (λ (k : Key). Some k) (sym (given g).0))

    by : Behind → ((above at newer ≡ []) × (above at older ≡ [])) ⊎ Group at newer older
        → (taken ≡ sum_by (λ e. group_weight (above at newer) (above at older) e.0) (until least (group_weight (above at newer) (above at older)) (f ∷ fs)))
        × (to ≡ cursor_after at (until least (group_weight (above at newer) (above at older)) (f ∷ fs)))
    by behind (inl none) = absurd (none_first f fs (sym (λ j. folded_over (none.0 j) (none.1 j)) ∙ is))
    by behind (inr g) = by_weight behind g (nat_lt (group_weight (above at newer) (above at older) f.0) least) refl

-- A quantum as the merges take it is the one that the machine computes of the lists: its weight, and how far it comes.
pub quanta_agree : (least : ℕ) (merge : Merge) (to : Option Key) (newer older : Entries) (taken : ℕ) → 0 < least → AreSorted newer → AreSorted older → IsOnward merge.cursor to
    → IsQuantum least merge.cursor to newer older taken
    → (taken ≡ (quantum_of least merge newer older).weight) × (to ≡ cursor_after merge.cursor (quantum_of least merge newer older).groups)
quanta_agree least merge to newer older taken some sorted_newer sorted_older onward quantum =
    agree (folded_over (above merge.cursor newer) (above merge.cursor older)) least merge.cursor to newer older taken refl some sorted_newer sorted_older onward quantum
