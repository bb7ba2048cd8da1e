-- The rows that sorted entries settle to, one after the other.
use Rattle.std.proofs.Common.{◌≡◌, ◌∙◌, ℕ, ◌<◌, ◌≤◌, true, false, cond, T, List, [], ◌∷◌, ◌++◌, length, map, filter, take, drop, Option, Some, None, refl, ap, sym, subst, arith}
use Rattle.std.proofs.lemmas.Grind.{common_steps}
use Rattle.std.proofs.lemmas.Bool.Decides.{nat_tests}
use Rattle.std.specs.List.{AllByRecursion}
use Rattle.std.specs.List.Sorted.{IsStrictlySortedBy}
use Rattle.std.specs.Ordering.{is_lt}
use Rattle.std.specs.Cmp.{tied_itself}
use Rattle.std.specs.declared.cmp.Ordering.TheVariants.{Less}
use Rattle.std.specs.FinMap.{is_sorted}
use Rattle.std.specs.FinMap.Entries.{below_all}
use Rattle.std.proofs.lemmas.Cmp.{nat_list_cmp_total}
use Rattle.std.proofs.lemmas.List.{append-nil, append_assoc, length-append}
use Rattle.blsm_model.specs.declared.key.Key.{Key}
use Rattle.blsm_model.specs.declared.row.Row.{Row}
use Rattle.blsm_model.specs.declared.row.Value.{Value}
use Rattle.blsm_model.specs.Keys.{key_cmp, in_range}
use Rattle.blsm_model.specs.Rows.{with_value}
use Rattle.record_delta.specs.declared.record.Rec.{Rec}
use Rattle.record_delta.specs.Records.{settle}
use Rattle.record_delta.specs.Entries.{Entries, AreSorted, is_above, above, first_of}
use Rattle.merge_step.proofs.MergedLemmas.{left, right, less, test, turned}
use Rattle.merge_step.proofs.TakenLemmas.{below_above, taken}
use Rattle.merge_ends.proofs.GroupLemmas.{first_none, further}
use Rattle.tree_machine.specs.Lists.{settled_pairs}
use Rattle.scan_view.specs.Hold.{AreGiven, rows_of}
use Rattle.scan_view.proofs.FoldLemmas.{sorted_above}

-- ---- the pairs

-- a pair below all others goes in front
abbrev in_front : Key → Option Value → List (Key × Value) → List (Key × Value)
in_front key None pairs = pairs
in_front key (Some value) pairs = (key, value) ∷ pairs

front_is : (key : Key) (found : Option Value) (pairs : List (Key × Value)) → T (below_all key_cmp key pairs) → with_value key found pairs ≡ in_front key found pairs
front_is key None pairs below = refl
front_is key (Some value) [] below = refl
front_is key (Some value) (p ∷ ps) below = grind (arith, common_steps, nat_tests, less, left)

below_pairs : (es : Entries) → T (is_sorted key_cmp es) → (key : Key) → T (below_all key_cmp key es) → T (below_all key_cmp key (settled_pairs es))
below_pairs [] sorted key below = tt
below_pairs (e ∷ es) sorted key below =
    let rest : T (is_sorted key_cmp es) = right (below_all key_cmp e.0 es) (is_sorted key_cmp es) sorted in
    grind (arith, common_steps, nat_tests, front_is, right, left, below_pairs es rest)

pairs_front : (e : Key × Rec) (es : Entries) → T (is_sorted key_cmp (e ∷ es)) → settled_pairs (e ∷ es) ≡ in_front e.0 (settle e.1) (settled_pairs es)
pairs_front e es sorted = front_is e.0 (settle e.1) (settled_pairs es) (below_pairs es (right _ _ sorted) e.0 (left _ _ sorted))

-- ---- the rows

abbrev row_of : Key × Value → Row
row_of p = record { key = p.0; value = p.1 }

abbrev rows_in_pairs : Key → Key → List (Key × Value) → List Row
rows_in_pairs low high pairs = map (λ p. record { key = p.0; value = p.1 }) (filter (λ p. in_range low high p.0) pairs)

-- the rows of a list are those of its first entry and those of the others
pub rows_cons : (low high : Key) (e : Key × Rec) (es : Entries) → AreSorted (e ∷ es) → rows_of low high (e ∷ es) ≡ rows_of low high (e ∷ []) ++ rows_of low high es
rows_cons low high e es sorted = grind (arith, common_steps, nat_tests, pairs_front, test)

-- ---- behind the range

-- a key that isn't below high is outside
pub outside : (low high key : Key) → is_lt (key_cmp key high) ≡ false → in_range low high key ≡ false
outside low high key past = grind (arith, common_steps, nat_tests)

pub rows_outside : (low high : Key) (e : Key × Rec) → in_range low high e.0 ≡ false → rows_of low high (e ∷ []) ≡ []
rows_outside low high e apart = grind (arith, common_steps, nat_tests)

-- a key above one that isn't below high isn't either
pub still_past : (high a b : Key) → is_lt (key_cmp a high) ≡ false → key_cmp a b ≡ Less → is_lt (key_cmp b high) ≡ false
still_past high a b past rises = grind (arith, common_steps, nat_tests, nat_list_cmp_total)

-- ---- what a scan comes to

-- nothing is above the key
pub rows_none : (low high : Key) (at : Option Key) (es : Entries) → first_of (above at es) ≡ None → rows_of low high (above at es) ≡ []
rows_none low high at es is = ap (rows_of low high) (first_none (above at es) is)

-- the first one above it is passed
pub rows_step : (low high : Key) (at : Option Key) (es : Entries) (e : Key × Rec) → AreSorted es → first_of (above at es) ≡ Some e
    → rows_of low high (above at es) ≡ rows_of low high (e ∷ []) ++ rows_of low high (above (Some e.0) es)
rows_step low high at es e sorted is = let left : AreSorted (above at es) = sorted_above at es sorted in grind (arith, common_steps, nat_tests, rows_cons, taken)

-- ---- all rows, and the first n

-- the rows so far, and those that are above the place
abbrev pub AreSoFar : (low high : Key) (old at : Option Key) → List Row → Entries → Type 0
AreSoFar low high old at rows view = rows_of low high (above old view) ≡ rows ++ rows_of low high (above at view)

abbrev pub AreFirst : ℕ → (low high : Key) (old at : Option Key) → List Row → Entries → Type 0
AreFirst n low high old at rows view = (rows ≡ take n (rows_of low high (above old view))) × (rows_of low high (above at view) ≡ drop n (rows_of low high (above old view)))

pub first_rows : (n : ℕ) (low high : Key) (old at : Option Key) (rows : List Row) (view : Entries) → AreSoFar low high old at rows view → length rows ≡ n → AreFirst n low high old at rows view
first_rows n low high old at rows view is long = grind (arith, common_steps, nat_tests)

pub last_rows : (n : ℕ) (low high : Key) (old at : Option Key) (rows : List Row) (view : Entries) → AreSoFar low high old at rows view → rows_of low high (above at view) ≡ [] → length rows ≤ n
    → AreFirst n low high old at rows view
last_rows n low high old at rows view is ended few = grind (arith, common_steps, nat_tests)

-- with the row of the first one that is left
pub rows_on : (low high : Key) (old at new : Option Key) (rows more : List Row) (view : Entries) (e : Key × Rec) → AreSorted view → first_of (above at view) ≡ Some e → AreSoFar low high old at rows view
    → more ≡ rows ++ rows_of low high (e ∷ []) → new ≡ Some e.0 → AreSoFar low high old new more view
rows_on low high old at new rows more view e h1 h2 h3 h4 h5 = grind (arith, common_steps, nat_tests, rows_step, append_assoc)

-- ---- on any disk

all_more : (P : Row → Type 0) (rows : List Row) (r : Row) → AllByRecursion P rows → P r → AllByRecursion P (rows ++ r ∷ [])
all_more P [] r all last = (last, tt)
all_more P (x ∷ rows) r all last = (all.0, all_more P rows r all.1 last)

all_map : (P Q : Row → Type 0) (rows : List Row) → ((r : Row) → P r → Q r) → AllByRecursion P rows → AllByRecursion Q rows
all_map P Q [] each all = tt
all_map P Q (x ∷ rows) each all = (each x all.0, all_map P Q rows each all.1)

-- rows that were given before, up to a place, and those that are given from there: all of them rise
pub rise_on : (place : Option Key) (before rows : List Row) → IsStrictlySortedBy key_cmp (map (λ r. r.key) before) → AllByRecursion (λ r. is_above place r.key ≡ false) before
    → IsStrictlySortedBy key_cmp (map (λ r. r.key) rows) → AllByRecursion (λ r. is_above place r.key ≡ true) rows → IsStrictlySortedBy key_cmp (map (λ r. r.key) (before ++ rows))
unfolding IsStrictlySortedBy
rise_on place [] rows rise up_to rows_rise rows_above = rows_rise
rise_on place (x ∷ before) rows rise up_to rows_rise rows_above = (all_below before rise.0, rise_on place before rows rise.1 up_to.1 rows_rise rows_above)
  where
    below_rows : (rs : List Row) → AllByRecursion (λ r. is_above place r.key ≡ true) rs → AllByRecursion (λ k. key_cmp x.key k ≡ Less) (map (λ r. r.key) rs)
    below_rows [] all = tt
    below_rows (r ∷ rs) all = (below_above place x.key r.key up_to.0 all.0, below_rows rs all.1)

    all_below : (rs : List Row) → AllByRecursion (λ k. key_cmp x.key k ≡ Less) (map (λ r. r.key) rs) → AllByRecursion (λ k. key_cmp x.key k ≡ Less) (map (λ r. r.key) (rs ++ rows))
    all_below [] all = below_rows rows rows_above
    all_below (r ∷ rs) all = (all.0, all_below rs all.1)

-- a place that goes on to a greater key
pub given_on : (n : ℕ) (low high : Key) (old at : Option Key) (key : Key) (rows : List Row) → is_above at key ≡ true → AreGiven n low high old at rows → AreGiven n low high old (Some key) rows
given_on n low high old at key rows h1 h2 = grind (arith, common_steps, nat_tests, all_map, turned, below_above, further)

-- and the row of that key
pub given_more : (n : ℕ) (low high : Key) (old at : Option Key) (key : Key) (rec : Rec) (rows : List Row) → is_above at key ≡ true → length rows < n → AreGiven n low high old at rows
    → AreGiven n low high old (Some key) (rows ++ rows_of low high ((key, rec) ∷ []))
unfolding IsStrictlySortedBy
given_more n low high old at key rec rows key_above short given = by (settle rec)
  where
    on : AreGiven n low high old (Some key) rows
    on = given_on n low high old at key rows key_above given

    none : AreGiven n low high old (Some key) (rows ++ [])
    none = subst (AreGiven n low high old (Some key)) (sym (append-nil rows)) on

    one : (r : Row) → r.key ≡ key → in_range low high r.key ≡ true → AreGiven n low high old (Some key) (rows ++ r ∷ [])
    one r is inside = record {
      few = omega (arith, length-append rows (r ∷ []), short);
      inside = all_more (λ r. in_range low high r.key ≡ true) rows r on.inside inside;
      rise = rise_on at rows (r ∷ []) on.rise given.up_to_new (tt, tt) (ap (is_above at) is ∙ key_above, tt);
      above_old = all_more (λ r. is_above old r.key ≡ true) rows r on.above_old (ap (is_above old) is ∙ given.onward key key_above);
      up_to_new = all_more (λ r. is_above (Some key) r.key ≡ false) rows r on.up_to_new (ap (is_above (Some key)) is ∙ ap is_lt (tied_itself nat_list_cmp_total key));
      onward = on.onward;
    }

    by : (found : Option Value) → AreGiven n low high old (Some key) (rows ++ rows_in_pairs low high (with_value key found []))
    by None = none
    by (Some value) =
        elim (in_range low high key) as (λ b. in_range low high key ≡ b → AreGiven n low high old (Some key) (rows ++ map (λ (p : Key × Value). row_of p) (cond b ((key, value) ∷ []) []))) [
          | true ↦ one (record { key = key; value = value }) refl
          | false ↦ λ outside. none
        ] refl

pub given_none : (n : ℕ) (low high : Key) (at : Option Key) → AreGiven n low high at at []
unfolding IsStrictlySortedBy
given_none n low high at = record { few = omega arith; inside = tt; rise = tt; above_old = tt; up_to_new = tt; onward = λ q q_above. q_above }

-- ---- rows that were given before

-- and all are up to the new place
pub up_to_on : (old new : Option Key) (before rows : List Row) → ((key : Key) → is_above new key ≡ true → is_above old key ≡ true) → AllByRecursion (λ r. is_above old r.key ≡ false) before
    → AllByRecursion (λ r. is_above new r.key ≡ false) rows → AllByRecursion (λ r. is_above new r.key ≡ false) (before ++ rows)
up_to_on old new [] rows onward up_to rows_up_to = rows_up_to
up_to_on old new (x ∷ before) rows onward up_to rows_up_to = grind (arith, common_steps, nat_tests, up_to_on old new before rows onward up_to.1 rows_up_to)

-- before any row
pub none_rise : IsStrictlySortedBy key_cmp (map (λ (r : Row). r.key) [])
unfolding IsStrictlySortedBy
none_rise = tt
