-- Entries and places without the keys up to one.
use Rattle.std.proofs.lemmas.Bool.Decides.{nat_tests}
use Rattle.std.proofs.lemmas.Grind.{common_steps}
use Rattle.std.proofs.Common.{◌≡◌, ◌≢◌, ℕ, zero, suc, ◌+◌, ◌<◌, ◌≤◌, true, false, cond, T, List, [], ◌∷◌, length, set, Option, Some, None, IfSome, refl, ap, sym, subst, ◌∙◌, arith}
use Rattle.std.specs.List.{AllByRecursion}
use Rattle.std.specs.Ordering.{is_lt}
use Rattle.std.specs.declared.cmp.Ordering.TheVariants.{Less}
use Rattle.std.specs.FinMap.{is_sorted}
use Rattle.std.specs.Cmp.{tied_itself}
use Rattle.std.proofs.lemmas.Bool.{false≢true}
use Rattle.std.proofs.lemmas.Cmp.{nat_list_cmp_total}
use Rattle.blsm_model.specs.declared.key.Key.{Key}
use Rattle.blsm_model.specs.Keys.{key_cmp}
use Rattle.record_delta.specs.declared.record.Rec.{Rec}
use Rattle.record_delta.specs.Entries.{Entries, entries_weight, record_of_key, is_above, above, up_to, first_of}
use Rattle.entry_store.specs.Stores.{vacant}
use Rattle.mem_table.specs.Ways.{entry_at}
use Rattle.mem_table.specs.Tables.{Contents, is_there, place_in, left_above, raised, dropped_to, begins_by, keys_of}
use Rattle.mem_table.proofs.SortedLemmas.{both_hold}
use Rattle.mem_table.proofs.PlaceLemmas.{tied, there_other}
use Rattle.mem_table.proofs.WayLemmas.{less_of_greater, all_beyond}

-- ---- among keys

pub above_none : (low : Key) → is_above (Some low) [] ≡ false
above_none [] = refl
above_none (b ∷ low) = refl

-- a key that isn't above another one, and what is above that one
pub above_lower : (low key k : Key) → is_above (Some key) low ≡ false → is_above (Some key) k ≡ true → is_above (Some low) k ≡ true
above_lower low key k h1 h2 = grind (arith, common_steps, nat_tests, nat_list_cmp_total, tied, less_of_greater)

above_higher : (floor low key : Key) → is_above (Some key) low ≡ false → is_above (Some floor) low ≡ true → is_above (Some floor) key ≡ true
above_higher floor low key h1 h2 = grind (arith, common_steps, nat_tests, nat_list_cmp_total, tied, less_of_greater)

same_if_neither : (low key : Key) → is_above (Some key) low ≡ false → is_above (Some low) key ≡ false → low ≡ key
same_if_neither low key h1 h2 = grind (arith, common_steps, nat_tests, tied, less_of_greater)

-- ---- once more, up to a greater key

module _ (low key : Key) (lower : is_above (Some key) low ≡ false) where
  above_twice : (es : Entries) → above (Some key) (above (Some low) es) ≡ above (Some key) es
  above_twice [] = refl
  above_twice (e ∷ es) = grind (arith, common_steps, nat_tests, above_twice es, above_lower low key e.0 lower)

  weight_twice : (es : Entries)
      → entries_weight (up_to (Some low) es) + entries_weight (up_to (Some key) (above (Some low) es)) ≡ entries_weight (up_to (Some key) es)
  weight_twice [] = refl
  weight_twice (e ∷ es) = grind (arith, common_steps, nat_tests, weight_twice es, above_lower low key e.0 lower)

  left_twice : (ks : List Key) → left_above key (left_above low ks) ≡ left_above key ks
  left_twice [] = refl
  left_twice (k ∷ ks) = grind (arith, common_steps, nat_tests, left_twice ks, above_lower low key k lower, above_none key)

  raised_twice : (floor : Option Key) → raised key (raised low floor) ≡ raised key floor
  raised_twice None = grind (arith, common_steps, nat_tests, same_if_neither low key lower)
  raised_twice (Some f) = grind (arith, common_steps, nat_tests, same_if_neither low key lower, above_higher f low key lower)

  pub dropped_twice : (t : Contents) → dropped_to key (dropped_to low t) ≡ dropped_to key t
  dropped_twice t = grind (arith, common_steps, nat_tests, above_twice t.entries, weight_twice t.entries, left_twice t.arrived, raised_twice t.floor)

-- the first of entries that begin by a key
pub record BeginBy (key : Key) (es : Entries) : Type 0 where
  pub entry : Key × Rec
  pub first : first_of es ≡ Some entry
  pub lower : is_above (Some key) entry.0 ≡ false

begun : (key : Key) (es : Entries) → begins_by key es ≡ true → BeginBy key es
begun key [] is = absurd (false≢true is)
begun key (e ∷ es) is = record { entry = e; first = refl; lower = grind (arith, common_steps, nat_tests) }

-- one more was dropped, of those that are to be
pub dropped_further : (key : Key) (old new start : Contents) → begins_by key old.entries ≡ true
    → IfSome (first_of old.entries) (λ e. new ≡ dropped_to e.0 old) → dropped_to key old ≡ dropped_to key start
    → dropped_to key new ≡ dropped_to key start
dropped_further key old new start is one kept =
    let b = begun key old.entries is in
    let new_is : new ≡ dropped_to b.entry.0 old = subst (λ (o : Option (Key × Rec)). IfSome o (λ e. new ≡ dropped_to e.0 old)) b.first one in
    ap (dropped_to key) new_is ∙ dropped_twice b.entry.0 key b.lower old ∙ kept

-- ---- nothing is up to a key

pub all_above : (low : Option Key) (es : Entries) → AllByRecursion (λ e. is_above low e.0 ≡ true) es → (above low es ≡ es) × (up_to low es ≡ [])
all_above low [] all = (refl, refl)
all_above low (e ∷ es) all = grind (arith, common_steps, nat_tests, all_above low es all.1)

pub not_above_itself : (key : Key) → is_above (Some key) key ≡ false
not_above_itself key = ap is_lt (tied_itself nat_list_cmp_total key)

-- the first key alone is up to itself
pub first_dropped : (e : Key × Rec) (es : Entries) → AllByRecursion (λ x. is_above (Some e.0) x.0 ≡ true) es
    → (above (Some e.0) (e ∷ es) ≡ es) × (up_to (Some e.0) (e ∷ es) ≡ e ∷ [])
first_dropped e es all = grind (arith, common_steps, nat_tests, not_above_itself e.0, all_above (Some e.0) es all)

beyond_above : (low : Key) (es : Entries) → AllByRecursion (λ e. key_cmp low e.0 ≡ Less) es → AllByRecursion (λ e. is_above (Some low) e.0 ≡ true) es
beyond_above low [] all = tt
beyond_above low (e ∷ es) all = (ap is_lt all.0, beyond_above low es all.1)

-- what stands behind a key that is above is above, too
further_above : (low key : Key) (es : Entries) → is_above (Some low) key ≡ true → AllByRecursion (λ e. key_cmp key e.0 ≡ Less) es
    → AllByRecursion (λ e. is_above (Some low) e.0 ≡ true) es
further_above low key [] is all = tt
further_above low key (e ∷ es) is all = (grind (arith, common_steps, nat_tests, nat_list_cmp_total, all.0), further_above low key es is all.1)

pub above_first : (e : Key × Rec) (es : Entries) → T (is_sorted key_cmp (e ∷ es)) → AllByRecursion (λ x. is_above (Some e.0) x.0 ≡ true) es
above_first e es sorted = beyond_above e.0 es (all_beyond e.0 es (both_hold _ _ sorted).0)

pub above_begins : (key : Key) (es : Entries) → T (is_sorted key_cmp es) → begins_by key es ≡ false
    → AllByRecursion (λ e. is_above (Some key) e.0 ≡ true) es
above_begins key [] sorted none = tt
above_begins key (e ∷ es) sorted none =
    let here : is_above (Some key) e.0 ≡ true = grind (arith, common_steps, nat_tests) in
    (here, further_above key e.0 es here (all_beyond e.0 es (both_hold _ _ sorted).0))

-- ---- the keys at their places

empty_key : (k : Key) → length k ≡ 0 → k ≡ []
empty_key [] none = refl
empty_key (b ∷ k) none = absurd (omega arith)

pub left_same : (low : Key) (slots : Entries) → ((q : ℕ) → 1 ≤ length (entry_at slots q).0 → is_above (Some low) (entry_at slots q).0 ≡ true)
    → left_above low (keys_of slots) ≡ keys_of slots
left_same low [] all = refl
left_same low (([], r) ∷ slots) all = grind (arith, common_steps, nat_tests, above_none low, left_same low slots (λ q one. all (suc q) one))
left_same low ((b ∷ k, r) ∷ slots) all = grind (arith, common_steps, nat_tests, all 0 (omega arith), left_same low slots (λ q one. all (suc q) one))

pub left_vacant : (low : Key) (slots : Entries) (p : ℕ) → p < length slots → is_above (Some low) (entry_at slots p).0 ≡ false
    → ((q : ℕ) → q ≢ p → 1 ≤ length (entry_at slots q).0 → is_above (Some low) (entry_at slots q).0 ≡ true)
    → keys_of (set slots p vacant) ≡ left_above low (keys_of slots)
left_vacant low [] p within here all = absurd (omega arith)
left_vacant low (e ∷ slots) zero within here all =
    ap (λ (k : Key). k ∷ keys_of slots) (sym (ap (λ b. cond b e.0 []) here))
    ∙ ap (λ (ks : List Key). cond (is_above (Some low) e.0) e.0 [] ∷ ks) (sym
    (left_same low slots (λ q one. all (suc q) (λ is. absurd (omega (arith, is))) one)))
left_vacant low (([], r) ∷ slots) (suc p) within here all =
    let rest = left_vacant low slots p (omega arith) here (λ q differs one. all (suc q) (λ is. differs (omega arith)) one) in
    grind (arith, common_steps, nat_tests, above_none low)
left_vacant low ((b ∷ k, r) ∷ slots) (suc p) within here all =
    let rest = left_vacant low slots p (omega arith) here (λ q differs one. all (suc q) (λ is. differs (omega arith)) one) in
    let high = all 0 (λ is. absurd (omega (arith, is))) (omega arith) in
    grind (arith, common_steps, nat_tests)

-- ---- what is read of them

pub record_left : (low : Key) (es : Entries) (other : Key)
    → record_of_key other (above (Some low) es) ≡ cond (is_above (Some low) other) (record_of_key other es) None
record_left low [] other = grind (arith, common_steps, nat_tests)
record_left low (e ∷ es) other = grind (arith, common_steps, nat_tests, record_left low es other, tied other e.0)

test_left : (low key k : Key) → is_above (Some low) key ≡ true → is_there key (cond (is_above (Some low) k) k []) ≡ is_there key k
test_left low key k high =
    elim (is_above (Some low) k) as (λ b. is_above (Some low) k ≡ b → is_there key (cond b k []) ≡ is_there key k) [
      | true ↦ λ is. refl
      | false ↦ λ is. sym (there_other key k (λ some same. absurd (false≢true (sym is ∙ sym (ap (is_above (Some low)) same) ∙ high))))
    ] refl

pub place_left : (low : Key) (ks : List Key) (key : Key) → is_above (Some low) key ≡ true → place_in key (left_above low ks) ≡ place_in key ks
place_left low [] key high = refl
place_left low (k ∷ ks) key high = grind (arith, common_steps, nat_tests, test_left low key k high, place_left low ks key high)

pub shorter_above : (low : Option Key) (es : Entries) → length (above low es) ≤ length es
shorter_above low [] = omega arith
shorter_above low (e ∷ es) = grind (arith, common_steps, nat_tests, shorter_above low es)
