-- How many keys a map has after one more write, and that flags by places of keys tell it.
use Rattle.std.proofs.lemmas.Grind.{common_steps}
use Rattle.std.proofs.Common.{◌≡◌, ◌≢◌, ℕ, ◌+◌, ◌*◌, ◌/◌, ◌%◌, ◌<◌, ◌⊎◌, inl, inr, Bool, true, false, cond, not, List, [], ◌∷◌, ◌++◌, Option, Some, None, length, get_or, set, replicate, is_some, refl, sym, ap, subst, ◌∙◌, T, arith}
use Rattle.std.specs.List.{count_by}
use Rattle.std.specs.Ordering.{eq_by_cmp}
use Rattle.std.specs.Cmp.Lexicographic.{texts_ties, bytes_decides}
use Rattle.std.proofs.lemmas.Cmp.{nat_list_cmp_total}
use Rattle.std.specs.FinMap.{find, is_sorted, put, slice_cmp-IsAntisymmetric, nat_cmp-IsAntisymmetric}
use Rattle.std.specs.FinMap.Entries.{find-put, find-where_key, is_sorted-put, is_sorted-where_key, length-put, length_without, same_entries, where_key}
use Rattle.std.proofs.lemmas.List.{get_or-replicate, get_or-set_other, get_or-set_same, length-set}
use Rattle.std.proofs.lemmas.List.Folds.{sum_by-replicate}
use Rattle.std.proofs.lemmas.List.Sums.{sum_by-set}
use Rattle.std.proofs.lemmas.Bool.Decides.{eqb_tells, nat_tests}
use Rattle.std.proofs.Math.ListN.{length-replicate}
use Rattle.blsm_model.specs.declared.key.Key.{Key}
use Rattle.blsm_model.specs.declared.row.Value.{Value}
use Rattle.blsm_model.specs.declared.op.Write.{Write}
use Rattle.blsm_model.specs.declared.op.Write.TheVariants.{Put, Add, Tail, Del}
use Rattle.blsm_model.specs.Keys.{key_cmp, same_key}
use Rattle.blsm_model.specs.Values.{key_of, value_at}
use Rattle.blsm_model.specs.Rows.{map_of}
use Rattle.blsm_model.proofs.RowLemmas.{find-map_of, is_sorted-map_of}
use Rattle.blsm_model.proofs.ValueLemmas.{value_at-add, value_at-del, value_at-other, value_at-put, value_at-tail}
use Rattle.script_text.specs.Generated.{digit_at, key_at}
use Rattle.script_text.specs.Summary.{Tells}

-- the digits of a key, each by its byte
pub record AreDigits (bytes : List ℕ) (place : ℕ) : Type 0 where
  pub six : length bytes ≡ 6
  pub first : get_or bytes 1 0 ≡ digit_at 10000 place
  pub second : get_or bytes 2 0 ≡ digit_at 1000 place
  pub third : get_or bytes 3 0 ≡ digit_at 100 place
  pub fourth : get_or bytes 4 0 ≡ digit_at 10 place
  pub fifth : get_or bytes 5 0 ≡ digit_at 1 place

pub digits_are : (bytes : List ℕ) (place : ℕ) → bytes ≡ key_at place → AreDigits bytes place
unfolding key_at
digits_are bytes place is = record {
  six = ap (λ (b : List ℕ). length b) is;
  first = ap (λ (b : List ℕ). get_or b 1 0) is;
  second = ap (λ (b : List ℕ). get_or b 2 0) is;
  third = ap (λ (b : List ℕ). get_or b 3 0) is;
  fourth = ap (λ (b : List ℕ). get_or b 4 0) is;
  fifth = ap (λ (b : List ℕ). get_or b 5 0) is;
}

pub place_is : (bytes : List ℕ) (place a b c d e : ℕ) → place < 1500 → AreDigits bytes place
    → a + 48 ≡ get_or bytes 1 0 → b + 48 ≡ get_or bytes 2 0 → c + 48 ≡ get_or bytes 3 0 → d + 48 ≡ get_or bytes 4 0 → e + 48 ≡ get_or bytes 5 0
    → a * 10000 + b * 1000 + c * 100 + d * 10 + e ≡ place
place_is bytes place a b c d e h1 h2 h3 h4 h5 h6 h7 = grind (arith, common_steps, nat_tests)

-- and no two places have one key
one_place : (p q : ℕ) → p < 1500 → q < 1500 → key_at p ≡ key_at q → p ≡ q
one_place p q small_p small_q is =
    let of_p = digits_are (key_at p) p refl in
    let of_q = digits_are (key_at p) q is in
    let digit : (n : ℕ) → (n % 10) + 48 ≡ 48 + n % 10 = λ n. omega arith in
    sym (place_is (key_at p) p (p / 10000 % 10) (p / 1000 % 10) (p / 100 % 10) (p / 10 % 10) (p / 1 % 10) small_p of_p
    (digit (p / 10000) ∙ sym of_p.first) (digit (p / 1000) ∙ sym of_p.second) (digit (p / 100) ∙ sym of_p.third) (digit (p / 10) ∙ sym of_p.fourth) (digit (p / 1) ∙ sym of_p.fifth))
    ∙ place_is (key_at p) q (p / 10000 % 10) (p / 1000 % 10) (p / 100 % 10) (p / 10 % 10) (p / 1 % 10) small_q of_q
    (digit (p / 10000) ∙ sym of_p.first) (digit (p / 1000) ∙ sym of_p.second) (digit (p / 100) ∙ sym of_p.third) (digit (p / 10) ∙ sym of_p.fourth) (digit (p / 1) ∙ sym of_p.fifth)

by_test : (b : Bool) → (b ≡ true) ⊎ (b ≡ false)
by_test b = grind (arith, common_steps, nat_tests)

abbrev ties : Key → Key → Bool
ties q k = eq_by_cmp key_cmp q k

tied : (q k : Key) → ties q k ≡ true → q ≡ k
tied q k e = (bytes_decides q k).0 (texts_ties q k ∙ e)

ties_back : (q k : Key) → ties q k ≡ false → ties k q ≡ false
ties_back q k apart = elim (by_test (ties k q)) [
  | inl same ↦ let again : ties q k ≡ true = subst (λ (x : Key). ties q x ≡ true) (sym (tied k q same)) (itself q) in cc
  | inr other ↦ other
]
  where
    itself : (x : Key) → ties x x ≡ true
    itself x = sym (texts_ties x x) ∙ (bytes_decides x x).1 refl

-- another key keeps its value
other_value : (writes : List Write) (w : Write) (q : Key) → ties q (key_of w) ≡ false → value_at (writes ++ w ∷ []) q ≡ value_at writes q
other_value writes w q apart = value_at-other writes w q (texts_ties (key_of w) q ∙ ties_back q (key_of w) apart)

same_map : (writes : List Write) (es : List (Key × Value)) → T (is_sorted key_cmp es) → ((q : Key) → value_at writes q ≡ find key_cmp q es) → map_of writes ≡ es
same_map writes es s alike =
    same_entries key_cmp nat_list_cmp_total (slice_cmp-IsAntisymmetric nat_cmp-IsAntisymmetric) (map_of writes) es (is_sorted-map_of writes) s (λ q. find-map_of writes q ∙ alike q)

-- a key that is written is in the map, as its one key more, if it wasn't
length_set : (writes : List Write) (w : Write) (value : Value) → value_at (writes ++ w ∷ []) (key_of w) ≡ Some value
    → length (map_of (writes ++ w ∷ [])) ≡ cond (is_some (value_at writes (key_of w))) (length (map_of writes)) (length (map_of writes) + 1)
length_set writes w value is =
    ap (λ (es : List (Key × Value)). length es) (same_map (writes ++ w ∷ []) (put key_cmp (key_of w) value (map_of writes)) (is_sorted-put key_cmp nat_list_cmp_total (key_of w) value (map_of writes) (is_sorted-map_of writes)) at)
    ∙ length-put key_cmp nat_list_cmp_total (key_of w) value (map_of writes) (is_sorted-map_of writes)
    ∙ ap (λ (o : Option Value). cond (is_some o) (length (map_of writes)) (length (map_of writes) + 1)) (find-map_of writes (key_of w))
  where
    at : (q : Key) → value_at (writes ++ w ∷ []) q ≡ find key_cmp q (put key_cmp (key_of w) value (map_of writes))
    at q = elim (by_test (ties q (key_of w))) [
      | inl same ↦ ap (value_at (writes ++ w ∷ [])) (tied q (key_of w) same) ∙ is ∙ ap (λ b. cond b (Some value) (find key_cmp q (map_of writes))) (sym same) ∙ sym (find-put key_cmp nat_list_cmp_total q (key_of w) value (map_of writes))
      | inr apart ↦ other_value writes w q apart ∙ sym (find-map_of writes q) ∙ ap (λ b. cond b (Some value) (find key_cmp q (map_of writes))) (sym apart) ∙ sym (find-put key_cmp nat_list_cmp_total q (key_of w) value (map_of writes))
    ]

-- and one that is removed isn't
length_unset : (writes : List Write) (w : Write) → value_at (writes ++ w ∷ []) (key_of w) ≡ None
    → cond (is_some (value_at writes (key_of w))) 1 0 + length (map_of (writes ++ w ∷ [])) ≡ length (map_of writes)
length_unset writes w is =
    ap (λ (o : Option Value). cond (is_some o) 1 0 + length (map_of (writes ++ w ∷ []))) (sym (find-map_of writes (key_of w)))
    ∙ ap (λ (es : List (Key × Value)). cond (is_some (find key_cmp (key_of w) (map_of writes))) 1 0 + length es)
    (same_map (writes ++ w ∷ []) (where_key key_cmp (λ x. not (ties (key_of w) x)) (map_of writes)) (is_sorted-where_key key_cmp (λ x. not (ties (key_of w) x)) (map_of writes) (is_sorted-map_of writes)) at)
    ∙ length_without key_cmp nat_list_cmp_total (key_of w) (map_of writes) (is_sorted-map_of writes)
  where
    left : (q : Key) → find key_cmp q (where_key key_cmp (λ x. not (ties (key_of w) x)) (map_of writes)) ≡ cond (not (ties (key_of w) q)) (find key_cmp q (map_of writes)) None
    left q = find-where_key key_cmp (λ x. not (ties (key_of w) x)) q (λ k e. ap (λ (x : Key). not (ties (key_of w) x)) (sym (slice_cmp-IsAntisymmetric nat_cmp-IsAntisymmetric q k e))) (map_of writes)

    at : (q : Key) → value_at (writes ++ w ∷ []) q ≡ find key_cmp q (where_key key_cmp (λ x. not (ties (key_of w) x)) (map_of writes))
    at q = elim (by_test (ties (key_of w) q)) [
      | inl same ↦ ap (value_at (writes ++ w ∷ [])) (sym (tied (key_of w) q same)) ∙ is ∙ ap (λ b. cond (not b) (find key_cmp q (map_of writes)) None) (sym same) ∙ sym (left q)
      | inr apart ↦ other_value writes w q (ties_back (key_of w) q apart) ∙ sym (find-map_of writes q) ∙ ap (λ b. cond (not b) (find key_cmp q (map_of writes)) None) (sym apart) ∙ sym (left q)
    ]

-- whether a key is present after its write
abbrev leaves : Write → Bool
leaves (Put key value) = true
leaves (Add key count) = true
leaves (Tail key tail) = true
leaves (Del key) = false

itself : (k : Key) → same_key k k ≡ true
itself k = (bytes_decides k k).1 refl

left_value : (writes : List Write) (w : Write) → is_some (value_at (writes ++ w ∷ []) (key_of w)) ≡ leaves w
left_value writes w = grind (arith, common_steps, nat_tests, is_some, value_at-put, itself, value_at-add, value_at-tail, value_at-del)

-- the flags that are up are as many as the keys, after one more write too
recounted : (flags : List Bool) (writes : List Write) (w : Write) (place : ℕ) → place < length flags → get_or flags place false ≡ is_some (value_at writes (key_of w)) → count_by (λ flag. flag) flags ≡ length (map_of writes)
    → count_by (λ flag. flag) (set flags place (leaves w)) ≡ length (map_of (writes ++ w ∷ []))
recounted flags writes w place within was so_far = by_value (value_at (writes ++ w ∷ []) (key_of w)) (leaves w) refl (left_value writes w)
  where
    more : (old : Bool) (c n l m : ℕ) → n ≡ l → c + cond old 1 0 ≡ n + 1 → m ≡ cond old l (l + 1) → c ≡ m
    more old c n l m h1 h2 h3 = grind (arith, common_steps, nat_tests)

    fewer : (old : Bool) (c n l m : ℕ) → n ≡ l → c + cond old 1 0 ≡ n + 0 → cond old 1 0 + m ≡ l → c ≡ m
    fewer old c n l m h1 h2 h3 = grind (arith, common_steps, nat_tests)

    change : (b : Bool) → count_by (λ flag. flag) (set flags place b) + cond (is_some (value_at writes (key_of w))) 1 0 ≡ count_by (λ flag. flag) flags + cond b 1 0
    change b = ap (λ (old : Bool). count_by (λ flag. flag) (set flags place b) + cond old 1 0) (sym was) ∙ sum_by-set (λ (flag : Bool). cond flag 1 0) flags place b false within

    by_value : (o : Option Value) (b : Bool) → value_at (writes ++ w ∷ []) (key_of w) ≡ o → is_some o ≡ b → count_by (λ flag. flag) (set flags place b) ≡ length (map_of (writes ++ w ∷ []))
    by_value (Some value) true is left = more (is_some (value_at writes (key_of w))) _ _ (length (map_of writes)) _ so_far (change true) (length_set writes w value is)
    by_value None false is left = fewer (is_some (value_at writes (key_of w))) _ _ (length (map_of writes)) _ so_far (change false) (length_unset writes w is)
    by_value (Some value) false is left = cc
    by_value None true is left = cc

-- the flag of the key that is written is set to whether it is present then
pub tells_more : (flags : List Bool) (writes : List Write) (w : Write) (place : ℕ) → place < 1500 → key_of w ≡ key_at place → Tells flags writes → Tells (set flags place (leaves w)) (writes ++ w ∷ [])
tells_more flags writes w place below is tells =
    let within : place < length flags = omega (arith, tells.all) in
    record {
      all = length-set flags place (leaves w) ∙ tells.all;
      each = λ j small. elim (eqb_tells j place) [
        | inl same ↦
            ap (λ n. get_or (set flags place (leaves w)) n false) same.1 ∙ get_or-set_same flags place (leaves w) false within
            ∙ sym (left_value writes w) ∙ ap (λ (k : Key). is_some (value_at (writes ++ w ∷ []) k)) (is ∙ ap key_at (sym same.1))
        | inr other ↦
            get_or-set_other flags place j (leaves w) false other.1 ∙ tells.each j small
            ∙ ap (λ (o : Option Value). is_some o) (sym (other_value writes w (key_at j) (apart j small other.1)))
      ];
      present = recounted flags writes w place within (tells.each place below ∙ ap (λ (k : Key). is_some (value_at writes k)) (sym is)) tells.present;
    }
  where
    apart : (j : ℕ) → j < 1500 → j ≢ place → ties (key_at j) (key_of w) ≡ false
    apart j h1 h2 = grind (arith, common_steps, nat_tests, by_test, one_place, tied)

-- at the start no key is present
pub tells_none : Tells (replicate 1500 false) []
tells_none = record {
  all = length-replicate 1500 false;
  each = λ j small. get_or-replicate 1500 j false false small;
  present = sum_by-replicate (λ (flag : Bool). cond flag 1 0) 1500 false;
}
