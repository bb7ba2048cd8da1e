-- What a set of places is after a write to its words.
use Rattle.std.proofs.lemmas.Bool.Decides.{nat_tests}
use Rattle.std.proofs.lemmas.Grind.{common_steps}
use Rattle.std.proofs.Common.{
  ◌≡◌,
  ℕ,
  zero,
  suc,
  ◌*◌,
  ◌/◌,
  ◌%◌,
  ◌^◌,
  max,
  ◌<◌,
  Bool,
  true,
  false,
  ◌||◌,
  nat_eq,
  List,
  [],
  ◌∷◌,
  ◌++◌,
  length,
  replicate,
  drop,
  ◌-◌,
  ◌≤◌,
  get_or,
  set,
  bit_and,
  bit_or,
  refl,
  ap,
  sym,
  ◌∙◌,
  inl,
  inr,
  arith,
  w64,
}
use Rattle.std.specs.Int.{bit_at}
use Rattle.std.proofs.lemmas.Bool.{cases_eq, cases_lt}
use Rattle.std.proofs.lemmas.Nat.Bits.{shr_and_one, bit_at-zero, bit_at-lt, bit_at_or, bit_at_set_same, bit_at_set_other}
use Rattle.std.proofs.lemmas.List.{
  length-set,
  length-replicate,
  length-append,
  length-drop,
  get_or-set_same,
  get_or-set_other,
  get_or-replicate,
  get_or_append_left,
  get_or-append_right,
  get_or-drop,
  ext_get_or,
}
use Rattle.std.proofs.lemmas.List.FromFn.{length-map-range_with_len, get_or-map-range_with_len}
use Rattle.bit_set.specs.Bits.{Members, members, is_set, none_of, with_place, union, AreFor}

pub length-members : (places : ℕ) (words : List ℕ) → length (members places words) ≡ places
length-members places words = length-map-range_with_len (is_set words) 0 places

-- a place below the number is in the set where its bit is set
pub get_or-members : (places : ℕ) (words : List ℕ) (place : ℕ) → place < places → get_or (members places words) place false ≡ is_set words place
get_or-members places words place below = get_or-map-range_with_len (is_set words) 0 places place place false below (omega arith)

pub word_within : (places : ℕ) (words : List ℕ) (place : ℕ) → AreFor places words → place < places → place / 64 < length words
word_within places words place enough below = omega arith

-- two numbers of words stand for the same set where each place's bit is the same
same_members : (places : ℕ) (set : Members) (words : List ℕ) → length set ≡ places → ((place : ℕ) → place < places → is_set words place ≡ get_or set place false) → members places words ≡ set
same_members places set words long same =
    ext_get_or false (members places words) set (length-members places words ∙ sym long)
    (λ place below. let inside : place < places = omega (arith, below, length-members places words) in get_or-members places words place inside ∙ same place inside)

abbrev pub zeros : ℕ → List ℕ
zeros n = replicate n 0

zero_word : (n i : ℕ) → get_or (zeros n) i 0 ≡ zero
zero_word n i = grind (arith, common_steps, nat_tests)

pub members_none : (places n : ℕ) → members places (zeros n) ≡ none_of places
members_none places n =
    same_members places (none_of places) (zeros n) (length-replicate places false)
    (λ place below. ap (λ word. nat_eq (bit_at word (place % 64)) 1) (zero_word n (place / 64)) ∙ ap (λ b. nat_eq b 1) (bit_at-zero (place % 64)) ∙ sym (get_or-replicate places place false false below))

-- ---- a front of which no place is left

cleared_front : {X : Type 0} (xs : List X) (n i : ℕ) (x d : X) → i < n → get_or (replicate n x ++ drop n xs) i d ≡ x
cleared_front xs n i x d before = get_or_append_left (replicate n x) (drop n xs) d i (omega (arith, length-replicate n x)) ∙ get_or-replicate n i x d
    before

kept_back : {X : Type 0} (xs : List X) (n i : ℕ) (x d : X) → n ≤ i → get_or (replicate n x ++ drop n xs) i d ≡ get_or xs i d
kept_back xs n i x d behind =
    get_or-append_right (replicate n x) (drop n xs) n i d (length-replicate n x) behind ∙ get_or-drop n xs (i - n) d ∙ ap (λ k. get_or xs k d)
    (omega arith)

pub members_cleared : (places n : ℕ) (words : List ℕ) → 64 * n ≤ places → members places (zeros n ++ drop n words) ≡ none_of (64 * n) ++ drop
    (64 * n) (members places words)
members_cleared places n words inside =
    let before = members places words in
    same_members places (none_of (64 * n) ++ drop (64 * n) before) (zeros n ++ drop n words)
    (length-append (none_of (64 * n)) (drop (64 * n) before) ∙ omega (
      arith,
      length-replicate (64 * n) false,
      length-drop (64 * n) before,
      length-members places words,
    ))
    (λ place below.
    elim (cases_lt place (64 * n)) [
      | inl front ↦
          ap (λ word. nat_eq (bit_at word (place % 64)) 1) (cleared_front words n (place / 64) 0 0 (omega arith))
          ∙ ap (λ b. nat_eq b 1) (bit_at-zero (place % 64)) ∙ sym (cleared_front before (64 * n) place false false front)
      | inr behind ↦
          ap (λ word. nat_eq (bit_at word (place % 64)) 1) (kept_back words n (place / 64) 0 0 (omega arith))
          ∙ sym (kept_back before (64 * n) place false false behind ∙ get_or-members places words place below)
    ])

-- the test of a bit, as the code makes it
pub tested : (word place : ℕ) → nat_eq (bit_and (word / 2 ^ place) 1) 1 ≡ nat_eq (bit_at word place) 1
tested word place = ap (λ b. nat_eq b 1) (shr_and_one word place)

-- a word with one bit more
abbrev with_bit : ℕ → ℕ → ℕ
with_bit word place = bit_or word (1 * 2 ^ place % 18446744073709551616)

-- the words with the bit of a place set
abbrev pub words_with : List ℕ → ℕ → List ℕ
words_with words place = set words (place / 64) (with_bit (get_or words (place / 64) 0) (place % 64))

set_same : (words : List ℕ) (place : ℕ) → place / 64 < length words → is_set (words_with words place) place ≡ true
set_same words place within =
    ap (λ word. nat_eq (bit_at word (place % 64)) 1) (get_or-set_same words (place / 64) (with_bit (get_or words (place / 64) 0) (place % 64)) 0 within)
    ∙ ap (λ b. nat_eq b 1) (bit_at_set_same w64 (get_or words (place / 64) 0) (place % 64) (omega arith))

set_other : (words : List ℕ) (place k : ℕ) → place / 64 < length words → (k ≡ place → ⊥) → is_set (words_with words place) k ≡ is_set words k
set_other words place k within differs =
    elim (cases_eq (k / 64) (place / 64)) [
      | inl same ↦
          let other_bit : k % 64 ≡ place % 64 → ⊥ = λ bits. differs (omega (arith, same, bits)) in
          ap (λ i. nat_eq (bit_at (get_or (words_with words place) i 0) (k % 64)) 1) same
          ∙ ap (λ word. nat_eq (bit_at word (k % 64)) 1) (get_or-set_same words (place / 64) (with_bit (get_or words (place / 64) 0) (place % 64)) 0 within)
          ∙ ap (λ b. nat_eq b 1) (bit_at_set_other w64 (get_or words (place / 64) 0) (place % 64) (omega arith) (k % 64) other_bit)
          ∙ ap (λ i. nat_eq (bit_at (get_or words i 0) (k % 64)) 1) (sym same)
      | inr apart ↦ ap (λ word. nat_eq (bit_at word (k % 64)) 1) (get_or-set_other words (place / 64) (k / 64) (with_bit (get_or words (place / 64) 0) (place % 64)) 0 apart)
    ]

pub members_with : (places : ℕ) (words : List ℕ) (place : ℕ) → AreFor places words → place < places → members places (words_with words place) ≡ with_place place (members places words)
members_with places words place enough below =
    let before = members places words in
    same_members places (with_place place before) (words_with words place) (length-set before place true ∙ length-members places words)
    (λ k k_below.
    elim (cases_eq k place) [
      | inl same ↦
          ap (is_set (words_with words place)) same ∙ set_same words place (word_within places words place enough below)
          ∙ sym (ap (λ i. get_or (with_place place before) i false) same ∙ get_or-set_same before place true false (omega (arith, below, length-members places words)))
      | inr differs ↦
          set_other words place k (word_within places words place enough below) differs
          ∙ sym (get_or-set_other before place k true false differs ∙ get_or-members places words k k_below)
    ])

-- ---- the union

pub length-union : (xs ys : Members) → length xs ≡ length ys → length (union xs ys) ≡ length ys
length-union [] ys same = refl
length-union (x ∷ xs) [] same = absurd (omega (arith, same))
length-union (x ∷ xs) (y ∷ ys) same = ap suc (length-union xs ys (omega (arith, same)))

or_false : (b : Bool) → b ≡ (b || false)
or_false b = grind (arith, common_steps, nat_tests)

pub get_or-union : (xs ys : Members) (k : ℕ) → get_or (union xs ys) k false ≡ (get_or xs k false || get_or ys k false)
get_or-union [] ys k = refl
get_or-union (x ∷ xs) [] k = or_false (get_or (x ∷ xs) k false)
get_or-union (x ∷ xs) (y ∷ ys) zero = refl
get_or-union (x ∷ xs) (y ∷ ys) (suc k) = get_or-union xs ys k

max_is_one : (m n : ℕ) → m < 2 → n < 2 → nat_eq (max m n) 1 ≡ (nat_eq m 1 || nat_eq n 1)
max_is_one m n h1 h2 = grind (arith, common_steps, nat_tests)

bit_or_set : (a b place : ℕ) → nat_eq (bit_at (bit_or a b) place) 1 ≡ (nat_eq (bit_at a place) 1 || nat_eq (bit_at b place) 1)
bit_or_set a b place = ap (λ bit. nat_eq bit 1) (bit_at_or a b place) ∙ max_is_one (bit_at a place) (bit_at b place) (bit_at-lt a place) (bit_at-lt b place)

or_assoc : (a b c : Bool) → ((a || b) || c) ≡ (a || (b || c))
or_assoc a b c = grind (arith, common_steps, nat_tests)

-- words of which each has the bits of three others
pub members_union : (places : ℕ) (words a b c : List ℕ) → AreFor places words → ((i : ℕ) → i < length words → get_or words i 0 ≡ bit_or (bit_or (get_or a i 0) (get_or b i 0)) (get_or c i 0))
    → members places words ≡ union (members places a) (union (members places b) (members places c))
members_union places words a b c enough each =
    let bc_long = length-union (members places b) (members places c) (length-members places b ∙ sym (length-members places c)) ∙ length-members places c in
    let long = length-union (members places a) (union (members places b) (members places c)) (length-members places a ∙ sym bc_long) ∙ bc_long in
    same_members places (union (members places a) (union (members places b) (members places c))) words long
    (λ place below.
    let word = place / 64 in
    let bit = place % 64 in
    ap (λ w. nat_eq (bit_at w bit) 1) (each word (word_within places words place enough below))
    ∙ bit_or_set (bit_or (get_or a word 0) (get_or b word 0)) (get_or c word 0) bit
    ∙ ap (λ t. t || is_set c place) (bit_or_set (get_or a word 0) (get_or b word 0) bit)
    ∙ or_assoc (is_set a place) (is_set b place) (is_set c place)
    ∙ sym (
    get_or-union (members places a) (union (members places b) (members places c)) place
    ∙ ap (λ t. get_or (members places a) place false || t) (get_or-union (members places b) (members places c) place)
    ∙ ap (λ t. t || (get_or (members places b) place false || get_or (members places c) place false)) (get_or-members places a place below)
    ∙ ap (λ t. is_set a place || (t || get_or (members places c) place false)) (get_or-members places b place below)
    ∙ ap (λ t. is_set a place || (is_set b place || t)) (get_or-members places c place below)
    ))
