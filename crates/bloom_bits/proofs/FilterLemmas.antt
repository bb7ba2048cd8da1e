-- Which bits are set once keys are added, and what they tell of a key.
use Rattle.std.proofs.lemmas.Bool.Decides.{nat_tests}
use Rattle.std.proofs.lemmas.Grind.{common_steps}
use Rattle.std.proofs.Common.{
  ◌≡◌,
  ◌↔◌,
  ◌⊎◌,
  ℕ,
  ◌+◌,
  ◌<◌,
  ◌≤◌,
  Bool,
  true,
  false,
  List,
  [],
  ◌∷◌,
  ◌++◌,
  length,
  take,
  drop,
  get_or,
  ap,
  sym,
  subst,
  ◌∙◌,
  inl,
  inr,
  arith,
}
use Rattle.std.specs.List.{Contains}
use Rattle.std.proofs.lemmas.List.{
  take_more,
  take_all,
  take_at,
  take-replicate,
  length-set,
  length-replicate,
  length-append,
  length-drop,
  get_or-take,
}
use Rattle.std.proofs.Math.Seq.{take-set-lt}
use Rattle.std.proofs.lemmas.List.Elements.{Contains-push, Contains-push_cases, Contains-append_left}
use Rattle.blsm_model.specs.declared.key.Key.{Key}
use Rattle.bit_set.specs.Bits.{Members, IsIn, none_of, with_place}
use Rattle.bloom_bits.specs.BitSet.{BitState, cleared, front_of}
use Rattle.bloom_bits.specs.Filter.{bit_positions, IsOfOne, HasKeys, AreCovered, MayHave}

-- ---- the bits of a front

pub in_front : (size : ℕ) (bits : Members) (place : ℕ) → place < size → IsIn (take size bits) place ↔ IsIn bits place
in_front size bits place below = let same = get_or-take size bits place false below in (λ is. sym same ∙ is, λ is. same ∙ is)

pub front_with : (size place : ℕ) (bits after : Members) → place < size → after ≡ with_place place bits → take size after ≡ with_place place (take size bits)
front_with size place bits after below is = ap (take size) is ∙ take-set-lt size bits place true below

-- a front of bits of which none is set
pub front_of_none : (size n : ℕ) (bits : Members) → size ≤ n → bits ≡ none_of n → front_of size bits ≡ cleared n size
front_of_none size n bits within is = ap (front_of size) is ∙ (λ i. record { reserved = length-replicate n false i; bits = take-replicate size n false within i })

-- the same where that front was cleared, of more bits
pub front_of_cleared : (size : ℕ) (bits after : Members) → size ≤ length bits → after ≡ none_of size ++ drop size bits → front_of size after ≡
    cleared (length bits) size
front_of_cleared size bits after within is =
    let long : length after ≡ length bits = ap length is ∙ length-append (none_of size) (drop size bits) ∙ omega
    (arith, length-replicate size false, length-drop size bits, within) in
    let front : take size after ≡ none_of size = ap (take size) is ∙ take_at (none_of size) (drop size bits) size (length-replicate size false) in
    λ i. record { reserved = long i; bits = front i }

-- ---- one bit more, and several

bit_more : (bits : List Bool) (p place : ℕ) → p < length bits → IsIn (with_place p bits) place ↔ (IsIn bits place ⊎ (p ≡ place))
bit_more bits p place h1 = grind (arith, common_steps, nat_tests)

-- these bits have the places of a list beside those that they had
pub record AreWith (old new : List Bool) (places : List ℕ) : Type 0 where
  pub long : length new ≡ length old
  pub set_are : (place : ℕ) → IsIn new place ↔ (IsIn old place ⊎ Contains places place)

pub with_more : (old new after : List Bool) (places : List ℕ) (n d : ℕ) → AreWith old new (take n places) → n < length places → get_or places n d < length new
    → after ≡ with_place (get_or places n d) new → AreWith old after (take (n + 1) places)
with_more old new after places n d before in_list within after_is =
    record { long = ap length after_is ∙ length-set new (get_or places n d) true ∙ before.long; set_are = λ place. (to place, from place) }
  where
    p : ℕ
    p = get_or places n d

    more_has : (place : ℕ) → Contains (take n places) place → Contains (take (n + 1) places) place
    more_has place has = subst (λ (l : List ℕ). Contains l place) (sym (take_more places n d in_list)) (Contains-append_left (take n places) (p ∷ []) place has)

    last_has : (place : ℕ) → p ≡ place → Contains (take (n + 1) places) place
    last_has place same = subst (λ q. Contains (take (n + 1) places) q) same (subst (λ (l : List ℕ). Contains l p) (sym (take_more places n d in_list)) (Contains-push (take n places) p))

    back : (place : ℕ) → IsIn new place ⊎ (p ≡ place) → IsIn after place
    back place either = subst (λ (b : List Bool). IsIn b place) (sym after_is) ((bit_more new p place within).1 either)

    to : (place : ℕ) → IsIn after place → IsIn old place ⊎ Contains (take (n + 1) places) place
    to place is_set =
        elim ((bit_more new p place within).0 (subst (λ (b : List Bool). IsIn b place) after_is is_set)) [
          | inl was ↦ elim ((before.set_are place).0 was) [ inl first ↦ inl first | inr has ↦ inr (more_has place has) ]
          | inr same ↦ inr (last_has place same)
        ]

    from : (place : ℕ) → IsIn old place ⊎ Contains (take (n + 1) places) place → IsIn after place
    from place h1 = grind (arith, common_steps, nat_tests)

pub with_all : (old new : List Bool) (places want : List ℕ) (n : ℕ) → AreWith old new (take n places) → length places ≤ n → places ≡ want → AreWith old new want
with_all old new places want n are all same = subst (AreWith old new) (take_all n places all ∙ same) are

-- ---- the keys of a filter

-- no bit is set, so there is no key
pub no_keys : (filter : BitState) (reserved n : ℕ) → filter ≡ cleared reserved n → HasKeys filter []
no_keys filter reserved n h1 = grind (arith, common_steps, nat_tests)

pub keys_more : (old new : BitState) (keys : List Key) (key : Key) → AreWith old.bits new.bits (bit_positions (length old.bits) key) → HasKeys old keys → HasKeys new (keys ++ key ∷ [])
keys_more old new keys key more has = record { just = λ place. (to place, from place) }
  where
    now : (k : Key) (place : ℕ) → Contains (bit_positions (length old.bits) k) place → Contains (bit_positions (length new.bits) k) place
    now k place = subst (λ n. Contains (bit_positions n k) place) (sym more.long)

    before : (k : Key) (place : ℕ) → Contains (bit_positions (length new.bits) k) place → Contains (bit_positions (length old.bits) k) place
    before k place = subst (λ n. Contains (bit_positions n k) place) more.long

    to : (place : ℕ) → IsIn new.bits place → IsOfOne (length new.bits) (keys ++ key ∷ []) place
    to place is_set =
        elim ((more.set_are place).0 is_set) [
          | inl was ↦ let one = (has.just place).0 was in (one.0, Contains-append_left keys (key ∷ []) one.0 one.1, now one.0 place one.2)
          | inr its ↦ (key, Contains-push keys key, now key place its)
        ]

    from : (place : ℕ) → IsOfOne (length new.bits) (keys ++ key ∷ []) place → IsIn new.bits place
    from place one =
        elim (Contains-push_cases keys key one.0 one.1) [
          | inl earlier ↦ (more.set_are place).1 (inl ((has.just place).1 (one.0, earlier, before one.0 place one.2)))
          | inr same ↦ (more.set_are place).1 (inr (subst (λ k. Contains (bit_positions (length old.bits) k) place) (sym same) (before one.0 place one.2)))
        ]

-- a test that tells whether a filter may have a key tells whether the keys cover it
pub covered : (filter : BitState) (keys : List Key) (key : Key) (test : Bool) → (test ≡ true) ↔ MayHave filter key → HasKeys filter keys → (test ≡ true) ↔ AreCovered (length filter.bits) keys key
covered filter keys key test exactly has = (λ yes place its. (has.just place).0 (exactly.0 yes place its), λ are. exactly.1 (λ place its. (has.just place).1 (are place its)))
