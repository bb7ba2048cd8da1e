-- Where a key is among fences.
use Rattle.std.proofs.lemmas.Bool.Decides.{nat_tests}
use Rattle.std.proofs.lemmas.Grind.{common_steps}
use Rattle.std.proofs.Common.{◌≡◌, ◌≢◌, ◌↔◌, ℕ, ◌+◌, ◌<◌, ◌≤◌, true, false, List, [], ◌∷◌, ◌++◌, length, take, drop, get_or, ap, sym, subst, ◌∙◌, inl, inr, length-drop, refl, arith}
use Rattle.std.specs.List.{AllPairs}
use Rattle.std.specs.List.Sorted.{IsPartitionedBy, IsPartitionPoint}
use Rattle.std.specs.Ordering.{is_le, is_lt, ordering_reverse}
use Rattle.std.specs.declared.cmp.Ordering.{Ordering}
use Rattle.std.specs.declared.cmp.Ordering.TheVariants.{Less}
use Rattle.std.proofs.lemmas.Bool.{true≢false, cases_lt}
use Rattle.std.proofs.lemmas.Cmp.{nat_list_cmp_total, alike_right}
use Rattle.std.proofs.lemmas.List.{take-append-drop, drop_more, get_or-drop, get_or_default, length-take-le}
use Rattle.blsm_model.specs.declared.key.Key.{Key}
use Rattle.blsm_model.specs.Keys.{key_cmp}
use Rattle.bloom_bits.specs.declared.fences.Fence.{Fence}
use Rattle.bloom_bits.specs.Fences.{IsAboveAll, IsBelowAll, IsPlaceOf, AreFences}

-- ---- the order of keys

above_if_not_le : (o : Ordering) → is_le o ≡ false → ordering_reverse o ≡ Less
above_if_not_le o h1 = grind (arith, common_steps, nat_tests)

-- the test of a key that isn't below a first key, and of one that is
below : (first key : Key) → is_le (key_cmp first key) ≡ false → key_cmp key first ≡ Less
below first key test = nat_list_cmp_total.antisymm key first ∙ above_if_not_le (key_cmp first key) test

not_below : (first key : Key) → is_le (key_cmp first key) ≡ true → key_cmp key first ≢ Less
not_below first key test less = true≢false (sym test ∙ ap is_le (nat_list_cmp_total.antisymm first key ∙ ap ordering_reverse less))

-- a key that isn't below one isn't below a lesser one
le_before : (a b key : Key) → key_cmp a b ≡ Less → is_le (key_cmp b key) ≡ true → is_le (key_cmp a key) ≡ true
le_before a b key h1 h2 = grind (arith, common_steps, nat_tests, nat_list_cmp_total, alike_right)

-- ---- a place

pub partitioned : (fences : List Fence) (key : Key) → AllPairs (λ f g. key_cmp f.first g.first ≡ Less) fences → IsPartitionedBy (λ f. is_le (key_cmp f.first key)) fences
partitioned fences key rise i j d before within test =
    elim (cases_lt i j) [
      | inl lt ↦ le_before (get_or fences i d).first (get_or fences j d).first key (rise i j d lt within) test
      | inr ge ↦ let same : j ≡ i = omega arith in subst (λ k. is_le (key_cmp (get_or fences k d).first key) ≡ true) same test
    ]

-- so many fences aren't above the key, and those behind them are
abbrev pub IsSplit : List Fence → Key → ℕ → Type 0
IsSplit fences key n = IsPartitionPoint (λ (f : Fence). is_le (key_cmp f.first key) ≡ true) (λ (f : Fence). is_le (key_cmp f.first key) ≡ false) fences n

-- the last of them is the key's place
pub place_at : (fences : List Fence) (key : Key) (at : ℕ) (d : Fence) → d ≡ get_or fences at d → IsSplit fences key (at + 1) → at < length fences
    → (place : IsPlaceOf key d.page fences) × (place.fence ≡ d) × (length place.before ≡ at)
place_at fences key at d is split within = (
  record {
    before = take at fences;
    fence = d;
    behind = drop (at + 1) fences;
    parts = sym (take-append-drop at fences) ∙ ap (λ l. take at fences ++ l) (drop_more fences at d within ∙ ap (λ (f : Fence). f ∷ drop (at + 1) fences) (sym is));
    is_page = refl;
    not_below = subst (λ (f : Fence). key_cmp key f.first ≢ Less) (sym is) (not_below (get_or fences at d).first key (split.0 at d (omega arith) (omega arith)));
    below_others = λ k e inside.
        let is : get_or (drop (at + 1) fences) k e ≡ get_or fences ((at + 1) + k) e = get_or-drop (at + 1) fences k e in
        let far : (at + 1) + k < length fences = behind_within fences (at + 1) k inside in
        ap (λ (f : Fence). key_cmp key f.first) is ∙ below (get_or fences ((at + 1) + k) e).first key (split.1 ((at + 1) + k) e (omega arith) far);
  },
  refl,
  length-take-le at fences (omega (arith, within)),
)
  where
    behind_within : (l : List Fence) (n k : ℕ) → k < length (drop n l) → n + k < length l
    behind_within l n k inside = omega (arith, length-drop n l)

-- where none isn't above the key, it is below them all
pub none_before : (fences : List Fence) (key : Key) → IsSplit fences key 0 → IsBelowAll key fences
none_before fences key split = λ k d within. below (get_or fences k d).first key (split.1 k d (omega arith) within)

-- and where one isn't, it is not
pub some_before : (fences : List Fence) (key : Key) (at : ℕ) → IsSplit fences key (at + 1) → at < length fences → IsBelowAll key fences → ⊥
some_before [] key at split within below_all = absurd (omega arith)
some_before (f ∷ fences) key at split within below_all = not_below f.first key (split.0 0 f (omega arith) (omega arith)) (below_all 0 f (omega arith))

-- ---- one fence more

pub fences_pushed : (fences : List Fence) (reserved places after : ℕ) (fence : Fence) → AreFences fences reserved places → length fences < reserved → IsAboveAll fence.first fences → after ≡ places → AreFences (fences ++ fence ∷ []) reserved after
fences_pushed fences reserved places after fence h1 h2 h3 h4 = grind (arith, common_steps, nat_tests)

pub no_fences : (reserved places : ℕ) → reserved ≤ places → AreFences [] reserved places
no_fences reserved places room = record { rise = λ i j d before within. absurd (omega arith); fits = omega arith; room = room }

-- ---- whether a fence may be pushed

less_is : (o : Ordering) → is_lt o ≡ true → o ≡ Less
less_is o h1 = grind (arith, common_steps, nat_tests)

-- the key is above all fences just where it is above the last
pub above_last : (fences : List Fence) (key : Key) (n : ℕ) (last : Fence) → AllPairs (λ f g. key_cmp f.first g.first ≡ Less) fences → n + 1 ≡ length fences → last ≡ get_or fences n last
    → (is_lt (key_cmp last.first key) ≡ true) ↔ IsAboveAll key fences
above_last fences key n last rise long is = (to, λ above. ap (λ (f : Fence). is_lt (key_cmp f.first key)) is ∙ ap is_lt (above n last (omega (arith, long))))
  where
    to : is_lt (key_cmp last.first key) ≡ true → IsAboveAll key fences
    to test k d within =
        elim (cases_lt k n) [
          | inl before ↦
              let lesser : key_cmp (get_or fences k d).first last.first ≡ Less =
              subst (λ (f : Fence). key_cmp (get_or fences k d).first f.first ≡ Less) (get_or_default fences n d last (omega (arith, long)) ∙ sym is) (rise k n d before (omega (arith, long))) in
              nat_list_cmp_total.trans (get_or fences k d).first last.first key lesser (less_is (key_cmp last.first key) test)
          | inr behind ↦
              let same : n ≡ k = omega (arith, long, within) in
              subst (λ i. key_cmp (get_or fences i d).first key ≡ Less) same
              (subst (λ (f : Fence). key_cmp f.first key ≡ Less) (sym (get_or_default fences n d last (omega (arith, long)) ∙ sym is)) (less_is (key_cmp last.first key) test))
        ]
