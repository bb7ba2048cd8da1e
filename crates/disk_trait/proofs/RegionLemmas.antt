-- Laws of `specs/Region`.
use Rattle.std.specs.Prelude.{◌≡◌, ◌<◌, ◌≤◌, ℕ, zero, suc, ◌+◌, max, List, [], ◌∷◌, ◌++◌, length, take, drop, refl}
use Rattle.std.proofs.Common.{sym, ◌∙◌, ap, inl, inr, arith, length-drop}
use Rattle.std.proofs.lemmas.List.{length-take, drop_all}
use Rattle.std.proofs.lemmas.Bool.{cases_lt}
use Rattle.disk_trait.specs.Disk.{Torn, part}
use Rattle.disk_trait.proofs.PartLemmas.{torn_below, torn_above, part-split}
use Rattle.disk_trait.specs.Region.{Region, span, nowhere, IsWithin, AreApart, IsSameOutside}

pub same_file : (region : Region) (file : List ℕ) → IsSameOutside region file file
same_file region file = record { no_shorter = omega arith; bytes = λ i out. refl }

pub same_wider : {small large : Region} {old new : List ℕ} → IsWithin small large → IsSameOutside small old new → IsSameOutside large old new
same_wider within same = record { no_shorter = same.no_shorter; bytes = λ i out. same.bytes i (λ inside. out (within i inside)) }

pub same_run : {region : Region} {old mid new : List ℕ} → IsSameOutside region old mid → IsSameOutside region mid new → IsSameOutside region old new
same_run first second = record { no_shorter = omega (arith, first.no_shorter, second.no_shorter); bytes = λ i out. second.bytes i out ∙ first.bytes i out }

-- a write that is cut short changes its own range alone
pub same_torn : (at n : ℕ) (old new : List ℕ) → Torn at n old new → IsSameOutside (span at n) old new
same_torn at n old new torn = record { no_shorter = torn.no_shorter; bytes = bytes }
  where
    bytes : (i : ℕ) → (span at n i → ⊥) → part new i 1 ≡ part old i 1
    bytes i out =
        elim (cases_lt i at) [
          | inl below ↦ torn_below at n i 1 old new torn (omega (arith, below))
          | inr from ↦
              elim (cases_lt i (at + n)) [
                | inl inside ↦ absurd (out (from, inside))
                | inr above ↦ torn_above at n i 1 old new torn above
              ]
        ]

-- what stands apart from the region reads the same
pub part_apart : {region : Region} {old new : List ℕ} (at n : ℕ) → AreApart region (span at n) → IsSameOutside region old new → part new at n ≡ part old at n
part_apart at zero apart same = refl
part_apart {region} {old} {new} at (suc n) apart same =
    let long : suc n ≡ n + 1 = omega arith in
    let front = part_apart at n (λ i inside in_span. apart i inside (in_span.0, omega (arith, in_span.1))) same in
    let last = same.bytes (at + n) (λ inside. apart (at + n) inside (omega arith, omega arith)) in
    ap (λ m. part new at m) long
    ∙ part-split new at n 1
    ∙ (λ j. front j ++ last j)
    ∙ sym (part-split old at n 1)
    ∙ sym (ap (λ m. part old at m) long)

-- The file is no longer than it was, or than the region reaches.
pub same_no_longer : {region : Region} {old new : List ℕ} (end : ℕ) → ((i : ℕ) → region i → i < end) → IsSameOutside region old new → length new ≤ max (length old) end
same_no_longer {region} {old} {new} end ends same =
    let last = max (length old) end in
    let none : length (part new last 1) ≡ 0 =
    ap (λ (l : List ℕ). length l) (same.bytes last (λ inside. omega (arith, ends last inside)) ∙ ap (λ (l : List ℕ). take 1 l) (drop_all last old (omega arith))) in
    omega (arith, none, length-take 1 (drop last new), length-drop last new)

-- Where no byte has changed it is the file that it was.
pub same_bytes : (old new : List ℕ) → ((i : ℕ) → part new i 1 ≡ part old i 1) → new ≡ old
same_bytes [] [] each = refl
same_bytes [] (b ∷ new) each = let first : b ∷ [] ≡ [] = each 0 in absurd (cc (first))
same_bytes (a ∷ old) [] each = let first : [] ≡ a ∷ [] = each 0 in absurd (cc (first))
same_bytes (a ∷ old) (b ∷ new) each =
    let first : b ∷ [] ≡ a ∷ [] = each 0 in
    let rest : new ≡ old = same_bytes old new (λ i. each (suc i)) in
    cc (first, rest)

pub same_nowhere : {old new : List ℕ} → IsSameOutside nowhere old new → new ≡ old
same_nowhere {old} {new} same = same_bytes old new (λ i. same.bytes i (λ never. never))
