-- A write that is cut short leaves each part of the file that its range doesn't meet.
use Rattle.std.specs.Prelude.{◌≡◌, ◌≤◌, ℕ, ◌+◌, ◌-◌, max, List, ◌++◌, take, drop, length, refl}
use Rattle.std.proofs.Common.{◌∙◌, ap, arith, append_assoc, length-append, length-drop}
use Rattle.std.proofs.lemmas.List.{take_at, drop_at, length-take-le}
use Rattle.disk_trait.specs.Disk.{Torn, overwritten}

pub length_front : (at : ℕ) (old : List ℕ) → at ≤ length old → length (take at old) ≡ at
length_front at old le = length-take-le at old le

pub length-overwritten : (old : List ℕ) (at : ℕ) (bytes : List ℕ) → at ≤ length old → length (overwritten old at bytes) ≡ max (length old) (at + length bytes)
length-overwritten old at bytes le =
    omega (arith, length_front at old le, length-append (take at old ++ bytes) (drop (at + length bytes) old), length-append (take at old) bytes, length-drop (at + length bytes) old)

-- a write that is done in whole is one of those that are cut short
pub torn_overwritten : (old : List ℕ) (at : ℕ) (bytes : List ℕ) → at ≤ length old → Torn at (length bytes) old (overwritten old at bytes)
torn_overwritten old at bytes le = record {
  before =
      ap (λ (l : List ℕ). take at l) (append_assoc (take at old) bytes (drop (at + length bytes) old))
      ∙ take_at (take at old) (bytes ++ drop (at + length bytes) old) at (length_front at old le);
  after = drop_at (take at old ++ bytes) (drop (at + length bytes) old) (at + length bytes) (omega (arith, length_front at old le, length-append (take at old) bytes));
  no_shorter = omega (arith, length-overwritten old at bytes le);
  no_longer = omega (arith, length-overwritten old at bytes le);
}

-- nothing at all may have been written
pub torn_same : (at n : ℕ) (file : List ℕ) → Torn at n file file
torn_same at n file = record { before = refl; after = refl; no_shorter = omega arith; no_longer = omega arith }
