-- Bytes that are put at an offset, where what lies past the end is left out.
use Rattle.std.proofs.Common.{◌≡◌, ◌<◌, inl, inr, ℕ, ◌+◌, ◌-◌, min, List, [], ◌++◌, length, take, drop, sym, ◌∙◌, ap, arith, length-append}
use Rattle.std.proofs.lemmas.Bool.{cases_lt}
use Rattle.std.proofs.lemmas.List.{append-nil, take-append-le, length-take-le, take_all, drop_all}
use Rattle.std.proofs.Math.Seq.{take-append-add}
use Rattle.disk_trait.specs.Parts.{length-overwritten}
use Rattle.disk_trait.specs.Disk.{overwritten}
use Rattle.disk_mem.specs.Recorded.{changed}

-- the part inside, put in place
pub changed_inside : (bytes new : List ℕ) (at inside : ℕ) → at < length bytes → inside ≡ min (length new) (length bytes - at) → overwritten bytes at (take inside new) ≡ changed bytes at new
changed_inside bytes new at inside lt is =
    elim (cases_lt (length bytes) (at + length new)) [
      | inr fits ↦
          let whole : inside ≡ length new = omega (arith, is, fits) in
          let all : take inside new ≡ new = take_all inside new (omega (arith, whole)) in
          ap (λ (l : List ℕ). overwritten bytes at l) all
          ∙ sym (take_all (length bytes) (overwritten bytes at new) (omega (arith, length-overwritten bytes at new (omega arith), fits)))
      | inl past ↦
          let some : inside ≡ length bytes - at = omega (arith, is, past) in
          let front : length (take at bytes) ≡ at = length-take-le at bytes (omega arith) in
          let short : length (take inside new) ≡ inside = length-take-le inside new (omega (arith, some, past)) in
          let none : drop (at + length (take inside new)) bytes ≡ drop (at + length new) bytes =
          drop_all (at + length (take inside new)) bytes (omega (arith, short, some)) ∙ sym (drop_all (at + length new) bytes (omega (arith, past))) in
          let end : length bytes ≡ length (take at bytes) + inside = omega (arith, front, some, lt) in
          let gone : drop (at + length new) bytes ≡ [] = drop_all (at + length new) bytes (omega (arith, past)) in
          (λ i. take at bytes ++ take inside new ++ (none ∙ gone) i)
          ∙ append-nil (take at bytes ++ take inside new)
          ∙ sym (take-append-add (take at bytes) new inside)
          ∙ (λ i. take (sym end i) (take at bytes ++ new))
          ∙ sym (take-append-le (length bytes) (take at bytes ++ new) (drop (at + length new) bytes) (omega (arith, front, past, length-append (take at bytes) new)))
    ]
