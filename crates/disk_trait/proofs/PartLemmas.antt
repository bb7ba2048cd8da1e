-- Laws of `specs/Parts`.
use Rattle.std.proofs.lemmas.Bool.Decides.{nat_tests}
use Rattle.std.proofs.lemmas.Grind.{common_steps}
use Rattle.std.specs.Prelude.{◌≡◌, ◌≤◌, ℕ, ◌+◌, ◌-◌, List, ◌++◌, take, drop, length}
use Rattle.std.proofs.Common.{sym, ◌∙◌, ap, arith}
use Rattle.std.proofs.lemmas.List.{drop-take, take-take, drop-drop}
use Rattle.std.proofs.Math.Seq.{take-add}
use Rattle.disk_trait.specs.Disk.{DiskState, WritesNothing, WritesWithin, Torn, part, overwritten}

-- a part below the range
pub torn_below : (at n lo k : ℕ) (old new : List ℕ) → Torn at n old new → lo + k ≤ at → part new lo k ≡ part old lo k
torn_below at n lo k old new torn below =
    sym (drop-take lo k new)
    ∙ ap (λ (l : List ℕ). drop lo l) (sym (take-take (lo + k) at new below) ∙ ap (λ (l : List ℕ). take (lo + k) l) torn.before ∙ take-take (lo + k) at old below)
    ∙ drop-take lo k old

drop_past : (m lo : ℕ) (l : List ℕ) → m ≤ lo → drop lo l ≡ drop (lo - m) (drop m l)
drop_past m lo l le = let same : lo ≡ m + (lo - m) = omega arith in ap (λ (j : ℕ). drop j l) same ∙ sym (drop-drop (lo - m) m l)

-- a part above the range
pub torn_above : (at n lo k : ℕ) (old new : List ℕ) → Torn at n old new → at + n ≤ lo → part new lo k ≡ part old lo k
torn_above at n lo k old new torn above =
    ap (λ (l : List ℕ). take k l) (drop_past (at + n) lo new above ∙ ap (λ (l : List ℕ). drop (lo - (at + n)) l) torn.after ∙ sym (drop_past (at + n) lo old above))

-- what was written stands there
pub part-overwritten : (old : List ℕ) (at : ℕ) (bytes : List ℕ) → at ≤ length old → part (overwritten old at bytes) at (length bytes) ≡ bytes
part-overwritten old at bytes h1 = grind (arith, common_steps, nat_tests)

-- what is torn in a range is torn in any that holds it
pub torn_widen : (at n at' n' : ℕ) (old new : List ℕ) → Torn at n old new → at' ≤ at → at + n ≤ at' + n' → Torn at' n' old new
torn_widen at n at' n' old new torn begins ends = record {
  before = sym (take-take at' at new begins) ∙ ap (λ (l : List ℕ). take at' l) torn.before ∙ take-take at' at old begins;
  after =
      drop_past (at + n) (at' + n') new ends
      ∙ ap (λ (l : List ℕ). drop (at' + n' - (at + n)) l) torn.after
      ∙ sym (drop_past (at + n) (at' + n') old ends);
  no_shorter = torn.no_shorter;
  no_longer = omega (arith, torn.no_longer, ends);
}

-- a part and the one behind it
pub part-split : (file : List ℕ) (at m n : ℕ) → part file at (m + n) ≡ part file at m ++ part file (at + m) n
part-split file at m n = take-add m n (drop at file) ∙ ap (λ (l : List ℕ). take m (drop at file) ++ take n l) (drop-drop m at file)

-- A call that writes nothing writes within any range.
pub within_nothing : {old new : DiskState} (at n : ℕ) → WritesNothing old new → WritesWithin at n old new
within_nothing at n h1 = grind (arith, common_steps, nat_tests)
