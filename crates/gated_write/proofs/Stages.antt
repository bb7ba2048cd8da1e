-- What each image has, call by call, while a text is written behind a gate.
use Rattle.std.proofs.lemmas.Bool.Decides.{nat_tests}
use Rattle.std.proofs.lemmas.Grind.{common_steps}
use Rattle.std.proofs.Common.{◌≡◌, ◌⊎◌, ⊎_elim, ℕ, ◌+◌, ◌≤◌, IsTrue, List, [], ◌∷◌, ◌++◌, length, refl, sym, ◌∙◌, ap, subst, arith}
use Rattle.disk_trait.specs.Disk.{DiskState, Only, part, overwritten}
use Rattle.disk_trait.specs.Effects.{Affects}
use Rattle.disk_trait.proofs.EffectLemmas.{affects_wider, affects_run}
use Rattle.disk_trait.specs.Moments.{IsTimed, LeavesOnly}
use Rattle.disk_trait.proofs.MomentLemmas.{leaves_only_run, leaves_only_weaken, leaves_only_now}
use Rattle.disk_trait.proofs.PartLemmas.{part-overwritten, part-split}
use Rattle.disk_trait.specs.Region.{span, IsWithin, AreApart, IsSameOutside, IsOldOutside}
use Rattle.disk_trait.proofs.RegionLemmas.{same_wider, same_run, part_apart}
use Rattle.gated_write.specs.Gated.{open_byte, IsClosed, IsGated, behind_gate, whole, LeavesGated}

-- The gate is open, or it isn't.
gate_cases : (at : ℕ) (file : List ℕ) → (part file at 1 ≡ open_byte ∷ []) ⊎ IsClosed at file
gate_cases at file = grind (arith, common_steps, nat_tests)

-- The text is behind the gate, and both are one range.
text_inside : (at n : ℕ) → IsWithin (span (at + 1) n) (span at (1 + n))
text_inside at n i inside = (omega (arith, inside.0), omega (arith, inside.1))

gate_inside : (at n : ℕ) → IsWithin (span at 1) (span at (1 + n))
gate_inside at n i inside = (inside.0, omega (arith, inside.1))

-- the gate and the text are apart
text_apart : (at n : ℕ) → AreApart (span (at + 1) n) (span at 1)
text_apart at n i text gate = omega (arith, text.0, gate.1)

gate_apart : (at n : ℕ) → AreApart (span at 1) (span (at + 1) n)
gate_apart at n i gate text = omega (arith, text.0, gate.1)

-- The text is written from start to mid, as a run and as it reads.
module _ (at : ℕ) (text : List ℕ) (start mid : DiskState) (first : Affects (span (at + 1) (length text)) (at + 1 + length text) 2 start mid) where
  abbrev Gated : List ℕ → Type 0
  Gated = IsGated start.images at text

  pub text_effect : Affects (span at (1 + length text)) (at + 1 + length text) 4 start mid
  text_effect = affects_wider (text_inside at (length text)) (omega arith) (omega arith) first

  shut : (before : List ℕ → Type 0) (c : List ℕ) → ((d : List ℕ) → before d → IsClosed at d) → IsOldOutside (span (at + 1) (length text)) before c → IsClosed at c
  shut before c closed was = λ opened. closed was.0 was.1 (sym (part_apart at 1 (text_apart at (length text)) was.2) ∙ opened)

  -- behind the gate, which stays closed
  text_gated : (before : List ℕ → Type 0) (c : List ℕ) → ((d : List ℕ) → before d → IsClosed at d) → IsOldOutside (span (at + 1) (length text)) before c → IsGated before at text c
  text_gated before c closed was = behind_gate (was.0, was.1, same_wider (text_inside at (length text)) was.2) (shut before c closed was)

  each_text : IsTrue start.is_honest → ((c : List ℕ) → start.images c → IsClosed at c) → LeavesOnly start mid Gated
  each_text honest closed = leaves_only_weaken (λ c was. text_gated start.images c closed was) (first.images honest)

  pub leaves_text : IsTrue start.is_honest → LeavesGated at text start mid
  leaves_text honest = record {
    each = each_text honest;
    reads = λ closed. text_gated (λ c. c ≡ start.bytes) mid.bytes (λ d is. subst (IsClosed at) (sym is) closed) (start.bytes, refl, first.bytes honest);
  }

  -- The gate is written from mid to new.
  module _ (new : DiskState) (timed : IsTimed mid) (calm : mid.faults ≡ start.faults) (second : Affects (span at 1) (at + 1) 2 mid new) where
    pub gate_effect : Affects (span at (1 + length text)) (at + 1 + length text) 4 start new
    gate_effect =
        affects_run {most = 2} {more = 2} timed calm (affects_wider (text_inside at (length text)) (omega arith) (omega arith) first) (affects_wider (gate_inside at (length text)) (omega arith) (omega arith) second)

    -- behind which the text stands whole
    module _ (honest : IsTrue start.is_honest) (inside : at + 1 ≤ length start.bytes) (written : mid.bytes ≡ overwritten start.bytes (at + 1) text) where
      gated : (before : List ℕ → Type 0) (c d : List ℕ) → d ≡ mid.bytes → IsSameOutside (span at 1) d c → IsOldOutside (span at (1 + length text)) before c → IsGated before at text c
      gated before c d is same was =
          ⊎_elim
          (λ (opened : part c at 1 ≡ open_byte ∷ []). whole was (part-split c at 1 (length text) ∙ (λ i. opened i ++ stands i)))
          (λ (closed : IsClosed at c). behind_gate was closed)
          (gate_cases at c)
        where
          stands : part c (at + 1) (length text) ≡ text
          stands = part_apart (at + 1) (length text) (gate_apart at (length text)) same ∙ ap (λ (l : List ℕ). part l (at + 1) (length text)) (is ∙ written) ∙ part-overwritten start.bytes (at + 1) text inside

      each_gate : ((c : List ℕ) → start.images c → IsClosed at c) → Only mid.bytes mid.images → LeavesOnly start new Gated
      each_gate closed only =
          leaves_only_run (each_text honest closed)
          (leaves_only_weaken
          (λ c was.
          let text_was = leaves_only_now timed (first.images honest) was.0 was.1 in
          gated start.images c was.0 (only was.0 was.1) was.2
          (text_was.0, text_was.1, same_run (same_wider (text_inside at (length text)) text_was.2) (same_wider (gate_inside at (length text)) was.2)))
          (second.images (subst IsTrue (sym first.goes_on.is_honest) honest)))

      reads_gate : IsGated (λ c. c ≡ start.bytes) at text new.bytes
      reads_gate =
          gated (λ c. c ≡ start.bytes) new.bytes mid.bytes refl (second.bytes (subst IsTrue (sym first.goes_on.is_honest) honest))
          (start.bytes, refl, gate_effect.bytes honest)

      pub leaves_gate : Only mid.bytes mid.images → LeavesGated at text start new
      leaves_gate only = record { each = λ closed. each_gate closed only; reads = λ closed. reads_gate }

-- The gate over the text is the two together.
pub gate_over_text : (file : List ℕ) (at : ℕ) (text : List ℕ) → at + 1 ≤ length file → overwritten (overwritten file (at + 1) text) at (open_byte ∷ []) ≡ overwritten file at (open_byte ∷ text)
gate_over_text file at text h1 = grind (arith, common_steps, nat_tests)
