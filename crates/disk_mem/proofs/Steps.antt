-- What one call more in the record, or one past it, does to what a disk tells.
use Rattle.std.proofs.lemmas.Grind.{common_steps}
use Rattle.std.proofs.Common.{◌≡◌, inl, inr, ⊎_elim, ℕ, ◌+◌, ◌-◌, ◌^◌, ◌≤◌, max, Bool, IsTrue, List, [], ◌∷◌, ◌++◌, length, refl, sym, ◌∙◌, subst, arith, length-append}
use Rattle.std.proofs.lemmas.Bool.Decides.{nat_tests}
use Rattle.refusal.specs.Count.{next_count}
use Rattle.disk_trait.specs.Disk.{DiskState, Passes, MarksSync, WritesNothing, WritesWithin, KeepsImages, ChangesNothing, LeavesAnyBytes, Only, Torn, overwritten}
use Rattle.disk_trait.specs.Parts.{torn_overwritten, torn_same}
use Rattle.disk_mem.specs.Events.{Event, wrote, tore, synced, passed, Medium, fresh, after, replay, IsImage, IsSync, IsSyncAt, as_read}
use Rattle.disk_mem.proofs.EventLemmas.{replay-push, left_push, left_keeps, sync_push, sync_keeps, sync_now}
use Rattle.disk_mem.specs.Recorded.{disk_state}

length-push : (es : List Event) (e : Event) → length (es ++ e ∷ []) ≡ length es + 1
length-push es e = length-append es (e ∷ [])

-- A call in the record.
module _ (first : List ℕ) (es : List Event) (honest : Bool) (bytes bytes' : List ℕ) (past : ℕ) (none : past ≡ 0) (faults faults' : ℕ) where
  abbrev pub noted : Event → DiskState
  noted e = disk_state first (es ++ e ∷ []) bytes' past faults' honest

  abbrev before : DiskState
  before = disk_state first es bytes past faults honest

  pub passes_noted : (e : Event) → faults ≤ faults' → faults' ≤ faults + 1 → Passes before (noted e)
  passes_noted e h1 h2 = grind (arith, common_steps, nat_tests, length-push, left_push, left_keeps)

  pub marks_noted : (e : Event) (P : Type 0) → (IsSync e → P) → (P → IsSync e) → MarksSync P before (noted e)
  marks_noted e P to from = record {
    none_else = λ t at. ⊎_elim (λ l. inl l) (λ r. inr (to r.0, omega (arith, r.1, none), omega (arith, r.1, none, length-push es e))) (sync_push es e t at);
    none_lost = λ t at. sync_keeps es e t at;
    now = λ _ p. let same : length es + 1 ≡ length (es ++ e ∷ []) + past = omega (arith, none, length-push es e) in subst (IsSyncAt (es ++ e ∷ [])) same (sync_now es e (from p));
    later = λ _ _. omega (arith, none, length-push es e);
  }

  image_before : (e : Event) (c : List ℕ) → IsImage (replay (fresh first) (es ++ e ∷ [])) c → IsImage (after e (replay (fresh first) es)) c
  image_before e c left = subst (λ (m : Medium). IsImage m c) (replay-push (fresh first) es e) left

  image_after : (e : Event) (c : List ℕ) → IsImage (after e (replay (fresh first) es)) c → IsImage (replay (fresh first) (es ++ e ∷ [])) c
  image_after e c left = subst (λ (m : Medium). IsImage m c) (sym (replay-push (fresh first) es e)) left

  pub keeps_passed : KeepsImages before (noted passed)
  keeps_passed = λ _ _ c left. image_after passed c left

  pub any_wrote : (at : ℕ) (text : List ℕ) → at ≤ length bytes → (IsTrue honest → bytes ≡ (replay (fresh first) es).bytes) → LeavesAnyBytes at (length text) before (noted (wrote at text))
  any_wrote at text h1 h2 = grind (arith, common_steps, nat_tests, image_after)

  -- A write that failed may have written anything of its range.
  pub any_tore : (at : ℕ) (text : List ℕ) → LeavesAnyBytes at (length text) before (noted (tore at text))
  any_tore at text = λ _ _ d c left torn. image_after (tore at text) c (d, left, torn)

  -- where only what is honest is known to stay
  module _ (stays : IsTrue honest → bytes' ≡ bytes) (long : length bytes' ≡ length bytes) where
    pub same_passed : WritesNothing before (noted passed)
    same_passed = record { bytes = stays; length = λ _. long; images = λ _ c left. image_before passed c left }

    pub same_synced : WritesNothing before (noted synced)
    same_synced = record {
      bytes = stays;
      length = λ _. long;
      images = λ _ c left. subst (IsImage (replay (fresh first) es)) (sym (image_before synced c left)) (as_read (fresh first) es refl);
    }

    pub nothing_passed : ChangesNothing before (noted passed)
    nothing_passed = record { same = same_passed; images = keeps_passed }

    pub within_tore : (at : ℕ) (text : List ℕ) → WritesWithin at (length text) before (noted (tore at text))
    within_tore at text = record {
      bytes = λ is_honest. subst (λ (l : List ℕ). Torn at (length text) bytes l) (sym (stays is_honest)) (torn_same at (length text) bytes);
      no_shorter = λ _. omega (arith, long);
      no_longer = λ _. omega (arith, long);
      images = λ _ c left. image_before (tore at text) c left;
    }

  pub within_wrote : (at : ℕ) (text : List ℕ) → at ≤ length bytes → (IsTrue honest → bytes' ≡ overwritten bytes at text) → length bytes' ≡ max (length bytes) (at + length text)
      → WritesWithin at (length text) before (noted (wrote at text))
  within_wrote at text le writes long = record {
    bytes = λ is_honest. subst (λ (l : List ℕ). Torn at (length text) bytes l) (sym (writes is_honest)) (torn_overwritten bytes at text le);
    no_shorter = λ _. omega (arith, long);
    no_longer = λ _. omega (arith, long);
    images = λ _ c left. tears (replay (fresh first) es) c (image_before (wrote at text) c left);
  }
    where
      tears : (m : Medium) (c : List ℕ) → IsImage (after (wrote at text) m) c → (d : List ℕ) × IsImage m d × Torn at (length text) d c
      tears m c h1 = grind (arith, common_steps, nat_tests)

  -- after a sync that ended well
  pub only_synced : (IsTrue honest → bytes ≡ (replay (fresh first) es).bytes) → (IsTrue honest → bytes' ≡ bytes) → IsTrue honest → Only bytes' (IsImage (replay (fresh first) (es ++ synced ∷ [])))
  only_synced replayed stays is_honest c left = image_before synced c left ∙ sym (replayed is_honest) ∙ sym (stays is_honest)

-- A call past the record: nothing changes but the clock and the count.
module _ (first : List ℕ) (es : List Event) (honest : Bool) (bytes bytes' : List ℕ) (past faults faults' : ℕ) where
  abbrev pub missed : DiskState
  missed = disk_state first es bytes' (next_count past) faults' honest

  abbrev old_state : DiskState
  old_state = disk_state first es bytes past faults honest

  pub passes_missed : past ≤ 2 ^ 64 - 1 → faults ≤ faults' → faults' ≤ faults + 1 → Passes old_state missed
  passes_missed h1 h2 h3 = grind (arith, common_steps, nat_tests)

  pub marks_missed : (P : Type 0) → ¬ P → MarksSync P old_state missed
  marks_missed P none = record { none_else = λ t at. inl at; none_lost = λ t at. at; now = λ _ p. absurd (none p); later = λ _ p. absurd (none p) }

  pub nothing_missed : (IsTrue honest → bytes' ≡ bytes) → length bytes' ≡ length bytes → ChangesNothing old_state missed
  nothing_missed h1 h2 = grind (arith, common_steps, nat_tests)
