-- Laws of `specs/Events`.
use Rattle.std.specs.Prelude.{◌≡◌, ◌⊎◌, ◌≤◌, ℕ, zero, suc, ◌+◌, List, [], ◌∷◌, ◌++◌, length, refl}
use Rattle.std.proofs.Common.{inl, inr, ⊎_elim, arith}
use Rattle.disk_mem.specs.Events.{Event, Medium, after, replay, IsImage, LeftSince, IsSync, IsSyncAt}

pub replay-push : (m : Medium) (es : List Event) (e : Event) → replay m (es ++ e ∷ []) ≡ after e (replay m es)
replay-push m [] e = refl
replay-push m (x ∷ xs) e = replay-push (after x m) xs e

-- One event more: since an earlier moment there is what there was, and what there is now.
pub left_push : (m : Medium) (es : List Event) (e : Event) (t : ℕ) (c : List ℕ) → t ≤ length es → LeftSince m (es ++ e ∷ []) t c → LeftSince m es t c ⊎ IsImage (replay m (es ++ e ∷ [])) c
left_push m [] e zero c le (inl before) = inl before
left_push m [] e zero c le (inr now) = inr now
left_push m [] e (suc t) c le left = absurd (omega arith)
left_push m (x ∷ xs) e zero c le (inl before) = inl (inl before)
left_push m (x ∷ xs) e zero c le (inr later) = ⊎_elim (λ l. inl (inr l)) (λ now. inr now) (left_push (after x m) xs e zero c (omega arith) later)
left_push m (x ∷ xs) e (suc t) c le left = left_push (after x m) xs e t c (omega arith) left

pub left_keeps : (m : Medium) (es : List Event) (e : Event) (t : ℕ) (c : List ℕ) → t ≤ length es → LeftSince m es t c → LeftSince m (es ++ e ∷ []) t c
left_keeps m [] e zero c le left = inl left
left_keeps m [] e (suc t) c le left = absurd (omega arith)
left_keeps m (x ∷ xs) e zero c le (inl before) = inl before
left_keeps m (x ∷ xs) e zero c le (inr later) = inr (left_keeps (after x m) xs e zero c (omega arith) later)
left_keeps m (x ∷ xs) e (suc t) c le left = left_keeps (after x m) xs e t c (omega arith) left

pub sync_push : (es : List Event) (e : Event) (t : ℕ) → IsSyncAt (es ++ e ∷ []) t → IsSyncAt es t ⊎ (IsSync e × (t ≡ length es + 1))
sync_push [] e zero at = absurd at
sync_push [] e (suc zero) at = inr (at, refl)
sync_push [] e (suc (suc t)) at = absurd at
sync_push (x ∷ xs) e zero at = absurd at
sync_push (x ∷ xs) e (suc zero) at = inl at
sync_push (x ∷ xs) e (suc (suc t)) at = ⊎_elim (λ l. inl l) (λ r. inr (r.0, omega (arith, r.1))) (sync_push xs e (suc t) at)

pub sync_keeps : (es : List Event) (e : Event) (t : ℕ) → IsSyncAt es t → IsSyncAt (es ++ e ∷ []) t
sync_keeps [] e t at = absurd at
sync_keeps (x ∷ xs) e zero at = absurd at
sync_keeps (x ∷ xs) e (suc zero) at = at
sync_keeps (x ∷ xs) e (suc (suc t)) at = sync_keeps xs e (suc t) at

sync_last : (es : List Event) (e : Event) (t : ℕ) → IsSync e → t ≡ length es + 1 → IsSyncAt (es ++ e ∷ []) t
sync_last [] e zero is same = absurd (omega arith)
sync_last [] e (suc zero) is same = is
sync_last [] e (suc (suc t)) is same = absurd (omega arith)
sync_last (x ∷ xs) e zero is same = absurd (omega arith)
sync_last (x ∷ xs) e (suc zero) is same = absurd (omega arith)
sync_last (x ∷ xs) e (suc (suc t)) is same = sync_last xs e (suc t) is (omega arith)

pub sync_now : (es : List Event) (e : Event) → IsSync e → IsSyncAt (es ++ e ∷ []) (length es + 1)
sync_now es e is = sync_last es e (length es + 1) is refl
