-- One call more in a record.
use Rattle.std.proofs.lemmas.Grind.{common_steps}
use Rattle.std.proofs.Common.{◌≡◌, ◌+◌, ◌≤◌, if◌then◌else◌, List, [], ◌∷◌, ◌++◌, ℕ, length, Result, is_ok, OnOk, OnErr, ap, arith}
use Rattle.std.proofs.lemmas.List.{take_all}
use Rattle.std.proofs.lemmas.Bool.Decides.{nat_tests}
use Rattle.disk_trait.specs.Disk.{overwritten}
use Rattle.disk_mem.specs.Events.{Event, wrote, Medium, after}
use Rattle.disk_mem.proofs.EventLemmas.{replay-push}
use Rattle.disk_mem.specs.Recorded.{Change, event_size, record_size}
use Rattle.disk_mem.specs.Replayed.{IsReplayed}
use Rattle.disk_mem.specs.Calls.{event, taken, IsNoWrite}
use Rattle.disk_mem.specs.declared.call.Call.{Call}
use Rattle.disk_mem.specs.declared.call.Call.TheVariants.{Wrote}

-- A push for which there is room goes well.
pub went_well : {X E T : Type 0} (r : Result X E) (a b c : List T) (P : Type 0) → c ≡ (if is_ok r then a else b) → OnErr r P → ¬ P → c ≡ a
went_well r a b c P h1 h2 h3 = grind (arith, common_steps, nat_tests)

pub record_size-push : (es : List Event) (e : Event) → record_size (es ++ e ∷ []) ≡ record_size es + event_size e
record_size-push [] e = omega arith
record_size-push (x ∷ es) e = omega (arith, record_size-push es e)

-- what a call takes in the record
pub event_size-whole : (call : Call) (text : List ℕ) → taken call ≡ length text → event_size (event call text) ≡ 16 + length text
event_size-whole call text h1 = grind (arith, common_steps, nat_tests)

keeps_bytes : (call : Call) (text : List ℕ) (m : Medium) → IsNoWrite call → (after (event call text) m).bytes ≡ m.bytes
keeps_bytes call text m h1 = grind (arith, common_steps, nat_tests)

-- a call that changes no bytes
pub replayed_note : (first : List ℕ) (es : List Event) (changes : List Change) (bytes text : List ℕ) (call : Call) → IsNoWrite call → IsReplayed first es changes bytes → IsReplayed first (es ++ event call text ∷ []) changes bytes
replayed_note first es changes bytes text call h1 h2 = grind (arith, common_steps, nat_tests, keeps_bytes, replay-push)

-- a write
pub replayed_write : (first : List ℕ) (es : List Event) (changes : List Change) (bytes text : List ℕ) (at : ℕ) → at ≤ length bytes → IsReplayed first es changes bytes → IsReplayed first (es ++ wrote at text ∷ []) changes (overwritten bytes at text)
replayed_write first es changes bytes text at h1 h2 = grind (arith, common_steps, nat_tests, replay-push)

-- all the bytes are those that the call wrote
pub whole : (at : ℕ) (text : List ℕ) → event (Wrote at (length text)) text ≡ wrote at text
whole at text = ap (λ (l : List ℕ). wrote at l) (take_all (length text) text (omega arith))

-- A call for whose failure there is no cause went well.
pub ok_of : {X E : Type 0} (r : Result X E) (P Q : Type 0) → OnOk r P → OnErr r Q → ¬ Q → P
ok_of r P Q h1 h2 h3 = grind (arith, common_steps, nat_tests)
