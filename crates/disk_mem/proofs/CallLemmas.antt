-- Laws of `specs/Calls`.
use Rattle.std.proofs.lemmas.Bool.Decides.{nat_tests}
use Rattle.std.proofs.lemmas.Grind.{common_steps}
use Rattle.std.specs.Prelude.{◌≡◌, ◌≤◌, ℕ, ◌+◌, ◌*◌, List, [], ◌∷◌, ◌++◌, length, drop, refl}
use Rattle.std.proofs.Common.{◌∙◌, ap, arith, length-drop}
use Rattle.std.proofs.lemmas.List.{drop-append-le}
use Rattle.disk_mem.specs.Events.{Event}
use Rattle.disk_mem.specs.Recorded.{event_size, record_size}
use Rattle.disk_mem.specs.declared.call.Call.{Call}
use Rattle.disk_mem.specs.Calls.{event, taken, events, written_len}

pub length-events : (calls : List Call) (written : List ℕ) → length (events calls written) ≡ length calls
length-events [] written = refl
length-events (call ∷ calls) written = omega (arith, length-events calls (drop (taken call) written))

-- one call more in the record
pub events-push : (calls : List Call) (call : Call) (written more : List ℕ) → written_len calls ≡ length written → events (calls ++ call ∷ []) (written ++ more) ≡ events calls written ++ event call more ∷ []
events-push [] call [] more same = refl
events-push [] call (x ∷ written) more same = absurd (omega arith)
events-push (first ∷ calls) call written more same =
    let within : taken first ≤ length written = omega arith in
    let here : event first (written ++ more) ≡ event first written = event_within first written more within in
    let rest = events-push calls call (drop (taken first) written) more (omega (arith, length-drop (taken first) written)) in
    (λ i. here i ∷ events (calls ++ call ∷ []) (drop-append-le (taken first) written more within i)) ∙ ap (λ (l : List Event). event first written ∷ l) rest
  where
    event_within : (c : Call) (front back : List ℕ) → taken c ≤ length front → event c (front ++ back) ≡ event c front
    event_within c front back h1 = grind (arith, common_steps, nat_tests)

pub written_len-push : (calls : List Call) (call : Call) → written_len (calls ++ call ∷ []) ≡ written_len calls + taken call
written_len-push [] call = omega arith
written_len-push (first ∷ calls) call = omega (arith, written_len-push calls call)

-- what the record takes: sixteen bytes a call, and the bytes of its writes
pub record_size-events : (calls : List Call) (written : List ℕ) → written_len calls ≡ length written → record_size (events calls written) ≡ 16 * length calls + length written
record_size-events [] [] same = refl
record_size-events [] (x ∷ written) same = absurd (omega arith)
record_size-events (first ∷ calls) written same =
    let within : taken first ≤ length written = omega arith in
    omega (arith, size first within, length-drop (taken first) written, record_size-events calls (drop (taken first) written) (omega (arith, length-drop (taken first) written)))
  where
    size : (c : Call) → taken c ≤ length written → event_size (event c written) ≡ 16 + taken c
    size c h1 = grind (arith, common_steps, nat_tests)
