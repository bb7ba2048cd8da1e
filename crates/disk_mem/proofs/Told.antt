-- What a call of a disk in memory means for what the disk tells.
use Rattle.std.proofs.lemmas.Grind.{common_steps}
use Rattle.std.proofs.Common.{◌≡◌, ◌⊎◌, ℕ, ◌+◌, ◌^◌, ◌≤◌, ◌<◌, max, Bool, true, false, IsTrue, List, [], ◌∷◌, ◌++◌, length, nat_eq, if◌then◌else◌, bytes_eq, refl, ◌∙◌, ap, arith}
use Rattle.std.proofs.lemmas.Slice.Eq.{bytes_eq-Decides}
use Rattle.std.proofs.lemmas.Bool.Decides.{nat_tests}
use Rattle.refusal.specs.Count.{next_count}
use Rattle.disk_trait.specs.Disk.{DiskState, Passes, MarksSync, WritesNothing, WritesWithin, KeepsImages, ChangesNothing, LeavesAnyBytes, Only, overwritten}
use Rattle.disk_trait.specs.Parts.{length-overwritten}
use Rattle.disk_trait.proofs.PartLemmas.{within_nothing}
use Rattle.disk_trait.specs.Shelf.{IsFreshCount}
use Rattle.disk_mem.specs.Events.{Event, synced, passed, fresh, replay, IsSync}
use Rattle.disk_mem.specs.Recorded.{Recorded, Change, Kind, Outcome, unrecorded, unrecorded_past_end, past_end, refused, done, HasRecord, HasNoRecord, Fails, next_call, changed, changed_by, written_by, look, look_or_sync, sync_call, write_call, disk_state, is_untouched, is_honest, told}
use Rattle.disk_mem.specs.Replayed.{IsReplayed}
use Rattle.disk_mem.proofs.Steps.{missed, passes_noted, marks_noted, keeps_passed, any_wrote, any_tore, same_passed, same_synced, nothing_passed, within_tore, within_wrote, only_synced, passes_missed, marks_missed, nothing_missed}
use Rattle.disk_mem.proofs.Terms.{IsConsistent}

-- A disk that reads as its record says is honest exactly where nobody changes it.
honest_of : (first : List ℕ) (es : List Event) (changes : List Change) (bytes : List ℕ) → IsReplayed first es changes bytes
    → (if is_untouched changes then bytes_eq bytes (replay (fresh first) es).bytes else false) ≡ is_untouched changes
honest_of first es changes bytes h1 = grind (arith, common_steps, nat_tests, bytes_eq-Decides)

pub honest_is : (d : Recorded) → IsConsistent d → is_honest d ≡ is_untouched d.changes
honest_is d consistent = honest_of d.first d.events d.changes d.bytes consistent

-- Changes leave the length.
length-changed : (bytes new : List ℕ) (at : ℕ) → length (changed bytes at new) ≡ length bytes
length-changed bytes new at = grind (arith, common_steps, nat_tests)

pub length-changed_by : (changes : List Change) (number : ℕ) (bytes : List ℕ) → length (changed_by changes number bytes) ≡ length bytes
length-changed_by [] number bytes = refl
length-changed_by (c ∷ cs) number bytes =
    length-changed_by cs number (if nat_eq c.call number then changed bytes c.at c.bytes else bytes)
    ∙ elim (nat_eq c.call number) as (λ b. length (if b then changed bytes c.at c.bytes else bytes) ≡ length bytes) [ true ↦ length-changed bytes c.bytes c.at | false ↦ refl ]

-- Where there are none, the bytes stay.
pub changed_by_none : (changes : List Change) (number : ℕ) (bytes : List ℕ) → IsTrue (is_untouched changes) → changed_by changes number bytes ≡ bytes
changed_by_none changes number bytes h1 = grind (arith, common_steps, nat_tests)

module _ (d e : Recorded) (before : IsConsistent d) (after : IsConsistent e) (faults_fit : d.faults < 2 ^ 64) where
  abbrev h : Bool
  h = is_untouched d.changes

  abbrev found : List ℕ
  found = changed_by d.changes (next_call d) d.bytes

  abbrev pub noted_as : Event → List ℕ → ℕ → DiskState
  noted_as event bytes faults = disk_state d.first (d.events ++ event ∷ []) bytes d.past faults h

  abbrev pub missed_as : ℕ → DiskState
  missed_as faults = disk_state d.first d.events found (next_count d.past) faults h

  abbrev pub old : DiskState
  old = disk_state d.first d.events d.bytes d.past d.faults h

  pub found_is : IsTrue h → found ≡ d.bytes
  found_is untouched = changed_by_none d.changes (next_call d) d.bytes untouched

  pub found_long : length found ≡ length d.bytes
  found_long = length-changed_by d.changes (next_call d) d.bytes

  abbrev state_of : Recorded → Bool → DiskState
  state_of x honest = disk_state x.first x.events x.bytes x.past x.faults honest

  land : (R : DiskState → DiskState → Type 0) (end : Recorded) → e ≡ end → end.changes ≡ d.changes → R old (state_of end h) → R (told d) (told e)
  land R end h1 h2 h3 = grind (arith, common_steps, nat_tests, honest_is)

  -- What holds of each way in which the call may end, as the record tells them, holds of what the disk tells.
  pub by_outcome : (R : DiskState → DiskState → Type 0) (k : Kind) (ok : Bool) → Outcome k d e ok
      → ((faults : ℕ) → (d.faults ≤ faults) × (faults ≤ d.faults + 1) → HasNoRecord k.size d → ok ≡ false → R old (missed_as faults))
      → (HasRecord k.size d → length d.bytes < k.needs → ok ≡ false → R old (noted_as passed found d.faults))
      → (HasRecord k.size d → k.needs ≤ length d.bytes → ok ≡ false → R old (noted_as k.failed found (next_count d.faults)))
      → (HasRecord k.size d → k.needs ≤ length d.bytes → ok ≡ true → R old (noted_as k.done (written_by k.done found) d.faults))
      → R (told d) (told e)
  by_outcome R k ok (unrecorded full fits is bad) missed beyond failed did = land R _ is refl (missed (next_count d.faults) (omega (arith, faults_fit), omega arith) full bad)
  by_outcome R k ok (unrecorded_past_end full lt is bad) missed beyond failed did = land R _ is refl (missed d.faults (omega arith, omega (arith, faults_fit)) full bad)
  by_outcome R k ok (past_end has lt is bad) missed beyond failed did = land R _ is refl (beyond has lt bad)
  by_outcome R k ok (refused has fits cause is bad) missed beyond failed did = land R _ is refl (failed has fits bad)
  by_outcome R k ok (done has fits free limit is good) missed beyond failed did = land R _ is refl (did has fits good)

  pub told_passes : (k : Kind) (ok : Bool) → Outcome k d e ok → d.past < 2 ^ 64 → Passes (told d) (told e)
  told_passes k ok outcome past_fits = by_outcome Passes k ok outcome
      (λ faults le full bad. passes_missed d.first d.events h d.bytes found d.past d.faults faults (omega (arith, past_fits)) le.0 le.1)
      (λ has lt bad. passes_noted d.first d.events h d.bytes found d.past has.0 d.faults d.faults passed (omega arith) (omega (arith, faults_fit)))
      (λ has fits bad. passes_noted d.first d.events h d.bytes found d.past has.0 d.faults (next_count d.faults) k.failed (omega (arith, faults_fit)) (omega arith))
      (λ has fits good. passes_noted d.first d.events h d.bytes (written_by k.done found) d.past has.0 d.faults d.faults k.done (omega arith) (omega (arith, faults_fit)))

  -- a call that is no sync
  pub told_no_sync : (k : Kind) (ok : Bool) → Outcome k d e ok → ¬ IsSync k.done → ¬ IsSync k.failed → MarksSync ⊥ (told d) (told e)
  told_no_sync k ok outcome done_none failed_none = by_outcome (MarksSync ⊥) k ok outcome
      (λ faults le full bad. marks_missed d.first d.events h d.bytes found d.past d.faults faults ⊥ (λ absurdity. absurdity))
      (λ has lt bad. marks_noted d.first d.events h d.bytes found d.past has.0 d.faults d.faults passed ⊥ (λ is. is) (λ is. is))
      (λ has fits bad. marks_noted d.first d.events h d.bytes found d.past has.0 d.faults (next_count d.faults) k.failed ⊥ (λ is. failed_none is) (λ is. absurd is))
      (λ has fits good. marks_noted d.first d.events h d.bytes (written_by k.done found) d.past has.0 d.faults d.faults k.done ⊥ (λ is. done_none is) (λ is. absurd is))

  -- a call that looks at the bytes or syncs them
  pub told_nothing : (needs : ℕ) (event : Event) (ok : Bool) → Outcome (look_or_sync needs event) d e ok → (event ≡ passed) ⊎ (event ≡ synced) → WritesNothing (told d) (told e)
  told_nothing needs event ok outcome which = by_outcome WritesNothing (look_or_sync needs event) ok outcome
      (λ faults le full bad. (nothing_missed d.first d.events h d.bytes found d.past d.faults faults found_is found_long).same)
      (λ has lt bad. same_passed d.first d.events h d.bytes found d.past has.0 d.faults d.faults found_is found_long)
      (λ has fits bad. same_passed d.first d.events h d.bytes found d.past has.0 d.faults (next_count d.faults) found_is found_long)
      (λ has fits good. did event which has.0)
    where
      did : (event : Event) → (event ≡ passed) ⊎ (event ≡ synced) → d.past ≡ 0 → WritesNothing old (noted_as event (written_by event found) d.faults)
      did event h1 h2 = grind (arith, common_steps, nat_tests, same_passed, found_is, found_long, same_synced)

  pub told_keeps : (needs : ℕ) (ok : Bool) → Outcome (look needs) d e ok → KeepsImages (told d) (told e)
  told_keeps needs ok outcome = by_outcome KeepsImages (look needs) ok outcome
      (λ faults le full bad. (nothing_missed d.first d.events h d.bytes found d.past d.faults faults found_is found_long).images)
      (λ has lt bad. keeps_passed d.first d.events h d.bytes found d.past has.0 d.faults d.faults)
      (λ has fits bad. keeps_passed d.first d.events h d.bytes found d.past has.0 d.faults (next_count d.faults))
      (λ has fits good. keeps_passed d.first d.events h d.bytes found d.past has.0 d.faults d.faults)

  -- a sync
  pub told_sync : (ok : Bool) → Outcome sync_call d e ok → MarksSync (IsTrue ok) (told d) (told e)
  told_sync ok h1 = grind (arith, common_steps, nat_tests, by_outcome, marks_missed, marks_noted)

  pub told_unsettled : (ok : Bool) → Outcome sync_call d e ok → ok ≡ false → KeepsImages (told d) (told e)
  told_unsettled ok outcome failed = by_outcome KeepsImages sync_call ok outcome
      (λ faults le full bad. (nothing_missed d.first d.events h d.bytes found d.past d.faults faults found_is found_long).images)
      (λ has lt bad. keeps_passed d.first d.events h d.bytes found d.past has.0 d.faults d.faults)
      (λ has fits bad. keeps_passed d.first d.events h d.bytes found d.past has.0 d.faults (next_count d.faults))
      (λ has fits good. absurd (cc (failed, good)))

  abbrev IsDurable : DiskState → DiskState → Type 0
  IsDurable x y = IsTrue x.is_honest → Only y.bytes y.images

  pub told_durable : (ok : Bool) → Outcome sync_call d e ok → ok ≡ true → IsTrue (told d).is_honest → Only (told e).bytes (told e).images
  told_durable ok outcome well = by_outcome IsDurable sync_call ok outcome
      (λ faults le full bad. absurd (cc (well, bad)))
      (λ has lt bad. absurd (cc (well, bad)))
      (λ has fits bad. absurd (cc (well, bad)))
      (λ has fits good. only_synced d.first d.events h d.bytes found d.past has.0 d.faults d.faults before found_is)

  -- a write
  module _ (at : ℕ) (text : List ℕ) (ok : Bool) (outcome : Outcome (write_call at text) d e ok) where
    pub told_within : WritesWithin at (length text) (told d) (told e)
    told_within = by_outcome (WritesWithin at (length text)) (write_call at text) ok outcome
        (λ faults le full bad. within_nothing at (length text) (nothing_missed d.first d.events h d.bytes found d.past d.faults faults found_is found_long).same)
        (λ has lt bad. within_nothing at (length text) (same_passed d.first d.events h d.bytes found d.past has.0 d.faults d.faults found_is found_long))
        (λ has fits bad. within_tore d.first d.events h d.bytes found d.past has.0 d.faults (next_count d.faults) found_is found_long at text)
        (λ has fits good. within_wrote d.first d.events h d.bytes (overwritten found at text) d.past has.0 d.faults d.faults at text fits
        (λ untouched. ap (λ (l : List ℕ). overwritten l at text) (found_is untouched))
        (omega (arith, length-overwritten found at text (omega (arith, found_long, fits)), found_long)))

    abbrev AnyBytes : DiskState → DiskState → Type 0
    AnyBytes x y = IsTrue y.is_noted → at ≤ length x.bytes → LeavesAnyBytes at (length text) x y

    pub told_any_bytes : AnyBytes (told d) (told e)
    told_any_bytes = by_outcome AnyBytes (write_call at text) ok outcome
        (λ faults le full bad. λ is_noted. absurd (grind (arith, nat_tests)))
        (λ has lt bad. λ _ within. absurd (omega (arith, lt, within)))
        (λ has fits bad. λ _ _. any_tore d.first d.events h d.bytes found d.past has.0 d.faults (next_count d.faults) at text)
        (λ has fits good. λ _ _. any_wrote d.first d.events h d.bytes (overwritten found at text) d.past has.0 d.faults d.faults at text fits before)

    abbrev IsNoted : DiskState → DiskState → Type 0
    IsNoted x y = IsTrue y.is_noted

    abbrev Unnoted : DiskState → DiskState → Type 0
    Unnoted x y = y.is_noted ≡ false → ChangesNothing x y

    pub told_unnoted : Unnoted (told d) (told e)
    told_unnoted = grind (arith, common_steps, nat_tests, by_outcome, nothing_missed, found_is, found_long, nothing_passed, nat_eq)

    abbrev Untouched : DiskState → DiskState → Type 0
    Untouched x y = length x.bytes < at → ChangesNothing x y

    pub told_untouched : Untouched (told d) (told e)
    told_untouched = by_outcome Untouched (write_call at text) ok outcome
        (λ faults le full bad. λ _. nothing_missed d.first d.events h d.bytes found d.past d.faults faults found_is found_long)
        (λ has lt bad. λ _. nothing_passed d.first d.events h d.bytes found d.past has.0 d.faults d.faults found_is found_long)
        (λ has fits bad. λ lt. absurd (omega (arith, lt, fits)))
        (λ has fits good. λ lt. absurd (omega (arith, lt, fits)))

    abbrev IsWritten : DiskState → DiskState → Type 0
    IsWritten x y = IsTrue x.is_honest → y.bytes ≡ overwritten x.bytes at text

    abbrev IsLong : DiskState → DiskState → Type 0
    IsLong x y = length y.bytes ≡ max (length x.bytes) (at + length text)

    pub told_long : ok ≡ true → IsLong (told d) (told e)
    told_long h1 = grind (arith, common_steps, nat_tests, by_outcome, found_long)

-- A call fails exactly where it has a cause.
pub outcome_cause : (k : Kind) (d e : Recorded) (ok : Bool) → Outcome k d e ok → ok ≡ false → Fails k d
outcome_cause k d e ok h1 h2 = grind (arith, common_steps, nat_tests)

-- the same disk with its count at 0
pub fresh_count : (d : Recorded) → IsFreshCount (told d) (told (record d { faults = 0 }))
fresh_count d = grind (arith, common_steps, nat_tests)
