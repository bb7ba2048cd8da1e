-- An admission's lookup, and then the admission.
use Rattle.std.specs.Prelude.{◌≡◌, ℕ, ◌+◌, ◌≤◌, true, false, List, None}
use Rattle.std.proofs.lemmas.Bool.{false≢true}
use Rattle.std.proofs.Common.{◌∙◌, refl, sym, subst, arith}
use Rattle.refusal.specs.Count.{HasRisen}
use Rattle.blsm_model.specs.Geometry.{file_length}
use Rattle.blsm_model.specs.Histories.{is_met_by, looks_first}
use Rattle.blsm_model.specs.declared.op.Op.{Op}
use Rattle.blsm_model.specs.declared.op.Op.TheVariants.{New, Swap}
use Rattle.disk_trait.specs.Disk.{DiskState, GoesOn}
use Rattle.disk_trait.specs.Effects.{Affects}
use Rattle.disk_trait.specs.Moments.{IsTimed}
use Rattle.disk_trait.specs.Reads.{OnlyReads}
use Rattle.disk_trait.proofs.EffectLemmas.{affects_more}
use Rattle.scan_view.specs.Pins.{beside_pins}
use Rattle.tree_machine.specs.Steps.{Replied}
use Rattle.tree_machine.specs.declared.step.Kind.TheVariants as kind
use Rattle.core_moves.specs.declared.held.Held.{Held}
use Rattle.tree_core.specs.Answers.{reply_to_write}
use Rattle.tree_core.specs.Calls.{Admits, AdmitsMet}
use Rattle.tree_core.specs.Causes.{
  AdmitsBecause,
  CallsAtMost,
  ReadsBefore,
  CallsNone,
  CountsFirst,
  HasLooked,
  IsFull,
  IsToldFirst,
  MetBecause,
  calls_to_admit,
  pages_first,
  swaps_due_in,
}
use Rattle.tree_core.specs.Clock.{EndsAdmitted, EndsMet}
use Rattle.tree_core.specs.Core.{CoreState, IsCore}
use Rattle.tree_core.specs.Ruling.{ruled_by}
use Rattle.tree_core.specs.declared.answers.Admission.{Admission}
use Rattle.tree_core.specs.declared.answers.Admission.TheVariants as admission
use Rattle.tree_core.proofs.AfterReads.{goes_after}
use Rattle.tree_core.proofs.ClockLemmas.{ends_later}
use Rattle.tree_core.proofs.FirstLemmas.{counts_first}
use Rattle.tree_core.proofs.KeepLemmas.{reads_affect}

-- ---- one that doesn't look first

unasked : (op : Op) → looks_first op ≡ false → is_met_by op None ≡ true
unasked (New key value) alone = absurd (false≢true (sym alone))
unasked (Swap key count value) alone = absurd (false≢true (sym alone))
unasked _ alone = refl

untold : (op : Op) (held : Held) (file : List ℕ) → looks_first op ≡ false → IsToldFirst op held file None
untold (New key value) held file alone = absurd (false≢true (sym alone))
untold (Swap key count value) held file alone = absurd (false≢true (sym alone))
untold _ held file alone = refl

pub looked_at_nothing : (op : Op) (held : Held) (d : DiskState) → looks_first op ≡ false → HasLooked op held d
looked_at_nothing op held d alone = record { found = None; met = unasked op alone; told = λ honest. untold op held d.bytes alone }

-- ---- the call

module _ {D : Type 0} (state : D → DiskState) (seat : ℕ) (op : Op) (old : CoreState D) (disk : D) (new : CoreState D)
    (core : IsCore old.held (state old.disk)) (timed : IsTimed (state disk)) (later : IsTimed (state new.disk))
    (asks : (n : ℕ) → CountsFirst op old.held n → OnlyReads (file_length old.held.runs.sizes) n (state old.disk) (state disk))
    (calm : (state disk).faults ≡ (state old.disk).faults) (looked : HasLooked op old.held (state old.disk))
    (alone : looks_first op ≡ false → disk ≡ old.disk) where
  reads : OnlyReads (file_length old.held.runs.sizes) (pages_first op) (state old.disk) (state disk)
  reads = asks (pages_first op) (counts_first op old.held)

  abbrev mid : CoreState D
  mid = record old { disk = disk }

  because : (answer : Admission) → (IsFull answer → new.disk ≡ disk) → MetBecause answer seat op old.held new.held (state disk) (state new.disk)
      → AdmitsBecause (ruled_by answer None) seat op old.held new.held (state old.disk) (state new.disk)
  because admission.Admitted full met = (record { ran = met.0.ran; runs = met.0.runs; faults = met.0.faults ∙ calm }, met.1, looked)
  because (admission.Full charge) full met = (
    met.0,
    met.1,
    met.2,
    met.3,
    subst (λ (d : D). (state d).faults ≡ (state old.disk).faults)
        (sym (full tt)) calm,
    looked,
  )
  because (admission.Fault begun) full met = (
    record {
      ran = met.0.ran;
      faults = subst (λ (n : ℕ). HasRisen n (state new.disk).faults) calm
          met.0.faults;
      stopped = met.0.stopped;
    },
    met.1,
    looked,
  )
  because admission.Kept full met = absurd met
  because admission.ReadFault full met = absurd met
  because (admission.Damaged page) full met = absurd met
  because (admission.Stopped why) full met = absurd met

  -- how many calls there were
  module _ (n : ℕ) (counts : CountsFirst op old.held n) (on : GoesOn (state disk) (state new.disk))
      (more : (state new.disk).clock ≤ (state disk).clock + calls_to_admit old.held) where
    behind : ReadsBefore state old.held n old.disk new.disk
    behind = record { read = disk; reads = asks n counts; goes_on = on; calls = more }

    counted : (answer : Admission) → (IsFull answer → new.disk ≡ disk) → MetBecause answer seat op old.held new.held (state disk) (state new.disk)
        → CallsAtMost state (ruled_by answer None) old.held n old.disk new.disk
    counted admission.Admitted full met = behind
    counted (admission.Full charge) full met = subst (λ (d : D). OnlyReads (file_length old.held.runs.sizes) n (state old.disk) (state d))
        (sym (full tt)) (asks n counts)
    counted (admission.Fault begun) full met = behind
    counted admission.Kept full met = absurd met
    counted admission.ReadFault full met = absurd met
    counted (admission.Damaged page) full met = absurd met
    counted (admission.Stopped why) full met = absurd met

  ended : (answer : Admission) → EndsMet answer old.held (state disk) (state new.disk) → EndsAdmitted (ruled_by answer None) op old.held
      (state old.disk) (state new.disk)
  ended admission.Admitted ends = ends_later (pages_first op) (swaps_due_in old.held) reads.effect.goes_on reads.effect.calls ends
  ended (admission.Full charge) ends = tt
  ended (admission.Fault begun) ends = tt
  ended admission.Kept ends = tt
  ended admission.ReadFault ends = tt
  ended (admission.Damaged page) ends = tt
  ended (admission.Stopped why) ends = tt

  left : (answer : Admission) → (IsFull answer → new.disk ≡ disk) → MetBecause answer seat op old.held new.held (state disk) (state new.disk) →
      CallsNone op (ruled_by answer None) → new.disk ≡ old.disk
  left admission.Admitted full met none = absurd none
  left (admission.Full charge) full met none = full tt ∙ alone none
  left (admission.Fault begun) full met none = absurd none
  left admission.Kept full met none = absurd none
  left admission.ReadFault full met none = absurd none
  left (admission.Damaged page) full met none = absurd none
  left (admission.Stopped why) full met none = absurd met

  -- It is one call, from before the reads.
  pub joined : (answer : Admission) → AdmitsMet state seat op answer mid new → Admits state seat op (ruled_by answer None) old new
  joined answer met =
      let effect : Affects (beside_pins old.held.runs.sizes old.held.runs.space.pins) (file_length old.held.runs.sizes)
      (pages_first op + calls_to_admit old.held) (state old.disk) (state new.disk) =
      affects_more timed calm (reads_affect reads) met.effect (λ i here. here) (omega arith) (omega arith) in
      let goes = goes_after state seat (kind.Admit op) (Replied (reply_to_write (ruled_by answer None))) old disk new reads calm core later refl
      effect met.goes met.beside in
      record {
        goes = goes.0;
        beside = goes.1;
        cause = because answer met.untouched met.cause;
        begun = met.begun;
        notes = met.notes;
        effect = effect;
        asks = λ n counts. counted n counts met.effect.goes_on met.effect.calls answer met.untouched met.cause;
        ends = ended answer met.ends;
        untouched = left answer met.untouched met.cause;
      }
