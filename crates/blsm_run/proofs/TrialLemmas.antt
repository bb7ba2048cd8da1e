-- The words of a trial ask for nothing else, so no other outcome has its cause.
use Rattle.std.proofs.Common.{◌≡◌, ℕ, List, Some, Result, sym, ◌∙◌, ◌⊎◌, inl, inr}
use Rattle.blsm_model.specs.declared.history.Line.{Line}
use Rattle.disk_trait.specs.Disk.{DiskState}
use Rattle.text_io.specs.Text.{SinkState}
use Rattle.program_words.specs.Words.{make, run, check, trial, serve, settle}
use Rattle.core_moves.specs.declared.held.Settled.{Settled}
use Rattle.tree_reading.specs.declared.found.Unreadable.{Unreadable}
use Rattle.tree_reading.specs.declared.found.Unreadable.TheVariants as unreadable
use Rattle.tree_reading.specs.declared.report.Report.{Report}
use Rattle.recover_open.specs.declared.making.NotMade.{NotMade}
use Rattle.blsm_run.specs.declared.outcome.Refusal.{Refusal}
use Rattle.blsm_run.specs.declared.outcome.Refusal.TheVariants as refusal
use Rattle.blsm_run.specs.declared.status.Status.{Status}
use Rattle.blsm_run.specs.declared.status.Status.TheVariants.{Done, SinkFault, NoMemory}
use Rattle.blsm_run.specs.Outside.{Outside}
use Rattle.blsm_run.specs.Outcome.{Outcome, refused, made, ran, served, checked, settled, tried, Tells, status_of}
use Rattle.blsm_run.specs.Cause.{Cause, AsksToRun, AsksToServe, HasChecked, HasMade, HasSettled, WasAsked, WasStopped}

module _ {D : Type 0} (state : D → DiskState) (o : Outside D) (seed count : ℕ) (asked : WasAsked o (trial seed count)) where
  not_made_so : {result : Result ℕ NotMade} → HasMade state o result → ⊥
  not_made_so was = let same : Some (make was.name was.sizes) ≡ Some (trial seed count) = sym was.asked.1 ∙ asked.1 in cc

  not_run : {script : Result (List Line) Refusal} → AsksToRun o script → ⊥
  not_run was = let same : Some (run was.name was.options) ≡ Some (trial seed count) = sym was.asked.1 ∙ asked.1 in cc

  not_served : AsksToServe o → ⊥
  not_served was = let same : Some (serve was.name was.callers was.ships) ≡ Some (trial seed count) = sym was.asked.1 ∙ asked.1 in cc

  not_checked : {result : Result Report Unreadable} → HasChecked state o result → ⊥
  not_checked was = let same : Some (check was.name) ≡ Some (trial seed count) = sym was.asked.1 ∙ asked.1 in cc

  not_settled : {result : Result Settled Unreadable} → HasSettled state o result → ⊥
  not_settled was = let same : Some (settle was.name) ≡ Some (trial seed count) = sym was.asked.1 ∙ asked.1 in cc

  not_stopped : (why : Unreadable) → WasStopped state o why → ⊥
  not_stopped why (inl was) = not_run was.1
  not_stopped why (inr (inl was)) = not_served was.asks
  not_stopped why (inr (inr (inl was))) = not_checked was
  not_stopped why (inr (inr (inr was))) = not_settled was

  by_tells : (sink sink_after : SinkState) (outcome : Outcome) (status : Status) → Tells sink sink_after outcome status → (status ≡ status_of outcome) ⊎ (status ≡ SinkFault)
  by_tells sink sink_after outcome status (inl did) = inl did.0
  by_tells sink sink_after outcome status (inr failed) = inr failed.0

  pub ends_trial : (sink sink_after : SinkState) (outcome : Outcome) (status : Status) → Cause state o outcome → Tells sink sink_after outcome status → (status ≡ Done) ⊎ (status ≡ SinkFault) ⊎ (status ≡ NoMemory)
  ends_trial sink sink_after (refused refusal.Usage) status cause tells = absurd (cause.0 asked.0)
  ends_trial sink sink_after (refused refusal.SourceFault) status cause tells = absurd (not_run cause.0)
  ends_trial sink sink_after (refused refusal.TooBig) status cause tells = absurd (not_run cause.0)
  ends_trial sink sink_after (refused (refusal.BadLine n)) status cause tells = absurd (not_run cause.0)
  ends_trial sink sink_after (refused refusal.DiskFault) status (inl was) tells = absurd (not_made_so was)
  ends_trial sink sink_after (refused refusal.DiskFault) status (inr was) tells = absurd (not_stopped unreadable.Fault was)
  ends_trial sink sink_after (refused refusal.NotAStore) status cause tells = absurd (not_stopped unreadable.NotAStore cause)
  ends_trial sink sink_after (refused (refusal.NotEmpty n)) status cause tells = absurd (not_made_so cause)
  ends_trial sink sink_after (refused (refusal.Damaged place)) status cause tells = absurd (not_stopped (unreadable.Damaged place) cause)
  ends_trial sink sink_after (refused (refusal.Worn version)) status cause tells = absurd (not_stopped (unreadable.Worn version) cause)
  ends_trial sink sink_after (refused refusal.NoMemory) status cause tells = elim (by_tells sink sink_after (refused refusal.NoMemory) status tells) [ inl is ↦ inr (inr is) | inr is ↦ inr (inl is) ]
  ends_trial sink sink_after (made n) status cause tells = absurd (not_made_so cause)
  ends_trial sink sink_after (ran options history end) status cause tells = absurd (not_run cause.1)
  ends_trial sink sink_after (served ships history end closing) status cause tells = absurd (not_served cause.0)
  ends_trial sink sink_after (checked report) status cause tells = absurd (not_checked cause)
  ends_trial sink sink_after (settled counts) status cause tells = absurd (not_settled cause)
  ends_trial sink sink_after (tried s n history) status cause tells = elim (by_tells sink sink_after (tried s n history) status tells) [ inl is ↦ inl is | inr is ↦ inr (inl is) ]
