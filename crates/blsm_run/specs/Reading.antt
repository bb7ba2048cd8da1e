-- What reading the source as a script answers.
use Rattle.std.specs.Prelude.{◌≡◌, ◌<◌, ◌≤◌, ◌+◌, ℕ, Some, List, [], length, IfSome, Result, Ok, Err}
use Rattle.text_io.specs.Reading.{piece_length}
use Rattle.text_io.specs.Text.{Loses, SourceState}
use Rattle.blsm_model.specs.Format.{most_script}
use Rattle.script_text.specs.Grammar.{IsScript, IsBadLine}
use Rattle.blsm_model.specs.declared.history.Line.{Line}
use Rattle.blsm_run.specs.declared.outcome.Refusal.{Refusal}
use Rattle.blsm_run.specs.declared.outcome.Refusal.TheVariants as refusal
use Rattle.blsm_run.specs.Outside.{HasRisenOnce}

-- how many bytes are read of a source at most: the last piece may go past the limit
abbrev pub most_read : ℕ
most_read = most_script + piece_length

-- the source was read to its end, and this holds of what it had
pub record HasRead (P : List ℕ → Type 0) (old new : SourceState) : Type 0 where
  pub whole : IfSome old.left (λ input. (length input ≤ most_script) × (new.left ≡ Some []) × P input)
  pub calm : new.faults ≡ old.faults

abbrev pub ReadsScript : SourceState → SourceState → Result (List Line) Refusal → Type 0
ReadsScript old new (Ok lines) = HasRead (λ input. IsScript input lines) old new
ReadsScript old new (Err refusal.SourceFault) = HasRisenOnce old.faults new.faults × Loses 0 most_read old.left new.left
ReadsScript old new (Err refusal.TooBig) = IfSome old.left (λ input. most_script < length input) × Loses (most_script + 1) most_read old.left new.left × (new.faults ≡ old.faults)
ReadsScript old new (Err (refusal.BadLine n)) = HasRead (λ input. IsBadLine input n) old new
ReadsScript old new (Err refusal.NoMemory) = Loses 0 most_read old.left new.left × (new.faults ≡ old.faults)
ReadsScript old new (Err refusal) = ⊥
