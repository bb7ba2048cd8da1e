-- The answers of reading a source to its end.
use Rattle.std.specs.Prelude.{◌≡◌, ◌≤◌, ◌+◌, ℕ, List, [], Some, IfSome, length}
use Rattle.refusal.specs.Count.{HasRisen}
use Rattle.text_io.specs.Text.{SourceState, Loses}
use Rattle.text_io.specs.declared.whole.ReadFault.{ReadFault}
use Rattle.text_io.specs.declared.whole.ReadFault.TheVariants.{Failed, TooLong, NoMemory}

-- how many bytes one call asks a source for at most
abbrev pub piece_length : ℕ
piece_length = 4096

-- these bytes are all that was left, within the limit, and nothing is left
pub record WasRead (limit : ℕ) (bytes : List ℕ) (old new : SourceState) : Type 0 where
  pub whole : IfSome old.left (λ left. (bytes ≡ left) × (new.left ≡ Some []))
  pub within : length bytes ≤ limit
  pub calm : new.faults ≡ old.faults

-- A front is gone, of more than the limit where that was the cause. The count of faults has risen by one where a call of the source failed, and else stands.
abbrev pub WasCutShort : ℕ → ReadFault → SourceState → SourceState → Type 0
WasCutShort limit Failed old new = Loses 0 (limit + piece_length) old.left new.left × (old.faults ≤ new.faults) × HasRisen old.faults new.faults × (new.faults ≤ old.faults + 1)
WasCutShort limit TooLong old new = Loses (limit + 1) (limit + piece_length) old.left new.left × (new.faults ≡ old.faults)
WasCutShort limit NoMemory old new = Loses 0 (limit + piece_length) old.left new.left × (new.faults ≡ old.faults)
