-- How the program ends.
use Rattle.std.specs.Prelude.{◌≡◌, ℕ}
use Rattle.disk_trait.specs.Disk.{DiskState}
use Rattle.text_io.specs.Text.{SinkState}
use Rattle.blsm_run.specs.declared.status.Status.{Status}
use Rattle.blsm_run.specs.Outside.{Outside}
use Rattle.blsm_run.specs.Outcome.{code_of}
use Rattle.blsm_run.specs.Answer.{Answers}

-- the call was made, and the exit status is the number of how it ended
abbrev pub EndsWith : {D : Type 0} → (D → DiskState) → Outside D → SinkState → SinkState → ℕ → Type 0
EndsWith state o sink sink_after code = (status : Status) × Answers state o sink sink_after status × (code ≡ code_of status)
