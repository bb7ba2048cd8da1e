-- What an admission came to, with the value that a lookup found. The call answers that there is one, and the history has it.
use Rattle.std.specs.Prelude.{ℕ, Bool, Option}
use Rattle.blsm_model.specs.declared.history.Why.{Why}
use Rattle.blsm_model.specs.declared.row.Value.{Value}
use Rattle.tree_core.specs.declared.answers.Admission.{Admission}
use Rattle.tree_core.specs.declared.answers.Admission.TheVariants as admission

pub data Ruling : Type 0 where
  Admitted : Ruling
  Kept : Option Value → Ruling
  Full : ℕ → Ruling
  ReadFault : Ruling
  Damaged : ℕ → Ruling
  Fault : Bool → Ruling
  Stopped : Why → Ruling

-- what an answer tells, where this was found
abbrev pub ruled_by : Admission → Option Value → Ruling
ruled_by admission.Admitted found = Admitted
ruled_by admission.Kept found = Kept found
ruled_by (admission.Full charge) found = Full charge
ruled_by admission.ReadFault found = ReadFault
ruled_by (admission.Damaged page) found = Damaged page
ruled_by (admission.Fault begun) found = Fault begun
ruled_by (admission.Stopped why) found = Stopped why
