-- What a step makes of the numbers, by its answer.
use Rattle.std.specs.Prelude.{◌≡◌, ◌⊎◌, ℕ, length}
use Rattle.blsm_model.specs.declared.op.Op.{Op}
use Rattle.blsm_model.specs.declared.history.Reply.{Reply}
use Rattle.blsm_model.specs.declared.history.Reply.TheVariants.{Done, FaultLost, FaultUnsure}
use Rattle.blsm_model.specs.Histories.{writes_of}
use Rattle.blsm_model.specs.Legal.{total_weight, is_del}
use Rattle.pacing.specs.Pace.{Pace, Quantum, Written, with_forgiven}
use Rattle.pacing.specs.Steps.{Admit, Pay, Turn, May, after, deep_settled, ready_for}
use Rattle.tree_machine.specs.declared.step.Kind.{Kind}
use Rattle.tree_machine.specs.declared.step.Kind.TheVariants as kind
use Rattle.tree_machine.specs.Machine.{Worked, Failed, BadPage}
use Rattle.tree_machine.specs.Steps as steps
use Rattle.tree_machine.specs.Steps.{Answer, Replied, Paid, Settled}

-- one admission of the pacing, of the command's writes, by the seat
pub record IsAdmission (seat : ℕ) (op : Op) (old new : Pace) : Type 0 where
  pub written : Written
  pub weighs : written.weight ≡ total_weight (writes_of op)
  pub counts : written.writes ≡ length (writes_of op)
  pub deletes : written.is_del ≡ is_del op
  pub may : May old (Admit seat written)
  pub led : new ≡ after old (Admit seat written)

-- A write that was lost has swapped in the deep merge at most; one that is unsure had all its moves but the write itself.
abbrev pub IsReplied : Reply → ℕ → Op → Pace → Pace → Type 0
IsReplied Done seat op old new = IsAdmission seat op old new
IsReplied FaultLost seat op old new = (new ≡ old) ⊎ (new ≡ deep_settled old)
IsReplied FaultUnsure seat op old new = new ≡ ready_for old (total_weight (writes_of op))
IsReplied _ seat op old new = new ≡ old

abbrev pub IsAdmittedBy : Answer → ℕ → Op → Pace → Pace → Type 0
IsAdmittedBy (Replied reply) seat op old new = IsReplied reply seat op old new
IsAdmittedBy _ seat op old new = new ≡ old

-- one payment of the pacing, or the debts are forgiven that may be
abbrev pub IsPaidBy : Answer → ℕ → Pace → Pace → Type 0
IsPaidBy Paid seat old new = (quantum : Quantum) × May old (Pay seat quantum) × (new ≡ after old (Pay seat quantum))
IsPaidBy Settled seat old new = new ≡ with_forgiven old seat
IsPaidBy (steps.Turn Failed) seat old new = new ≡ with_forgiven old seat
IsPaidBy (steps.Turn (BadPage page)) seat old new = new ≡ with_forgiven old seat
IsPaidBy _ seat old new = new ≡ old

-- one turn of the pacing, or nothing
abbrev pub IsTurnedBy : Answer → ℕ → Pace → Pace → Type 0
IsTurnedBy (steps.Turn Worked) seat old new = (quantum : Quantum) × May old (Turn seat quantum) × (new ≡ after old (Turn seat quantum))
IsTurnedBy _ seat old new = new ≡ old

-- what a step of this kind, with this answer, makes of them
abbrev pub IsMadeBy : ℕ → Kind → Answer → Pace → Pace → Type 0
IsMadeBy seat (kind.Admit op) answer old new = IsAdmittedBy answer seat op old new
IsMadeBy seat kind.Pay answer old new = IsPaidBy answer seat old new
IsMadeBy seat kind.WorkTurn answer old new = IsTurnedBy answer seat old new
IsMadeBy seat kind.WorkerTurn answer old new = IsTurnedBy answer seat old new
IsMadeBy seat _ answer old new = new ≡ old
