use Rattle.blsm_run.specs.Outcome.{outcome_of}
use Rattle.blsm_run.proofs.TellLemmas.{told_err, told_ok}
use Rattle.blsm_run.proofs.answer.tell.Goals as goal

pub returns-in-Ok : goal.returns-in-Ok
returns-in-Ok g c = λ before told. rw c.status_for.ensures (told_ok (outcome_of c.args.answer.now) before _ _ told c.in-Ok.ensures)

pub returns-in-Err : goal.returns-in-Err
returns-in-Err g c = λ before told. told_err (outcome_of c.args.answer.now) _ before _ _ told c.in-Err.ensures
