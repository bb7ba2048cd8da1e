use Rattle.text_io.proofs.WritingLemmas.{writes_cut, writes_stopped, writes_then}
use Rattle.blsm_run.proofs.answer.print_run.Goals as goal

pub returns-in_err-print_history : goal.returns-in_err-print_history
returns-in_err-print_history g c = writes_stopped _ _ (writes_cut _ _ c.in_err-print_history.ensures) c.from_residual.ensures.0

pub returns-in_err-print_resident : goal.returns-in_err-print_resident
returns-in_err-print_resident g c =
    writes_stopped _ _ (writes_then _ _ c.in_ok-print_history.ensures c.in_err-print_resident.ensures) c.from_residual-in_err-print_resident.ensures.0

pub returns : goal.returns
returns g c = writes_then _ _ (writes_then _ _ c.in_ok-print_history.ensures c.in_ok-print_resident.ensures) c.print_ships.ensures
