use Rattle.text_io.proofs.WritingLemmas.{writes_cut, writes_stopped, writes_then}
use Rattle.script_text.proofs.print.print_history.Goals as goal

pub returns-in_err-print_charge : goal.returns-in_err-print_charge
returns-in_err-print_charge g c = writes_stopped _ _ (writes_cut _ _ c.in_err-print_charge.ensures) c.from_residual.ensures.0

pub returns-in_err-print_entries : goal.returns-in_err-print_entries
returns-in_err-print_entries g c = writes_stopped _ _ (writes_then _ _ c.in_ok-print_charge.ensures c.in_err-print_entries.ensures) c.from_residual-in_err-print_entries.ensures.0

pub returns : goal.returns
returns g c = writes_then _ _ (writes_then _ _ c.in_ok-print_charge.ensures c.in_ok-print_entries.ensures) c.print_end.ensures
