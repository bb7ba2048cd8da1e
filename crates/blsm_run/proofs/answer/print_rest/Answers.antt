use Rattle.blsm_model.specs.Printed.{end_text}
use Rattle.store_serve.specs.Told.{closing_text}
use Rattle.text_io.proofs.WritingLemmas.{writes_stopped, writes_then}
use Rattle.blsm_run.proofs.TellLemmas.{rest_written}
use Rattle.blsm_run.proofs.answer.print_rest.Goals as goal

pub returns-in_err-print_end-in_default : goal.returns-in_err-print_end-in_default
returns-in_err-print_end-in_default g c =
    rest_written c.args.served.now.closing c.args.served.now.finished.totals c.from_residual.result _ _ c.in_default.not-SinkFault
    (writes_stopped (end_text c.args.served.now.finished.totals) (closing_text c.args.served.now.closing) c.in_err-print_end-in_default.ensures c.from_residual.ensures.0)

pub returns-in_ok-print_end-in_default : goal.returns-in_ok-print_end-in_default
returns-in_ok-print_end-in_default g c =
    rest_written c.args.served.now.closing c.args.served.now.finished.totals c.print_closing.result _ _ c.in_default.not-SinkFault
    (writes_then (end_text c.args.served.now.finished.totals) (closing_text c.args.served.now.closing) c.in_ok-print_end-in_default.ensures c.print_closing.ensures)
