use Rattle.std.proofs.Common.{◌<◌, length, arith}
use Rattle.text_io.proofs.WritingLemmas.{writes_then, writes_stopped}
use Rattle.blsm_model.specs.Printed.{and_row}
use Rattle.script_text.proofs.PrintLemmas.{pieces_split}
use Rattle.script_text.proofs.print.print_each_row.Goals as goal

pub returns-in_err-print_row : goal.returns-in_err-print_row
returns-in_err-print_row g c =
    let rows = c.args.rows.now in
    let i = c.loop-row.row-index in
    let within : i < length rows = omega arith in
    let whole = pieces_split and_row rows i c.row-item.result within in
    rw (whole, ← c.row-item.is) (writes_stopped _ _ (writes_then _ _ c.loop-row.invariant c.in_err-print_row.ensures) c.from_residual.ensures.0)
