use Rattle.std.proofs.Common.{◌++◌, ◌∷◌, [], codes, decimal, flat_map, length}
use Rattle.text_io.proofs.WritingLemmas.{writes_cut, writes_stopped, writes_then}
use Rattle.blsm_model.specs.Printed.{and_number, and_row}
use Rattle.script_text.proofs.PrintLemmas.{rows_line}
use Rattle.script_text.proofs.print.print_rows_line.Goals as goal

pub returns-in_err-print_before_rows : goal.returns-in_err-print_before_rows
returns-in_err-print_before_rows g c =
    let rows = c.args.rows.now in
    rows_line c.args.piece.now (codes "rows" ++ and_number (length rows)) (flat_map and_row rows) (codes " q") (decimal c.args.quanta) (10 ∷ [])
    (writes_stopped _ _ (writes_cut _ (flat_map and_row rows) c.in_err-print_before_rows.ensures) c.from_residual.ensures.0)

pub returns-in_err-print_each_row : goal.returns-in_err-print_each_row
returns-in_err-print_each_row g c =
    let rows = c.args.rows.now in
    rows_line c.args.piece.now (codes "rows" ++ and_number (length rows)) (flat_map and_row rows) (codes " q") (decimal c.args.quanta) (10 ∷ [])
    (writes_stopped _ _ (writes_then _ _ c.in_ok-print_before_rows.ensures c.in_err-print_each_row.ensures) c.from_residual-in_err-print_each_row.ensures.0)

pub returns : goal.returns
returns g c =
    let rows = c.args.rows.now in
    rows_line c.args.piece.now (codes "rows" ++ and_number (length rows)) (flat_map and_row rows) (codes " q") (decimal c.args.quanta) (10 ∷ [])
    (writes_then _ _ (writes_then _ _ c.in_ok-print_before_rows.ensures c.in_ok-print_each_row.ensures) (rw c.clear.ensures at c.print_end_of_line.ensures))
