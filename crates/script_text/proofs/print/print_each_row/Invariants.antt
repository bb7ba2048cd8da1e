use Rattle.std.proofs.Common.{Ok, take, flat_map}
use Rattle.refusal.specs.declared.Failed.{Failed}
use Rattle.text_io.specs.Text.{Writes}
use Rattle.blsm_model.specs.Printed.{and_row}
use Rattle.script_text.proofs.print.print_each_row.Given as goal

abbrev pub invariant-loop-row : goal.invariant-loop-row
invariant-loop-row g l = Writes {T = Unit {0}} {E = Failed} (flat_map and_row (take l.row-index l.rows)) (Ok tt) (g.K.Sink.state l.fn.sink) (g.K.Sink.state l.sink)
