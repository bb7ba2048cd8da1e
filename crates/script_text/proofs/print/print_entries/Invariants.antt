use Rattle.std.proofs.Common.{Ok, take}
use Rattle.refusal.specs.declared.Failed.{Failed}
use Rattle.text_io.specs.Text.{Writes}
use Rattle.blsm_model.specs.Printed.{entries_text}
use Rattle.script_text.proofs.print.print_entries.Given as goal

abbrev pub invariant-loop-place : goal.invariant-loop-place
invariant-loop-place g l = Writes {T = Unit {0}} {E = Failed} (entries_text 1 (take l.place l.annals.entries) (take l.place l.annals.quanta)) (Ok tt) (g.K.Sink.state l.fn.sink) (g.K.Sink.state l.sink)
