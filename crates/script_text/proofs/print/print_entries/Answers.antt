use Rattle.std.proofs.Common.{◌+◌, arith}
use Rattle.text_io.proofs.WritingLemmas.{writes_then, writes_stopped}
use Rattle.blsm_model.specs.Book.{no_entry}
use Rattle.script_text.proofs.PrintLemmas.{entries_split, entries_more}
use Rattle.script_text.proofs.print.print_entries.Goals as goal

pub returns-in_err-print_entry : goal.returns-in_err-print_entry
returns-in_err-print_entry g c =
    let whole = entries_split 1 c.args.annals.now.entries c.args.annals.now.quanta c.loop-place.place no_entry (c.loop-place.place + 1) (omega arith) (omega arith) (omega arith) in
    rw whole (writes_stopped _ _ (writes_then _ _ c.loop-place.invariant c.in_err-print_entry.ensures) c.from_residual.ensures.0)

pub loop-place-preserved : goal.loop-place-preserved
loop-place-preserved g c =
    let more = entries_more 1 c.args.annals.now.entries c.args.annals.now.quanta c.loop-place.place no_entry (c.loop-place.place + 1) (omega arith) (omega arith) (omega arith) in
    rw more (writes_then _ _ c.loop-place.invariant c.in_ok-print_entry.ensures)
