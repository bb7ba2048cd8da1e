use Rattle.std.proofs.Common.{◌+◌, slice_index}
use Rattle.blsm_model.specs.Book.{entry_at}
use Rattle.text_io.proofs.WritingLemmas.{writes_stopped}
use Rattle.store_serve.proofs.ToldLemmas.{next_after, none_behind, tells_both, tells_line}
use Rattle.store_serve.proofs.session.tell.Goals as goal

pub print_ship_of-requires-clause-next : goal.print_ship_of-requires-clause-next
print_ship_of-requires-clause-next g c = c.requires.next

pub returns-in_err-print_entry-clause-text : goal.returns-in_err-print_entry-clause-text
returns-in_err-print_entry-clause-text g c = writes_stopped _ _ c.in_err-print_entry.ensures c.from_residual.ensures.0

pub returns-then-ship-eq0-clause-text : goal.returns-then-ship-eq0-clause-text
returns-then-ship-eq0-clause-text g c =
    let annals = c.args.annals.now in
    tells_line c.args.ship (c.args.place + 1) (entry_at annals c.args.place) (slice_index annals.quanta c.args.place) 0 c.if-ship-eq0.true
    c.in_ok-print_entry.ensures

pub returns-then-ship-eq0-clause-next : goal.returns-then-ship-eq0-clause-next
returns-then-ship-eq0-clause-next g c = none_behind c.args.ship (entry_at c.args.annals.now c.args.place) c.if-ship-eq0.true

pub returns-clause-text : goal.returns-clause-text
returns-clause-text g c =
    let annals = c.args.annals.now in
    tells_both c.args.ship (c.args.place + 1) (entry_at annals c.args.place) (slice_index annals.quanta c.args.place) c.print_ship_of.result
    c.if-ship-eq0.false c.in_ok-print_entry.ensures c.print_ship_of.ensures.text

pub returns-clause-next : goal.returns-clause-next
returns-clause-next g c =
    next_after c.args.ship (entry_at c.args.annals.now c.args.place) c.print_ship_of.result c.if-ship-eq0.false c.print_ship_of.ensures.next
