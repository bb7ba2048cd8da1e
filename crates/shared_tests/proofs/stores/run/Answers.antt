use Rattle.std.proofs.Common.{[]}
use Rattle.shared_tests.proofs.RunnableLemmas.{all_runnable, room_for}
use Rattle.shared_tests.proofs.stores.run.Goals as goal

pub run_all-requires-clause-runnable : goal.run_all-requires-clause-runnable
run_all-requires-clause-runnable g c = λ κs lives. all_runnable _ c.lines.ensures.allowed

pub run_all-requires-clause-fresh : goal.run_all-requires-clause-fresh
run_all-requires-clause-fresh g c = λ κs lives.
    c.an_opened_core_is_fresh.ensures (record { entries = []; quanta = []; room = c.room.result }) _ c.lines.result.now c.in-Ok.core c.in-Ok.ensures.opened
    (room_for c.room.result c.args.script.now c.lines.result.now c.lines.ensures.lines c.room.ensures.entries c.room.ensures.rows)
