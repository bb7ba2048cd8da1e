use Rattle.store_trial.proofs.RunnableLemmas.{room_of_lines}
use Rattle.blsm_run.specs.Stores.{LeavesClosed}
use Rattle.blsm_run.proofs.ShelfLemmas.{not_fetched, runs}
use Rattle.blsm_run.proofs.stores.run_on_shelf.Goals as goal

pub run_over-disk-requires-clause-room : goal.run_over-disk-requires-clause-room
run_over-disk-requires-clause-room g c = λ κs lives. room_of_lines c.args.room c.args.lines.now c.requires.room

pub returns-in_default : goal.returns-in_default
returns-in_default g c = not_fetched LeavesClosed c.fetch.result c.fetch.ensures c.in_default.not-Ok

pub returns : goal.returns
returns g c =
    let m = c.run_over-disk.ensures in
    runs c.in-Ok.ensures c.give_back.ensures c.args.lines.now c.args.workers c.args.turns c.args.room c.run_over-disk.result.1 c.requires.room m.ran m.ended m.counted m.ending m.causes m.reaches m.headline m.refused m.keeps m.untouched m.spares m.one_fault m.faults
