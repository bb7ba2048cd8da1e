use Rattle.blsm_run.specs.Stores.{LeavesClosed}
use Rattle.blsm_run.proofs.ShelfLemmas.{not_fetched, settles}
use Rattle.blsm_run.proofs.stores.settle_on_shelf.Goals as goal

pub returns-in_default : goal.returns-in_default
returns-in_default g c = not_fetched LeavesClosed c.fetch.result c.fetch.ensures c.in_default.not-Ok

pub returns : goal.returns
returns g c =
    let m = c.settle_over-disk.ensures in
    settles c.in-Ok.ensures c.give_back.ensures c.settle_over-disk.result.1 m.counts m.reads m.refused
    (record { keeps = m.keeps; untouched = m.untouched; within = m.reaches }) m.spares m.one_fault m.faults
