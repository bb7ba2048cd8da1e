use Rattle.blsm_run.specs.Stores.{LeavesMade}
use Rattle.blsm_run.proofs.ShelfLemmas.{made, not_fetched, not_made_so}
use Rattle.blsm_run.proofs.stores.make_on_shelf.Goals as goal

pub returns-in_default : goal.returns-in_default
returns-in_default g c = not_fetched (LeavesMade c.args.geometry.now) c.fetch.result c.fetch.ensures c.in_default.not-Ok

pub returns-in-Ok-made : goal.returns-in-Ok-made
returns-in-Ok-made g c =
    let m = c.make_store-made.ensures in
    made c.in-Ok.ensures c.give_back.ensures c.args.geometry.now c.length.result c.make_store-made.result c.length.ensures c.in-Ok-made.is m.empty m.made m.long (record { empty = m.leaves; unsynced = m.unsynced; looked = m.looked; effect = m.effect }) m.faults

pub returns-in-Err : goal.returns-in-Err
returns-in-Err g c =
    let m = c.make_store-made.ensures in
    not_made_so c.in-Ok.ensures c.give_back.ensures c.args.geometry.now c.in-Err.why c.make_store-made.result c.in-Err.is m.not_empty (record { empty = m.leaves; unsynced = m.unsynced; looked = m.looked; effect = m.effect }) m.faults
