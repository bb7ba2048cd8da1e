use Rattle.tree_reading.specs.Reading.{HasLooked, reading_calls}
use Rattle.blsm_run.proofs.ShelfLemmas.{checks, not_fetched}
use Rattle.blsm_run.proofs.stores.check_on_shelf.Goals as goal

pub returns-in_default : goal.returns-in_default
returns-in_default g c = not_fetched (HasLooked reading_calls) c.fetch.result c.fetch.ensures c.in_default.not-Ok

pub returns : goal.returns
returns g c =
    let m = c.check_store-checked.ensures in
    checks c.in-Ok.ensures c.give_back.ensures c.check_store-checked.result m.tells m.refused m.looked m.faults
