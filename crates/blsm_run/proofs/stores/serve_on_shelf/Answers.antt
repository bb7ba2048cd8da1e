use Rattle.std.proofs.Common.{arith, refl}
use Rattle.blsm_run.specs.Stores.{LeavesClosed}
use Rattle.blsm_run.proofs.ShelfLemmas.{not_fetched, serves}
use Rattle.blsm_run.proofs.stores.serve_on_shelf.Goals as goal

pub serve_over-disk-requires-clause-entries : goal.serve_over-disk-requires-clause-entries
serve_over-disk-requires-clause-entries g c = omega (arith, c.share.ensures.entries)

pub serve_over-disk-requires-clause-rows : goal.serve_over-disk-requires-clause-rows
serve_over-disk-requires-clause-rows g c = c.share.ensures.rows

pub returns-in_default-clause-serves : goal.returns-in_default-clause-serves
returns-in_default-clause-serves g c = (not_fetched LeavesClosed c.fetch.result c.fetch.ensures c.in_default.not-Ok, refl)

pub returns-clause-serves : goal.returns-clause-serves
returns-clause-serves g c =
    let m = c.serve_over-disk.ensures in
    serves c.in-Ok.ensures c.give_back.ensures c.args.count c.share.result c.serve_over-disk.result.1 (g.S.Source.state c.args.source.now) (g.S.Source.state c.serve_over-disk.new.source) c.share.ensures.room
    m.ran m.ended m.counted m.ending m.causes m.reaches m.headline m.refused m.keeps m.untouched m.spares m.one_fault m.faults m.takes m.unasked
