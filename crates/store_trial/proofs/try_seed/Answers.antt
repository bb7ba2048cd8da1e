use Rattle.std.proofs.Common.{◌∙◌, arith, refl}
use Rattle.disk_mem.specs.Faultless.{faultless_state}
use Rattle.tree_file.proofs.OneTree.{one_size, one_tree, reads_exactly}
use Rattle.tree_reading.proofs.FirstLemmas.{map_is_read}
use Rattle.store_trial.proofs.FreshLemmas.{stays_calm}
use Rattle.store_trial.proofs.RunnableLemmas.{all_runnable, room_for, room_is}
use Rattle.store_trial.proofs.TrialLemmas.{refused_for_memory, tried}
use Rattle.store_trial.proofs.try_seed.Goals as goal

pub run_in_order-disk-requires-clause-runnable : goal.run_in_order-disk-requires-clause-runnable
run_in_order-disk-requires-clause-runnable c = all_runnable c.lines.result.now c.lines.ensures.allowed

pub run_in_order-disk-requires-clause-room : goal.run_in_order-disk-requires-clause-room
run_in_order-disk-requires-clause-room c = room_for c.room.result c.in_ok-script.script c.lines.result.now c.lines.ensures.lines c.room.ensures.entries c.room.ensures.rows

pub returns-in-Ok : goal.returns-in-Ok
returns-in-Ok c =
    let r = c.run_in_order-disk.ensures in
    let fresh = c.in_ok-disk.ensures in
    tried one_size one_tree reads_exactly c.args.seed c.args.count c.lines.result.now c.room.result c.in_ok-disk.disk c.run_in_order-disk.result.0 c.run_in_order-disk.result.1 c.in-Ok.finished
    (c.lines.ensures.lines ∙ c.in_ok-script.ensures) (room_is c.room.result c.in_ok-script.script c.lines.result.now c.lines.ensures.lines c.room.ensures.entries c.room.ensures.rows) fresh (stays_calm c.in_ok-disk.disk (faultless_state c.run_in_order-disk.result.0) fresh r.reaches) r.counted (r.served refl) c.in-Ok.is

pub unreachable-requires : goal.unreachable-requires
unreachable-requires c =
    let r = c.run_in_order-disk.ensures in
    let fresh = c.in_ok-disk.ensures in
    let memory = refused_for_memory map_is_read c.in_ok-disk.disk c.run_in_order-disk.result.0 c.run_in_order-disk.result.1 c.in-Err.field-0 fresh
    (stays_calm c.in_ok-disk.disk (faultless_state c.run_in_order-disk.result.0) fresh r.reaches) r.faults (r.refused refl) c.in-Err.is in
    grind arith
