use Rattle.std.proofs.lemmas.Grind.{common_steps}
use Rattle.std.proofs.lemmas.Bool.Decides.{nat_tests}
use Rattle.std.proofs.Common.{inr, refl, is_ok, arith}
use Rattle.disk_mem.specs.Recorded.{sync_call}
use Rattle.disk_mem.specs.Recorder.{recorded}
use Rattle.disk_mem.specs.Events.{synced}
use Rattle.disk_mem.proofs.Told.{told_passes, told_sync, told_nothing, told_durable, told_unsettled, outcome_cause}
use Rattle.disk_mem.proofs.Results.{on_ok, on_err, is_err}
use Rattle.disk_mem.proofs.disk.MemDiskDisk.sync.Goals as goal

pub returns-clause-call : goal.returns-clause-call
returns-clause-call c =
    let r = c.self.inside.recorder in
    let new = c.sync.new.self in
    let ok = is_ok c.sync.result in
    rw (← c.self.view_is) (record {
      passes = told_passes (recorded r) (recorded new) r.replayed new.replayed r.faults_fit sync_call ok c.sync.ensures r.past_fits;
      marks = told_sync (recorded r) (recorded new) r.replayed new.replayed r.faults_fit ok c.sync.ensures;
      same = told_nothing (recorded r) (recorded new) r.replayed new.replayed r.faults_fit 0 synced ok c.sync.ensures (inr refl);
      sure = grind (arith, common_steps, nat_tests);
      durable = on_ok c.sync.result _ (λ well. told_durable (recorded r) (recorded new) r.replayed new.replayed r.faults_fit ok c.sync.ensures well);
      unsettled = on_err c.sync.result _ (λ failed. told_unsettled (recorded r) (recorded new) r.replayed new.replayed r.faults_fit ok c.sync.ensures failed);
      stands = grind (arith, common_steps, nat_tests);
      failed = grind (arith, common_steps, nat_tests);
    })

pub returns-clause-cause : goal.returns-clause-cause
returns-clause-cause c =
    let r = c.self.inside.recorder in
    let new = c.sync.new.self in
    rw (← c.self.view_is) (λ err. outcome_cause sync_call (recorded r) (recorded new) (is_ok c.sync.result) c.sync.ensures (is_err c.sync.result err))
