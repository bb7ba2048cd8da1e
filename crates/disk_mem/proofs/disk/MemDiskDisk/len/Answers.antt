use Rattle.std.proofs.lemmas.Grind.{common_steps}
use Rattle.std.proofs.lemmas.Bool.Decides.{nat_tests}
use Rattle.std.proofs.Common.{inl, refl, is_ok, arith}
use Rattle.disk_mem.specs.Recorded.{look}
use Rattle.disk_mem.specs.Recorder.{recorded}
use Rattle.disk_mem.specs.Events.{passed}
use Rattle.disk_mem.proofs.Told.{told_passes, told_no_sync, told_nothing, told_keeps, outcome_cause}
use Rattle.disk_mem.proofs.Results.{is_err}
use Rattle.disk_mem.proofs.disk.MemDiskDisk.len.Goals as goal

pub returns-clause-call : goal.returns-clause-call
returns-clause-call c =
    let r = c.self.inside.recorder in
    let new = c.len.new.self in
    let ok = is_ok c.len.result in
    let outcome = c.len.ensures.outcome in
    rw (← c.self.view_is) (record {
      passes = told_passes (recorded r) (recorded new) r.replayed new.replayed r.faults_fit (look 0) ok outcome r.past_fits;
      no_sync = told_no_sync (recorded r) (recorded new) r.replayed new.replayed r.faults_fit (look 0) ok outcome (λ is. is) (λ is. is);
      same = told_nothing (recorded r) (recorded new) r.replayed new.replayed r.faults_fit 0 passed ok outcome (inl refl);
      images = told_keeps (recorded r) (recorded new) r.replayed new.replayed r.faults_fit 0 ok outcome;
      sure = grind (arith, common_steps, nat_tests);
      stands = grind (arith, common_steps, nat_tests);
      failed = grind (arith, common_steps, nat_tests);
      length = grind (arith, common_steps, nat_tests);
    })

pub returns-clause-cause : goal.returns-clause-cause
returns-clause-cause c =
    let r = c.self.inside.recorder in
    let new = c.len.new.self in
    rw (← c.self.view_is) (λ err. outcome_cause (look 0) (recorded r) (recorded new) (is_ok c.len.result) c.len.ensures.outcome (is_err c.len.result err))
