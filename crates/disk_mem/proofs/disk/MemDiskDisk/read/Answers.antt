use Rattle.std.proofs.lemmas.Grind.{common_steps}
use Rattle.std.proofs.lemmas.Bool.Decides.{nat_tests}
use Rattle.std.proofs.Common.{◌+◌, inl, length, refl, is_ok, arith}
use Rattle.disk_mem.specs.Recorded.{look}
use Rattle.disk_mem.specs.Recorder.{recorded}
use Rattle.disk_mem.specs.Events.{passed}
use Rattle.disk_mem.proofs.Told.{told_passes, told_no_sync, told_nothing, told_keeps, outcome_cause}
use Rattle.disk_mem.proofs.Results.{is_err}
use Rattle.disk_mem.proofs.disk.MemDiskDisk.read.Goals as goal

pub returns-clause-call : goal.returns-clause-call
returns-clause-call c =
    let r = c.self.inside.recorder in
    let new = c.read.new.self in
    let ok = is_ok c.read.result in
    let outcome = c.read.ensures.outcome in
    let end = c.args.at + length c.args.into.now in
    rw (← c.self.view_is) (record {
      passes = told_passes (recorded r) (recorded new) r.replayed new.replayed r.faults_fit (look end) ok outcome r.past_fits;
      no_sync = told_no_sync (recorded r) (recorded new) r.replayed new.replayed r.faults_fit (look end) ok outcome (λ is. is) (λ is. is);
      same = told_nothing (recorded r) (recorded new) r.replayed new.replayed r.faults_fit end passed ok outcome (inl refl);
      images = told_keeps (recorded r) (recorded new) r.replayed new.replayed r.faults_fit end ok outcome;
      sure = grind (arith, common_steps, nat_tests);
      past_end = grind (arith, common_steps, nat_tests);
      stands = grind (arith, common_steps, nat_tests);
      failed = grind (arith, common_steps, nat_tests);
      bytes = grind (arith, common_steps, nat_tests);
    })

pub returns-clause-cause : goal.returns-clause-cause
returns-clause-cause c =
    let r = c.self.inside.recorder in
    let new = c.read.new.self in
    rw (← c.self.view_is) (λ err. outcome_cause (look (c.args.at + length c.args.into.now)) (recorded r) (recorded new) (is_ok c.read.result) c.read.ensures.outcome (is_err c.read.result err))
