use Rattle.std.proofs.lemmas.Grind.{common_steps}
use Rattle.std.proofs.lemmas.Bool.Decides.{nat_tests}
use Rattle.std.proofs.Common.{is_ok, arith}
use Rattle.disk_mem.specs.Recorded.{write_call}
use Rattle.disk_mem.specs.Recorder.{recorded}
use Rattle.disk_mem.proofs.Told.{told_passes, told_no_sync, told_within, told_long, told_any_bytes, told_unnoted, told_untouched, outcome_cause}
use Rattle.disk_mem.proofs.Results.{on_ok, is_err}
use Rattle.disk_mem.proofs.disk.MemDiskDisk.write.Goals as goal

pub returns-clause-call : goal.returns-clause-call
returns-clause-call c =
    let r = c.self.inside.recorder in
    let new = c.write.new.self in
    let ok = is_ok c.write.result in
    let at = c.args.at in
    let text = c.args.from.now in
    rw (← c.self.view_is) (record {
      passes = told_passes (recorded r) (recorded new) r.replayed new.replayed r.faults_fit (write_call at text) ok c.write.ensures r.past_fits;
      no_sync = told_no_sync (recorded r) (recorded new) r.replayed new.replayed r.faults_fit (write_call at text) ok c.write.ensures (λ is. is) (λ is. is);
      within = told_within (recorded r) (recorded new) r.replayed new.replayed r.faults_fit at text ok c.write.ensures;
      sure = grind (arith, common_steps, nat_tests);
      any_bytes = told_any_bytes (recorded r) (recorded new) r.replayed new.replayed r.faults_fit at text ok c.write.ensures;
      noted = grind (arith, common_steps, nat_tests);
      unnoted = told_unnoted (recorded r) (recorded new) r.replayed new.replayed r.faults_fit at text ok c.write.ensures;
      past_end = grind (arith, common_steps, nat_tests);
      untouched = λ _. told_untouched (recorded r) (recorded new) r.replayed new.replayed r.faults_fit at text ok c.write.ensures;
      stands = grind (arith, common_steps, nat_tests);
      failed = grind (arith, common_steps, nat_tests);
      bytes = grind (arith, common_steps, nat_tests);
      length = on_ok c.write.result _ (λ well _. told_long (recorded r) (recorded new) r.replayed new.replayed r.faults_fit at text ok c.write.ensures well);
    })

pub returns-clause-cause : goal.returns-clause-cause
returns-clause-cause c =
    let r = c.self.inside.recorder in
    let new = c.write.new.self in
    rw (← c.self.view_is) (λ err. outcome_cause (write_call c.args.at c.args.from.now) (recorded r) (recorded new) (is_ok c.write.result) c.write.ensures (is_err c.write.result err))
