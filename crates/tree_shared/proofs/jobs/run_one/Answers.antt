use Rattle.std.proofs.Common.{arith}
use Rattle.tree_shared.proofs.JobLemmas.{caller_ended, new_has_helped, new_is_free, worker_ended}
use Rattle.tree_shared.proofs.jobs.run_one.Goals as goal

pub do_lines-requires-clause-comes : goal.do_lines-requires-clause-comes
do_lines-requires-clause-comes g c = record { of_lock = c.requires.new.of_lock; number = omega arith; knows = new_is_free c.args.script.now c.args.lock.now c.args.caller c.requires.fresh c.requires.new (omega arith) }

pub worker-requires-clause-knows : goal.worker-requires-clause-knows
worker-requires-clause-knows g c = (0, 0, new_has_helped c.args.script.now c.args.lock.now c.args.caller c.requires.fresh c.requires.new (omega arith))

pub returns-then-number-lt-CALLERS-clause-ends : goal.returns-then-number-lt-CALLERS-clause-ends
returns-then-number-lt-CALLERS-clause-ends g c =
    caller_ended c.args.script.now c.args.lock.now c.args.caller c.requires.fresh c.requires.new c.args.turns c.do_lines.new.caller c.leave.new.caller (omega arith) c.do_lines.ensures.ran c.leave.ensures.did c.leave.ensures.gone.0 c.leave.ensures.gone.1

pub returns-else-number-lt-CALLERS-clause-ends : goal.returns-else-number-lt-CALLERS-clause-ends
returns-else-number-lt-CALLERS-clause-ends g c =
    worker_ended c.args.script.now c.args.lock.now c.args.caller c.requires.fresh c.requires.new c.args.turns c.worker.new.caller (omega arith) (omega arith) c.requires.runnable c.worker.ensures
