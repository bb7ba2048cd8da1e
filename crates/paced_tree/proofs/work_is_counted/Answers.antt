use Rattle.paced_tree.proofs.Work.{step_work, run_work, run_commits, run_small}
use Rattle.paced_tree.proofs.work_is_counted.Goals as goal

pub returns-clause-step : goal.returns-clause-step
returns-clause-step c = λ opening m step outcome tree ok. step_work opening m step.seat step.kind outcome tree ok

pub returns-clause-run : goal.returns-clause-run
returns-clause-run c = run_work

pub returns-clause-commits : goal.returns-clause-commits
returns-clause-commits c = run_commits

pub returns-clause-small : goal.returns-clause-small
returns-clause-small c = run_small
