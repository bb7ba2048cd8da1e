use Rattle.pacing.proofs.Runs.{run_keeps}
use Rattle.pacing.proofs.each_run_keeps_pace.Goals as goal

pub returns : goal.returns
returns c = run_keeps
