use Rattle.alone_run.proofs.Runs as runs
use Rattle.alone_run.proofs.laws.runs_alone.Goals as goal

pub returns : goal.returns
returns c = runs.same_text
