use Rattle.std.proofs.Common.{◌*◌, ◌+◌}
use Rattle.tree_shared.proofs.jobs.+fn-run_rest-join+arg2+run_rest.Given as goal

abbrev pub decreases-join+arg2 : goal.decreases-join+arg2
decreases-join+arg2 g l = 2 * l.more

abbrev pub decreases-run_rest : goal.decreases-run_rest
decreases-run_rest g l = 2 * l.more + 1
