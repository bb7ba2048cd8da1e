use Rattle.std.proofs.Common.{◌≡◌}
use Rattle.std.specs.Prelude.{IsSome}
use Rattle.tree_runs.specs.Runs.{left_for_deep}
use Rattle.tree_runs.specs.Holding.{CountsMore}
use Rattle.tree_settling.specs.Settling.{MergesGoOn}
use Rattle.tree_settling.proofs.CountLemmas.{QuantaSoFar}
use Rattle.tree_settling.proofs.TakenLemmas.{CallsSoFar}
use Rattle.tree_settling.proofs.taking.take_deep.Given as goal

abbrev pub invariant-loop-runs : goal.invariant-loop-runs
invariant-loop-runs g l = record {
  runs : IsSome l.runs.deep;
  pass : l.runs.pass ≡ l.fn.runs.pass;
  goes_on : MergesGoOn l.a.entries l.fn.runs l.runs (g.D.Disk.state l.fn.disk) (g.D.Disk.state l.disk);
  calls : CallsSoFar l.fn.runs.sizes (left_for_deep l.fn.runs.deep) (left_for_deep l.runs.deep) (g.D.Disk.state l.fn.disk) (g.D.Disk.state l.disk);
  quanta : QuantaSoFar l.fn.runs.sizes (left_for_deep l.fn.runs.deep) (left_for_deep l.runs.deep) l.quanta;
  counted : CountsMore l.quanta l.fn.runs l.runs;
}

abbrev pub decreases-loop-runs : goal.decreases-loop-runs
decreases-loop-runs g l = left_for_deep l.runs.deep
