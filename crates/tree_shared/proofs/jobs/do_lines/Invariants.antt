use Rattle.tree_shared.proofs.LineLemmas.{Going}
use Rattle.tree_shared.proofs.jobs.do_lines.Given as goal

abbrev pub invariant-loop-line : goal.invariant-loop-line
invariant-loop-line g l = Going g.D.Disk.state l.script l.line-index l.initial.caller l.caller
