use Rattle.tree_session.proofs.WorkLemmas.{Turning}
use Rattle.tree_session.proofs.works.turn.Given as goal

abbrev pub invariant-loop-turn : goal.invariant-loop-turn
invariant-loop-turn g l = Turning g.D.Disk.state l.seat l._turn 0 l.fn.core l.core
