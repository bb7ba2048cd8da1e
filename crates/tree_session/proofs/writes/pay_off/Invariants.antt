use Rattle.tree_session.proofs.BookLemmas.{left_in}
use Rattle.tree_session.proofs.PayLemmas.{Paying}
use Rattle.tree_session.proofs.writes.pay_off.Given as goal

abbrev pub invariant-loop : goal.invariant-loop
invariant-loop g l = Paying g.D.Disk.state l.seat l.fn.core l.core

abbrev pub decreases-loop : goal.decreases-loop
decreases-loop g l = left_in l.seat l.core.held.runs.sizes l.core.held.book.book
