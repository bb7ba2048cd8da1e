use Rattle.std.proofs.Common.{◌≡◌, ◌+◌, ◌-◌, length}
use Rattle.blsm_model.specs.Format.{most_entries}
use Rattle.script_text.specs.Grammar.{longest_line}
use Rattle.store_serve.proofs.SessionLemmas.{SoFar}
use Rattle.tree_session.specs.Lines.{Rests}
use Rattle.store_serve.proofs.session.do_lines.Given as goal

abbrev pub invariant-loop-next : goal.invariant-loop-next
invariant-loop-next g l = record {
  so_far : SoFar g.D.Disk.state l.ships l.ship l.fn.core l.core (g.S.Source.state l.fn.source) l.lines (g.S.Source.state l.source)
      (g.K.Sink.state l.fn.sink) (g.K.Sink.state l.sink);
  longest : l.lines.longest ≡ longest_line;
  rests : Rests l.core.held;
}

abbrev pub decreases-loop-next : goal.decreases-loop-next
decreases-loop-next g l = most_entries + 1 - length l.core.held.book.book.entries
