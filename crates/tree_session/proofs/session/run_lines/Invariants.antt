use Rattle.std.specs.Prelude.{take, drop, length}
use Rattle.std.proofs.Common.{◌≡◌}
use Rattle.tree_session.specs.Lines.{HasRoomFor}
use Rattle.tree_session.specs.Session.{Runs}
use Rattle.tree_session.proofs.session.run_lines.Given as goal

abbrev pub invariant-loop-line : goal.invariant-loop-line
invariant-loop-line g l = record {
  runs : Runs g.D.Disk.state (take l.line-index l.lines) l.fn.core l.core;
  places : length l.core.held.book.book.quanta ≡ length l.core.held.book.book.entries;
  left : HasRoomFor l.core.held.book.book.room (drop l.line-index l.lines);
}
