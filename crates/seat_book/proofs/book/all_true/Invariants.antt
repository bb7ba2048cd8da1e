use Rattle.std.proofs.Common.{◌≡◌, drop}
use Rattle.tree_machine.specs.Machine.{all_true}
use Rattle.seat_book.proofs.book.all_true.Given as goal

abbrev pub invariant-loop-mark : goal.invariant-loop-mark
invariant-loop-mark l = all_true (drop l.mark-index l.marks) ≡ all_true l.marks
