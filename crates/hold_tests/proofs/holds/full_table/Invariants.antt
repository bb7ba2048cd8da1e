use Rattle.std.proofs.Common.{◌≡◌}
use Rattle.hold_tests.proofs.holds.full_table.Given as goal

abbrev pub invariant-loop-number : goal.invariant-loop-number
invariant-loop-number g l = l.table.reserved ≡ 65536
