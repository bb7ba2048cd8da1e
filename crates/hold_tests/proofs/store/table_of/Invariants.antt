use Rattle.std.proofs.Common.{◌≡◌}
use Rattle.hold_tests.proofs.store.table_of.Given as goal

abbrev pub invariant-loop-key : goal.invariant-loop-key
invariant-loop-key g l = l.table.reserved ≡ 65536
