use Rattle.std.proofs.Common.{◌≡◌}
use Rattle.record_tests.proofs.drops.grow_both.Given as goal

-- the reserve stays
abbrev pub invariant-writes : goal.invariant-writes
invariant-writes g l = l.table.reserved ≡ 65536
