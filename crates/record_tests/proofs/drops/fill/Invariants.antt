use Rattle.std.proofs.Common.{◌≡◌}
use Rattle.record_tests.proofs.drops.fill.Given as goal

-- the reserve stays
abbrev pub invariant-bytes : goal.invariant-bytes
invariant-bytes g l = l.table.reserved ≡ 700
