use Rattle.std.proofs.Common.{◌≡◌}
use Rattle.record_tests.proofs.drops.dropped_beside_a_sorted_list.Given as goal

-- the reserve stays
abbrev pub invariant-lives : goal.invariant-lives
invariant-lives g l = l.table.reserved ≡ 65536
