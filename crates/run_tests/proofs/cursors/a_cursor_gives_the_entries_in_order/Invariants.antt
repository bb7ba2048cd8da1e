use Rattle.std.proofs.Common.{◌≡◌, length}
use Rattle.blsm_model.specs.Geometry.{file_length}
use Rattle.disk_mem.specs.Recorded.{told}
use Rattle.run_tests.proofs.cursors.a_cursor_gives_the_entries_in_order.Given as goal

abbrev pub invariant-loop-place : goal.invariant-loop-place
invariant-loop-place g l = length (told l.disk).bytes ≡ file_length l.geo

abbrev pub invariant-loop : goal.invariant-loop
invariant-loop g l = length (told l.disk).bytes ≡ file_length l.geo
