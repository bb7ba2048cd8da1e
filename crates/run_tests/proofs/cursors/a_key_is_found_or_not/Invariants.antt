use Rattle.std.proofs.Common.{◌≡◌, length}
use Rattle.blsm_model.specs.Geometry.{file_length}
use Rattle.disk_mem.specs.Recorded.{told}
use Rattle.run_tests.proofs.cursors.a_key_is_found_or_not.Given as goal

abbrev pub invariant-loop-place : goal.invariant-loop-place
invariant-loop-place g l = length (told l.disk).bytes ≡ file_length l.geo

abbrev pub invariant-loop-place-2 : goal.invariant-loop-place-2
invariant-loop-place-2 g l = length (told l.disk).bytes ≡ file_length l.geo

abbrev pub invariant-loop-absent : goal.invariant-loop-absent
invariant-loop-absent g l = length (told l.disk).bytes ≡ file_length l.geo
