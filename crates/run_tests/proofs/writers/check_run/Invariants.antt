use Rattle.std.proofs.Common.{◌≡◌, length}
use Rattle.blsm_model.specs.Geometry.{file_length}
use Rattle.disk_mem.specs.Recorded.{told}
use Rattle.run_tests.proofs.writers.check_run.Given as goal

abbrev pub invariant-loop-n : goal.invariant-loop-n
invariant-loop-n g l = length (told l.disk).bytes ≡ file_length l.geo
