use Rattle.std.proofs.Common.{◌≡◌, length}
use Rattle.blsm_model.specs.Geometry.{file_length}
use Rattle.disk_mem.specs.Recorded.{told}
use Rattle.run_tests.proofs.trips.reads_on.Given as goal

abbrev pub invariant-entries : goal.invariant-entries
invariant-entries g l = length (told l.disk).bytes ≡ file_length l.geo
