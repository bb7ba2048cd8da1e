use Rattle.std.proofs.Common.{◌≡◌, length}
use Rattle.blsm_model.specs.Geometry.{file_length}
use Rattle.disk_mem.specs.Recorded.{told}
use Rattle.run_tests.proofs.fronts.has_entries.Given as goal

abbrev pub invariant-keys : goal.invariant-keys
invariant-keys g l = length (told l.disk).bytes ≡ file_length l.geo
