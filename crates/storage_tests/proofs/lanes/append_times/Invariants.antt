use Rattle.std.proofs.Common.{◌≡◌, length}
use Rattle.blsm_model.specs.Geometry.{file_length}
use Rattle.disk_mem.specs.Recorded.{told}
use Rattle.storage_tests.proofs.lanes.append_times.Given as goal

abbrev pub invariant-loop-i : goal.invariant-loop-i
invariant-loop-i g l = (l.lanes.sizes ≡ l.geometry) × (length (told l.disk).bytes ≡ file_length l.geometry)
