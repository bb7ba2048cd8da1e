use Rattle.std.proofs.Common.{◌≡◌, length}
use Rattle.blsm_model.specs.Geometry.{file_length}
use Rattle.disk_mem.specs.Recorded.{told}
use Rattle.run_tests.proofs.fronts.stays_in_images.Given as goal

abbrev pub invariant-images : goal.invariant-images
invariant-images g l = length (told l.disk).bytes ≡ file_length l.geo
