use Rattle.std.proofs.Common.{◌≡◌, length}
use Rattle.blsm_model.specs.Geometry.{page_count, file_length}
use Rattle.disk_mem.specs.Recorded.{told}
use Rattle.run_writer.specs.Writer.{IsInside}
use Rattle.run_tests.proofs.trips.write.Given as goal

abbrev pub invariant-loop-n : goal.invariant-loop-n
invariant-loop-n g l = IsInside (page_count l.geo) l.writer × (length (told l.disk).bytes ≡ file_length l.geo)
