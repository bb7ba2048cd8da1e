use Rattle.std.proofs.Common.{◌≡◌, length}
use Rattle.blsm_model.specs.Geometry.{page_count, file_length}
use Rattle.disk_mem.specs.Recorded.{told}
use Rattle.run_writer.specs.Writer.{IsInside}
use Rattle.run_tests.proofs.fronts.the_closed_pages_of_a_run_of_a_hundred.Given as goal

abbrev pub invariant-entries : goal.invariant-entries
invariant-entries g l = IsInside (page_count l.geo) l.writer × (length (told l.disk).bytes ≡ file_length l.geo)
