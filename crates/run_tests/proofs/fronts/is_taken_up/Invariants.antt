use Rattle.std.proofs.Common.{◌≡◌, length}
use Rattle.blsm_model.specs.Geometry.{page_count, file_length}
use Rattle.disk_mem.specs.Recorded.{told}
use Rattle.run_writer.specs.Writer.{IsInside}
use Rattle.run_tests.proofs.fronts.is_taken_up.Given as goal

abbrev pub invariant-entries : goal.invariant-entries
invariant-entries g l = IsInside (page_count l.geo) l.left × (length (told l.disk).bytes ≡ file_length l.geo)

abbrev pub invariant-again : goal.invariant-again
invariant-again g l = IsInside (page_count l.geo) l.writer × (length (told l.disk).bytes ≡ file_length l.geo)

abbrev pub invariant-keys : goal.invariant-keys
invariant-keys g l = length (told l.disk).bytes ≡ file_length l.geo
