use Rattle.std.proofs.Common.{◌≡◌, length}
use Rattle.blsm_model.specs.Geometry.{file_length}
use Rattle.run_tests.proofs.pages.each_byte_of_a_page_counts.Given as goal

abbrev pub invariant-loop-change : goal.invariant-loop-change
invariant-loop-change g l = length l.disk.bytes ≡ file_length l.geo
