use Rattle.std.proofs.Common.{◌≡◌, length}
use Rattle.blsm_model.specs.Geometry.{file_length}
use Rattle.run_tests.proofs.pages.a_page_with_a_next_one_is_full.Given as goal

abbrev pub invariant-loop-used : goal.invariant-loop-used
invariant-loop-used g l = length l.disk.bytes ≡ file_length l.geo
