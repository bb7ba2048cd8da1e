use Rattle.std.proofs.Common.{◌≡◌, length}
use Rattle.blsm_model.specs.Geometry.{file_length}
use Rattle.run_tests.proofs.pages.an_entry_has_its_lengths.Given as goal

abbrev pub invariant-loop-kind : goal.invariant-loop-kind
invariant-loop-kind g l = length l.disk.bytes ≡ file_length l.geo
