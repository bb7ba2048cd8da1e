-- What is told of what was found.
use Rattle.std.proofs.lemmas.Bool.Decides.{nat_tests}
use Rattle.std.proofs.lemmas.Grind.{common_steps}
use Rattle.std.proofs.Common.{◌≤◌, ℕ, List, arith}
use Rattle.tree_reading.specs.declared.found.Found.{Found}
use Rattle.tree_reading.specs.Damage.{most_version}
use Rattle.tree_reading.specs.Reading.{HoldsFound}
use Rattle.tree_reading.specs.Report.{IsReportOf}

pub report_of : (found : Found) (file : List ℕ) → found.catalogue.version ≤ most_version → HoldsFound found file
    → IsReportOf (record { version = found.catalogue.version; c1 = found.catalogue.c1; c1x = found.catalogue.c1x; c2 = found.catalogue.c2; lane_a = found.records_a; lane_b = found.records_b }) file
report_of found file h1 h2 = grind (arith, common_steps, nat_tests)
