use Rattle.std.proofs.Common.{refl}
use Rattle.tree_reading.specs.Reading.{within}
use Rattle.tree_reading.proofs.FaultLemmas.{calm, faults_none}
use Rattle.tree_reading.proofs.ReportLemmas.{report_of}
use Rattle.tree_reading.proofs.report.check_store.Goals as goal

pub returns-in_err-found-clause-looked : goal.returns-in_err-found-clause-looked
returns-in_err-found-clause-looked g c = c.in_err-found.ensures.looked refl

pub returns-clause-tells : goal.returns-clause-tells
returns-clause-tells g c = λ honest. report_of _ _ c.in_ok-found.ensures.found.head.version (c.in_ok-found.ensures.holds honest)

pub returns-clause-faults : goal.returns-clause-faults
returns-clause-faults g c = faults_none _ (calm _ c.in_ok-found.ensures.faults)

pub returns-clause-looked : goal.returns-clause-looked
returns-clause-looked g c =
    let found = c.in_ok-found.found in
    within found.geometry c.in_ok-found.ensures.found.head.geometry c.in_ok-found.ensures.length c.in_ok-found.ensures.effect
