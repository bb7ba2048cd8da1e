use Rattle.tree_machine.proofs.TellLemmas.{faults_are_counted, stops_name_more}
use Rattle.tree_machine.proofs.laws.outcomes_are_told.Goals as goal

pub returns-clause-faults : goal.returns-clause-faults
returns-clause-faults c = faults_are_counted

pub returns-clause-stop : goal.returns-clause-stop
returns-clause-stop c = stops_name_more
