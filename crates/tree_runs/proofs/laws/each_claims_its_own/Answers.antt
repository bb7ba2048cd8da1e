use Rattle.tree_runs.proofs.ClaimLemmas.{claims_add, taken_are_read}
use Rattle.tree_runs.proofs.laws.each_claims_its_own.Goals as goal

pub returns-clause-adds : goal.returns-clause-adds
returns-clause-adds c = claims_add

pub returns-clause-read : goal.returns-clause-read
returns-clause-read c = taken_are_read
