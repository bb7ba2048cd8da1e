use Rattle.tree_reading.proofs.FirstLemmas.{damaged_not_worn, one_place, one_version, store_of}
use Rattle.tree_reading.proofs.first.one_reason.Goals as goal

pub returns-clause-place : goal.returns-clause-place
returns-clause-place c = one_place

pub returns-clause-version : goal.returns-clause-version
returns-clause-version c = one_version

pub returns-clause-not_both : goal.returns-clause-not_both
returns-clause-not_both c = damaged_not_worn

pub returns-clause-store : goal.returns-clause-store
returns-clause-store c = store_of
