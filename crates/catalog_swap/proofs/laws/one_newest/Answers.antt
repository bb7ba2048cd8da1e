use Rattle.catalog_swap.proofs.SlotLemmas.{one_newest, not_damaged}
use Rattle.catalog_swap.proofs.Decide.{some_newest}
use Rattle.catalog_swap.proofs.FileLemmas.{newest_same}
use Rattle.catalog_swap.proofs.laws.one_newest.Goals as goal

pub returns-clause-same : goal.returns-clause-same
returns-clause-same c = one_newest

pub returns-clause-not_damaged : goal.returns-clause-not_damaged
returns-clause-not_damaged c = not_damaged

pub returns-clause-some : goal.returns-clause-some
returns-clause-some c = some_newest

pub returns-clause-kept : goal.returns-clause-kept
returns-clause-kept c = λ sizes now old new same newest. newest_same same newest
