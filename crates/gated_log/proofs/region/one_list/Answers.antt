use Rattle.gated_log.proofs.OneList.{one_list, next_entry, not_damaged}
use Rattle.gated_log.proofs.region.one_list.Goals as goal

pub returns-clause-same : goal.returns-clause-same
returns-clause-same c = one_list

pub returns-clause-next : goal.returns-clause-next
returns-clause-next c = next_entry

pub returns-clause-not_damaged : goal.returns-clause-not_damaged
returns-clause-not_damaged c = λ sizes n lane file has damaged. not_damaged sizes n lane damaged.0 file has damaged.1
