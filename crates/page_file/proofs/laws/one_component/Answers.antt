use Rattle.page_file.proofs.ComponentLemmas.{one_component, one_list, rising_apart, weight_is_length}
use Rattle.page_file.proofs.laws.one_component.Goals as goal

pub returns-clause-same : goal.returns-clause-same
returns-clause-same c = one_component

pub returns-clause-apart : goal.returns-clause-apart
returns-clause-apart c = rising_apart

pub returns-clause-weight : goal.returns-clause-weight
returns-clause-weight c = weight_is_length

pub returns-clause-list : goal.returns-clause-list
returns-clause-list c = one_list
