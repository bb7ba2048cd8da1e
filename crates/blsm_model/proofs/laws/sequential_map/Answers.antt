use Rattle.blsm_model.proofs.HistoryLemmas.{value-object_after}
use Rattle.blsm_model.proofs.HoldLemmas.{held-snapshot}
use Rattle.blsm_model.proofs.laws.sequential_map.Goals as goal

pub returns-clause-map : goal.returns-clause-map
returns-clause-map c = value-object_after

pub returns-clause-snapshot : goal.returns-clause-snapshot
returns-clause-snapshot c = held-snapshot
