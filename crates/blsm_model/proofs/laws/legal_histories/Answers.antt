use Rattle.blsm_model.proofs.HistoryLemmas.{legal_front}
use Rattle.blsm_model.proofs.LegalLemmas.{stays_stopped, stops_once, one_why}
use Rattle.blsm_model.proofs.laws.legal_histories.Goals as goal

pub returns-clause-front : goal.returns-clause-front
returns-clause-front c = legal_front

pub returns-clause-stopped : goal.returns-clause-stopped
returns-clause-stopped c = stays_stopped

pub returns-clause-once : goal.returns-clause-once
returns-clause-once c = stops_once

pub returns-clause-one_why : goal.returns-clause-one_why
returns-clause-one_why c = one_why
