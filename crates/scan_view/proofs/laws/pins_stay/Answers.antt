use Rattle.scan_view.proofs.StayLemmas.{unpinned_on, writes_beside, head_beside, within_on}
use Rattle.scan_view.proofs.laws.pins_stay.Goals as goal

pub returns-clause-takes : goal.returns-clause-takes
returns-clause-takes c = unpinned_on

pub returns-clause-writes : goal.returns-clause-writes
returns-clause-writes c = writes_beside

pub returns-clause-head : goal.returns-clause-head
returns-clause-head c = head_beside

pub returns-clause-share : goal.returns-clause-share
returns-clause-share c = within_on
