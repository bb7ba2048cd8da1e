use Rattle.scan_view.proofs.StayLemmas.{head_beside}
use Rattle.tree_runs.proofs.BesideLemmas.{head_is_beside, runs_stay, lists_stay, entries_join, entries_wait, left_grows}
use Rattle.tree_runs.proofs.laws.others_may_write.Goals as goal

pub returns-clause-head : goal.returns-clause-head
returns-clause-head c = head_is_beside

pub returns-clause-pins : goal.returns-clause-pins
returns-clause-pins c = head_beside

pub returns-clause-running : goal.returns-clause-running
returns-clause-running c = runs_stay

pub returns-clause-lists : goal.returns-clause-lists
returns-clause-lists c = lists_stay

pub returns-clause-joins : goal.returns-clause-joins
returns-clause-joins c = entries_join

pub returns-clause-waits : goal.returns-clause-waits
returns-clause-waits c = entries_wait

pub returns-clause-left : goal.returns-clause-left
returns-clause-left c = left_grows
