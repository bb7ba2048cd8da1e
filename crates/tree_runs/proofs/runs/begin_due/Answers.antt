use Rattle.tree_runs.proofs.runs.begin_due.Goals as goal

pub returns-else-catalogue-eq0-clause-merge : goal.returns-else-catalogue-eq0-clause-merge
returns-else-catalogue-eq0-clause-merge c = c.begin_deep.ensures.merge
