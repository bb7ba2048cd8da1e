use Rattle.std.proofs.Common.{◌∙◌, Bool, sym, subst}
use Rattle.std.specs.Prelude.{IfOk}
use Rattle.tree_runs.specs.Runs.{left_for_deep}
use Rattle.tree_settling.specs.Counting.{CountsQuanta, untaken, where_so}
use Rattle.tree_settling.proofs.CountLemmas.{counts_none, none_left}
use Rattle.tree_settling.proofs.StepLemmas.{step_none}
use Rattle.tree_settling.proofs.settling.due_deep.Goals as goal

pub returns-else-in_deep-clause-step : goal.returns-else-in_deep-clause-step
returns-else-in_deep-clause-step g c = step_none (g.met.D.Disk.timed c.args.disk.now) c.requires.may

pub returns-else-in_deep-clause-counts : goal.returns-else-in_deep-clause-counts
returns-else-in_deep-clause-counts g c = counts_none 1 _ _ c.args.runs.now
    (none_left c.args.runs.now.deep (sym c.in_deep.ensures ∙ c.if-in_deep.false))

pub returns-then-in_deep-clause-counts : goal.returns-then-in_deep-clause-counts
returns-then-in_deep-clause-counts g c =
    let now = c.args.runs.now in
    subst (λ (b : Bool). IfOk c.finish_deep.result (CountsQuanta 1 (left_for_deep now.deep)
    (where_so b (untaken now.catalogue)) now c.finish_deep.new.runs))
    (sym (sym c.in_deep.ensures ∙ c.if-in_deep.true)) c.finish_deep.ensures.counts
