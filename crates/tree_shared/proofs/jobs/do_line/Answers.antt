use Rattle.std.proofs.Common.{◌∙◌}
use Rattle.tree_shared.proofs.jobs.do_line.Goals as goal

pub returns-then-line-number : goal.returns-then-line-number
returns-then-line-number g c = record {
  other = λ not. absurd (not (c.if-line-number.true ∙ c.number.ensures));
  its = λ own. (c.do_one-told.ensures.0, c.do_one-told.ensures.2);
}
