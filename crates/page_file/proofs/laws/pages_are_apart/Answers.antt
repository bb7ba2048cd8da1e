use Rattle.page_file.proofs.PageLemmas.{others_apart, before_apart}
use Rattle.page_file.proofs.laws.pages_are_apart.Goals as goal

pub returns-clause-others : goal.returns-clause-others
returns-clause-others c = others_apart

pub returns-clause-before : goal.returns-clause-before
returns-clause-before c = before_apart
