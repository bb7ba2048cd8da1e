use Rattle.page_file.proofs.PageLemmas.{page_same, made, few_pages}
use Rattle.page_file.proofs.laws.one_page.Goals as goal

pub returns-clause-same : goal.returns-clause-same
returns-clause-same c = page_same

pub returns-clause-made : goal.returns-clause-made
returns-clause-made c = made

pub returns-clause-few : goal.returns-clause-few
returns-clause-few c = few_pages
