use Rattle.page_file.proofs.PageLemmas.{same_pages, pages_behind}
use Rattle.page_file.proofs.ComponentLemmas.{chain_kept, component_kept, list_kept, run_kept}
use Rattle.page_file.proofs.laws.what_stays.Goals as goal

pub returns-clause-apart : goal.returns-clause-apart
returns-clause-apart c = same_pages

pub returns-clause-before : goal.returns-clause-before
returns-clause-before c = pages_behind

pub returns-clause-chain : goal.returns-clause-chain
returns-clause-chain c = chain_kept

pub returns-clause-run : goal.returns-clause-run
returns-clause-run c = run_kept

pub returns-clause-component : goal.returns-clause-component
returns-clause-component c = component_kept

pub returns-clause-list : goal.returns-clause-list
returns-clause-list c = list_kept
