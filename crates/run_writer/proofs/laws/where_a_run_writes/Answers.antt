use Rattle.run_writer.proofs.RegionLemmas.{closed_page, closed_page_apart, open_tagged, pushed_kept}
use Rattle.run_writer.proofs.laws.where_a_run_writes.Goals as goal

pub returns-clause-role : goal.returns-clause-role
returns-clause-role c = open_tagged

pub returns-clause-pushed : goal.returns-clause-pushed
returns-clause-pushed c = pushed_kept

pub returns-clause-closed : goal.returns-clause-closed
returns-clause-closed c = closed_page

pub returns-clause-apart : goal.returns-clause-apart
returns-clause-apart c = closed_page_apart
