use Rattle.run_writer.proofs.GrowthLemmas.{next_above}
use Rattle.run_writer.proofs.laws.a_run_has_fences.Goals as goal

pub returns-clause-one_a_page : goal.returns-clause-one_a_page
returns-clause-one_a_page c = λ sizes honest file space writer filter fences entries has. has.one_a_page

pub returns-clause-above : goal.returns-clause-above
returns-clause-above c = next_above
