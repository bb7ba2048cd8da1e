use Rattle.run_writer.proofs.ClosedLemmas.{closed_reads, closed_are, closed_stays, closed_grows, closed_pushed, text_more}
use Rattle.run_writer.proofs.laws.what_is_closed.Goals as goal

pub returns-clause-reads : goal.returns-clause-reads
returns-clause-reads c = closed_reads

pub returns-clause-entries : goal.returns-clause-entries
returns-clause-entries c = closed_are

pub returns-clause-stays : goal.returns-clause-stays
returns-clause-stays c = closed_stays

pub returns-clause-grows : goal.returns-clause-grows
returns-clause-grows c = closed_grows

pub returns-clause-pushed : goal.returns-clause-pushed
returns-clause-pushed c = closed_pushed

pub returns-clause-text : goal.returns-clause-text
returns-clause-text c = text_more
