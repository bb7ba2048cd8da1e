use Rattle.scan_view.proofs.StayLemmas.{rows_kept, held_beside, held_by_others}
use Rattle.scan_view.proofs.laws.rows_stay.Goals as goal

pub returns-clause-pages : goal.returns-clause-pages
returns-clause-pages c = rows_kept

pub returns-clause-beside : goal.returns-clause-beside
returns-clause-beside c = held_beside

pub returns-clause-others : goal.returns-clause-others
returns-clause-others c = held_by_others
