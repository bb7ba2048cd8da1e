use Rattle.core_chain.proofs.RowLemmas.{rows_of_a_seat_stay}
use Rattle.core_chain.proofs.laws.rows_stay.Goals as goal

pub returns : goal.returns
returns c = rows_of_a_seat_stay
