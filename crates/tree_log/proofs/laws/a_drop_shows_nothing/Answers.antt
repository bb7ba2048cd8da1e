use Rattle.tree_log.proofs.RestLemmas.{drop_weighs, dropped_is_of, rest_dropped, rest_weighs}
use Rattle.tree_log.proofs.laws.a_drop_shows_nothing.Goals as goal

pub returns-clause-is_of : goal.returns-clause-is_of
returns-clause-is_of c = dropped_is_of

pub returns-clause-tables : goal.returns-clause-tables
returns-clause-tables c = λ key lists log are. record { a = rest_dropped lists.a log.a key are.a; b = are.b }

pub returns-clause-weight : goal.returns-clause-weight
returns-clause-weight c = drop_weighs

pub returns-clause-listed : goal.returns-clause-listed
returns-clause-listed c = λ lists log are. rest_weighs lists.a log.a are.a
