-- A get gives no rows.
use Rattle.std.proofs.Common.{◌≤◌, length, arith}
use Rattle.std.proofs.lemmas.Grind.{common_steps}
use Rattle.std.proofs.lemmas.Bool.Decides.{nat_tests}
use Rattle.blsm_model.specs.Book.{rows_given}
use Rattle.tree_core.specs.Answers.{reply_to_get}
use Rattle.tree_core.specs.declared.answers.Lookup.{Lookup}

pub get_rows : (result : Lookup) → length (rows_given (reply_to_get result)) ≤ 0
get_rows result = grind (arith, common_steps, nat_tests)
