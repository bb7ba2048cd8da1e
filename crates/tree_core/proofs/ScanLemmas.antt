-- What a next gave, by the entry that it noted.
use Rattle.std.specs.Prelude.{◌≡◌, ℕ, List}
use Rattle.std.proofs.lemmas.Grind.{common_steps}
use Rattle.std.proofs.lemmas.Bool.Decides.{nat_tests}
use Rattle.std.proofs.Common.{arith}
use Rattle.blsm_model.specs.declared.op.Op.TheVariants as op
use Rattle.blsm_model.specs.declared.row.Row.{Row}
use Rattle.seat_book.specs.State.{BookState, noted_in}
use Rattle.tree_core.specs.declared.answers.Scan.{Scan}
use Rattle.tree_core.specs.Answers.{reply_to_next}
use Rattle.tree_core.specs.Scanned.{Counts, rows_noted, scanned_by, scanned_in}

-- the last entry has the rows that the answer stands for
pub told_by_entry : (answer : Scan) (rows : List Row) (seat n : ℕ) (b : BookState) → scanned_in answer (noted_in seat (op.Next n) (reply_to_next (scanned_by answer rows)) b) ≡ scanned_by answer rows
told_by_entry answer rows seat n b = grind (arith, common_steps, nat_tests)

-- and so many
pub counts_entry : (answer : Scan) (rows : List Row) (seat n : ℕ) (b : BookState) → Counts answer rows → Counts answer (rows_noted (noted_in seat (op.Next n) (reply_to_next (scanned_by answer rows)) b).book)
counts_entry answer rows seat n b h1 = grind (arith, common_steps, nat_tests)
