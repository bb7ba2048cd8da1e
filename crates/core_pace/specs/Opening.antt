-- A core that was just opened has the pace of an opening.
use Rattle.std.specs.Prelude.{◌≡◌, ℕ, ◌+◌, [], None}
use Rattle.blsm_model.specs.Book.{Book}
use Rattle.gear_sched.specs.Gears.{at_rest}
use Rattle.seat_book.specs.State.{opened_in}
use Rattle.tree_log.specs.Log.{end_of_a, end_of_b}
use Rattle.core_moves.specs.declared.held.Held.{Held}

-- No merge runs, C1' and both tables are empty, nothing was dropped of table A, and nothing was asked: the book has these annals, which are
-- empty.
pub record IsOpened (annals : Book) (faults : ℕ) (held : Held) : Type 0 where
  pub pass : held.runs.pass ≡ None
  pub deep : held.runs.deep ≡ None
  pub c1x : held.runs.catalogue.c1x.weight ≡ 0
  pub a : held.log.a.entries ≡ []
  pub dropped : held.log.a.dropped ≡ 0
  pub b : held.log.b.entries ≡ []
  pub end_a : end_of_a held.log ≡ 0
  pub end_b : end_of_b held.log ≡ 0
  pub gears : held.gears ≡ at_rest held.runs.sizes
  pub spring : held.spring ≡ 0
  pub book : held.book ≡ opened_in annals (held.runs.catalogue.c1.weight + held.runs.catalogue.c2.weight) faults
  pub entries : annals.entries ≡ []
  pub quanta : annals.quanta ≡ []
