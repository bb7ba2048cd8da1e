use Rattle.run_cursor.proofs.AheadLemmas.{ahead_kept}
use Rattle.run_cursor.proofs.laws.what_is_ahead.Goals as goal

pub returns : goal.returns
returns c = ahead_kept
