use Rattle.tree_reading.proofs.ReadingLemmas.{fits_found}
use Rattle.tree_reading.proofs.laws.what_is_found_is_a_tree.Goals as goal

pub returns : goal.returns
returns c = fits_found
