use Rattle.program_words.proofs.RangeLemmas.{in_range}
use Rattle.program_words.proofs.laws.asked_in_range.Goals as goal

pub returns : goal.returns
returns c = in_range
