use Rattle.entry_codec.proofs.SpellingLemmas.{entry_same}
use Rattle.entry_codec.proofs.laws.one_spelling.Goals as goal

pub returns : goal.returns
returns c = entry_same
