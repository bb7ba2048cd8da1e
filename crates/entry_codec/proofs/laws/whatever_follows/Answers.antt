use Rattle.entry_codec.proofs.SpellingLemmas.{begins_more, begins_fewer}
use Rattle.entry_codec.proofs.laws.whatever_follows.Goals as goal

pub returns-clause-more : goal.returns-clause-more
returns-clause-more c = begins_more

pub returns-clause-fewer : goal.returns-clause-fewer
returns-clause-fewer c = begins_fewer
