use Rattle.store_serve.proofs.ToldLemmas.{served_plain}
use Rattle.store_serve.proofs.laws.plain_session.Goals as goal

pub returns : goal.returns
returns c = served_plain
