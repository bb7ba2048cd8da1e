use Rattle.page_space.proofs.FreeLemmas.{free_within}
use Rattle.page_space.proofs.laws.room_is_free.Goals as goal

pub returns : goal.returns
returns c = λ space live share shape within few. free_within space live share shape within few
