use Rattle.alone_run.proofs.Going as going
use Rattle.alone_run.proofs.laws.alone_pays.Goals as goal

pub returns : goal.returns
returns c = record { pays = going.alone_pays }
