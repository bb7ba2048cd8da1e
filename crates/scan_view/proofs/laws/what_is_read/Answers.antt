use Rattle.scan_view.proofs.ReadLemmas.{front_itself}
use Rattle.scan_view.proofs.laws.what_is_read.Goals as goal

pub returns : goal.returns
returns c = front_itself
