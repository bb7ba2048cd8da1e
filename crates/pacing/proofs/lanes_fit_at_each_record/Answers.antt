use Rattle.pacing.proofs.Fronts.{fronts_fit}
use Rattle.pacing.proofs.lanes_fit_at_each_record.Goals as goal

pub returns : goal.returns
returns c = fronts_fit
