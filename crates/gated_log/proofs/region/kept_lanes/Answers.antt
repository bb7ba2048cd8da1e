use Rattle.gated_log.proofs.LaneLaws.{same_region, empty_lane, lanes_apart}
use Rattle.gated_log.proofs.region.kept_lanes.Goals as goal

pub returns-clause-kept : goal.returns-clause-kept
returns-clause-kept c = same_region

pub returns-clause-empty : goal.returns-clause-empty
returns-clause-empty c = empty_lane

pub returns-clause-apart : goal.returns-clause-apart
returns-clause-apart c = lanes_apart
