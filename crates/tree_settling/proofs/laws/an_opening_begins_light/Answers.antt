use Rattle.tree_settling.proofs.LightLemmas.{begins_light}
use Rattle.tree_settling.proofs.laws.an_opening_begins_light.Goals as goal

pub returns : goal.returns
returns c = begins_light
