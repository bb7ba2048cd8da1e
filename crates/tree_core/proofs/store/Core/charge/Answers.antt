use Rattle.tree_core.proofs.BoundLemmas.{charge_fits}
use Rattle.tree_core.proofs.store.Core.charge.Goals as goal

pub charge-requires : goal.charge-requires
charge-requires g c = charge_fits c.self.inside.held c.self.invariant.0.pace c.self.invariant.0.holds.told
