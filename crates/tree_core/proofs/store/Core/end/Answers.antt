use Rattle.tree_core.proofs.BoundLemmas.{quanta_fit}
use Rattle.tree_core.proofs.store.Core.end.Goals as goal

pub totals-totals-requires : goal.totals-totals-requires
totals-totals-requires g c = quanta_fit c.self.inside.held c.self.invariant.0.pace c.self.invariant.0.holds.told
