use Rattle.std.proofs.Common.{subst}
use Rattle.tree_core.specs.Core.{CoreState}
use Rattle.tree_core.specs.Steps.{StandsSince}
use Rattle.tree_core.proofs.LastLemmas.{since_now}
use Rattle.tree_core.proofs.store.Core.kept.Goals as goal

pub returns-clause-begins : goal.returns-clause-begins
returns-clause-begins g c =
    subst (λ (s : CoreState g.row.D.Denot). StandsSince g.D.Disk.state s s) c.self.view_is
    (since_now g.D.Disk.state (record { disk = c.self.inside.disk; held = c.self.inside.held; holds = c.self.inside.holds }) c.self.invariant.0.pace (g.met.D.Disk.timed c.self.inside.disk) c.self.invariant.0.holds.told)
