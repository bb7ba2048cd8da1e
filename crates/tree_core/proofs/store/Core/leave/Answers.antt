use Rattle.std.proofs.Common.{refl, subst}
use Rattle.core_moves.specs.Moves.{with_book}
use Rattle.tree_core.specs.Calls.{Leaves}
use Rattle.tree_core.specs.Core.{CoreState}
use Rattle.tree_core.proofs.BookSteps.{leave_does}
use Rattle.tree_core.proofs.LastLemmas.{kept_on}
use Rattle.tree_core.proofs.store.Core.leave.Goals as goal

pub returns : goal.returns
returns g c =
    subst (λ (s : CoreState g.row.D.Denot). Leaves g.D.Disk.state c.args.seat s (record { disk = c.self.inside.disk; held = with_book c.leave.new.self c.self.inside.held; holds = c.self.inside.holds })) c.self.view_is
    (leave_does g.D.Disk.state c.args.seat _ c.leave.new.self c.self.invariant.0 (g.met.D.Disk.timed c.self.inside.disk) c.requires c.entries-entries.ensures.places.left c.leave.ensures)

pub invariant_of-self : goal.invariant_of-self
invariant_of-self g c = kept_on g.D.Disk.state c.self.view_is (g.met.D.Disk.timed c.self.inside.disk) c.self.invariant refl (returns g c).goes
