use Rattle.std.proofs.Common.{subst}
use Rattle.std.specs.Prelude.{◌+◌, ◌≤◌}
use Rattle.page_file.specs.Page.{most_used}
use Rattle.record_delta.specs.Entries.{above, entries_weight}
use Rattle.tree_runs.specs.Holding.{cursor_of_pass}
use Rattle.tree_core.specs.Core.{CoreState}
use Rattle.tree_core.proofs.BoundLemmas.{resident_light}
use Rattle.tree_core.proofs.store.Core.resident.Goals as goal

pub returns-clause-light : goal.returns-clause-light
returns-clause-light g c =
    subst (λ (s : CoreState g.row.D.Denot). c.resident.result ≤ entries_weight s.held.log.b.entries
    + (entries_weight (above (cursor_of_pass s.held.runs.pass) s.held.log.a.entries) + most_used)) c.self.view_is
    (resident_light c.self.inside.held c.resident.result c.resident.ensures c.self.invariant.0.holds.told.light)
