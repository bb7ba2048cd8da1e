use Rattle.std.proofs.Common.{◌≡◌, subst}
use Rattle.record_delta.specs.Entries.{above}
use Rattle.mem_table.specs.Ways.{tree_entries}
use Rattle.mem_table.specs.Tables.{Contents}
use Rattle.mem_table.proofs.DropLemmas.{all_above}
use Rattle.mem_table.proofs.table.Table.floor.Goals as goal

pub returns-clause-above : goal.returns-clause-above
returns-clause-above c =
    subst (λ (v : Contents). above v.floor v.entries ≡ v.entries) c.self.view_is
    (all_above c.self.inside.floor (tree_entries c.self.inside.nodes.items c.self.inside.store.slots c.self.inside.root)
    c.self.invariant.table.above_floor).0
