use Rattle.mem_table.specs.Ways.{tree_entries}
use Rattle.mem_table.proofs.EditLemmas.{weight_more}
use Rattle.mem_table.proofs.table.Table.weight.Goals as goal

pub returns-clause-more : goal.returns-clause-more
returns-clause-more c = λ key rec.
    rw (← c.self.view_is, c.self.invariant.table.weight_is) (weight_more (tree_entries c.self.inside.nodes.items c.self.inside.store.slots c.self.inside.root) key rec c.self.invariant.table.sorted)
