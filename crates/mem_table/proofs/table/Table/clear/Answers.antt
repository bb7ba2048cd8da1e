use Rattle.std.proofs.Common.{ap, arith}
use Rattle.record_delta.specs.Entries.{Entries}
use Rattle.mem_table.specs.Tables.{empty_table}
use Rattle.mem_table.proofs.TableLemmas.{arena_empty, entries_empty}
use Rattle.mem_table.proofs.table.Table.clear.Goals as goal

pub invariant_of-self : goal.invariant_of-self
invariant_of-self c =
    let places = c.self.invariant.table.room in
    rw (c.clear-2.ensures.items, c.clear.ensures)
    (arena_empty c.self.inside.store.reserved _ (omega (arith, c.clear-2.ensures.capacity)) c.self.invariant.numbered)

pub returns : goal.returns
returns c =
    rw (c.clear-2.ensures.items, c.clear.ensures, ← c.self.view_is) (ap (λ (es : Entries). record (empty_table c.self.inside.store.reserved)
    { entries = es }) entries_empty)
