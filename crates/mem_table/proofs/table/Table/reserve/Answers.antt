use Rattle.std.proofs.Common.{ap, arith}
use Rattle.record_delta.specs.Entries.{Entries}
use Rattle.mem_table.specs.Tables.{empty_table}
use Rattle.mem_table.proofs.TableLemmas.{arena_empty, entries_empty}
use Rattle.mem_table.proofs.table.Table.reserve.Goals as goal

pub invariant_of-result : goal.invariant_of-result
invariant_of-result c =
    rw (c.in_ok-with_capacity.ensures.items, c.in_ok-reserve.ensures)
    (arena_empty c.args.weight _ (omega (arith, c.in_ok-with_capacity.ensures.exact, c.places_for-places.ensures)) (omega (arith, c.places_for-places.ensures)))

pub returns : goal.returns
returns c =
    rw (c.in_ok-with_capacity.ensures.items, c.in_ok-reserve.ensures) (ap (λ (es : Entries). record (empty_table c.args.weight) { entries = es })
    entries_empty)
