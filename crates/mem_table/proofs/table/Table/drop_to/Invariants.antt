use Rattle.std.proofs.Common.{◌≡◌, length}
use Rattle.mem_table.specs.Tables.{dropped_to}
use Rattle.mem_table.proofs.table.Table.drop_to.Given as goal

abbrev pub invariant-least : goal.invariant-least
invariant-least l = dropped_to l.key l.self ≡ dropped_to l.key l.fn.self

abbrev pub decreases-least : goal.decreases-least
decreases-least l = length l.self.entries
