use Rattle.std.proofs.Common.{◌↔◌, ◌-◌, []}
use Rattle.page_file.specs.Entry.{AreInBytes}
use Rattle.page_file.proofs.entry.are_entries.Given as goal

-- the bytes are the entries that are wanted just where what is left of them is what is left of those
abbrev pub invariant-loop : goal.invariant-loop
invariant-loop l = AreInBytes [] l.count l.bytes ↔ AreInBytes l.last (l.count - l.counter) l.rest
