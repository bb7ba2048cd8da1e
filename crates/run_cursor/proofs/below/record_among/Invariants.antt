use Rattle.std.proofs.Common.{◌≡◌, length}
use Rattle.record_delta.specs.Entries.{Entries}
use Rattle.page_file.specs.Entry.{entries_bytes, AreEntries, AreRising}
use Rattle.run_cursor.proofs.FindLemmas.{Left}
use Rattle.run_cursor.proofs.below.record_among.Given as goal

-- what is left has the record of the key
abbrev pub invariant-loop-behind : goal.invariant-loop-behind
invariant-loop-behind l = (entries : Entries) → AreEntries entries → AreRising entries → l.bytes ≡ entries_bytes entries → Left l.key entries l.rest

abbrev pub decreases-loop-behind : goal.decreases-loop-behind
decreases-loop-behind l = length l.rest
