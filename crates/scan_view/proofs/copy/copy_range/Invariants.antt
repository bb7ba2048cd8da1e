use Rattle.std.proofs.Common.{◌≡◌, ◌++◌, length}
use Rattle.record_delta.specs.Entries.{folded_over, above}
use Rattle.scan_view.specs.Hold.{within}
use Rattle.scan_view.proofs.copy.copy_range.Given as goal

-- the copies so far, and what is left of the range
abbrev pub invariant-loop-key : goal.invariant-loop-key
invariant-loop-key l =
    l.copies.items ++ within l.low l.high (above l.at (folded_over l.b.entries l.a.entries)) ≡ within l.low l.high (folded_over l.b.entries l.a.entries)

abbrev pub decreases-loop-key : goal.decreases-loop-key
decreases-loop-key l = length (above l.at (folded_over l.b.entries l.a.entries))
