use Rattle.std.proofs.Common.{take}
use Rattle.tree_runs.specs.Holding.{PinsNamed}
use Rattle.tree_runs.proofs.holds.pin_named.Given as goal

-- so many of them were gone through
abbrev pub invariant-loop-fence : goal.invariant-loop-fence
invariant-loop-fence l = PinsNamed l.seat l.tag (take l.fence-index l.fences) l.fn.space l.space
