use Rattle.std.proofs.Common.{◌≡◌, replicate}
use Rattle.page_space.specs.PageSet.{none_of}
use Rattle.page_space.proofs.space.reserve_sets.Given as goal

abbrev pub invariant-loop : goal.invariant-loop
invariant-loop l = l.sets.items ≡ replicate l.counter (none_of l.pages)
