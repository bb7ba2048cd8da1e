use Rattle.std.proofs.Common.{◌≡◌, map, take}
use Rattle.tree_runs.specs.Runs.{fresh_guide}
use Rattle.tree_runs.proofs.guides.reserve_all.Given as goal

abbrev pub invariant-loop-weight : goal.invariant-loop-weight
invariant-loop-weight l = l.guides.items ≡ map fresh_guide (take l.weight-index l.weight-items)
