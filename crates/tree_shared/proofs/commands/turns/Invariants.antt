use Rattle.std.specs.Prelude.{ℕ, []}
use Rattle.tree_shared.specs.Seats.{KnowsOf, WentOn, IsFree, IsWorking}
use Rattle.tree_shared.proofs.commands.turns.Given as goal

abbrev pub invariant-loop-done : goal.invariant-loop-done
invariant-loop-done g l =
    WentOn g.D.Disk.state l.initial.caller [] l.caller × ((entries rows : ℕ) → KnowsOf (IsFree entries rows) l.initial.caller → KnowsOf (IsWorking l.done entries rows) l.caller)
