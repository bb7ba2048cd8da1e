use Rattle.std.specs.Prelude.{ℕ, []}
use Rattle.tree_shared.specs.Seats.{KnowsOf, WentOn, IsOwing}
use Rattle.tree_shared.proofs.commands.pay_off.Given as goal

abbrev pub invariant-loop : goal.invariant-loop
invariant-loop g l =
    WentOn g.D.Disk.state l.initial.caller [] l.caller × ((entries rows : ℕ) → KnowsOf (IsOwing entries rows) l.initial.caller → KnowsOf (IsOwing entries rows) l.caller)
