use Rattle.std.specs.Prelude.{ℕ, ◌+◌, []}
use Rattle.tree_shared.specs.Seats.{KnowsOf, WentOn, HasHelped}
use Rattle.tree_shared.specs.Runs.{turns_after}
use Rattle.tree_shared.proofs.jobs.worker.Given as goal

abbrev pub invariant-loop-turn : goal.invariant-loop-turn
invariant-loop-turn g l =
    WentOn g.D.Disk.state l.initial.caller [] l.caller × ((before taken : ℕ) → KnowsOf (HasHelped before taken) l.initial.caller → KnowsOf (HasHelped (turns_after l._turn before) (taken + l._turn)) l.caller)
