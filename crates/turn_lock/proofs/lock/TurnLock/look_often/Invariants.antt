use Rattle.std.proofs.Common.{◌≡◌}
use Rattle.turn_lock.proofs.lock.TurnLock.look_often.Given as goal

abbrev pub invariant-loop : goal.invariant-loop
invariant-loop g l = l.caller ≡ l.initial.caller
