use Rattle.std.proofs.Common.{◌-◌, ◌≤◌}
use Rattle.turn_lock.specs.Tallies.{works_by, HasRoomFor, Noted}
use Rattle.turn_lock.proofs.Runs.{told}
use Rattle.turn_lock.proofs.shared.note_all.Given as goal

abbrev pub invariant-loop-n : goal.invariant-loop-n
invariant-loop-n g l =
    Noted told l.initial.caller (works_by l.initial.caller.number l.n) l.caller × HasRoomFor told (l.fn.count - l.n) l.caller × (l.n ≤ l.fn.count)
