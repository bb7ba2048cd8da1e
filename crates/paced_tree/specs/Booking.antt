-- What the book tells of the quanta, over the book, the seats' counts and the pace alone: it hangs on no list, so it holds on every disk.
use Rattle.std.specs.Prelude.{ℕ}
use Rattle.blsm_model.specs.Book.{Book}
use Rattle.pacing.specs.Pace.{Pace}
use Rattle.pacing.specs.Steps.{Move, TakeDeep, TakeSnow}
use Rattle.tree_machine.specs.Machine.{Seats}
use Rattle.paced_tree.specs.Numbers.{IsBooked}

-- the book and the seats tell these numbers of the pace: each write's quanta are within its bound, and the callers' quanta are sums
abbrev pub IsBookOf : Book → Seats → Pace → Type 0
IsBookOf book s pace = IsBooked pace.gears.sizes book s.quanta s.work pace.work pace.admitted pace.writes pace.weights pace.quanta

-- the quanta of a turn
abbrev pub quanta_of_move : Move → ℕ
quanta_of_move TakeDeep = 1
quanta_of_move TakeSnow = 1
quanta_of_move _ = 0
