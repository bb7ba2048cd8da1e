-- A turn of a worker, or of a caller's work: its move in the words of the pacing, when it may be made, how it counts, and what it does.
use Rattle.std.specs.Prelude.{◌≡◌, ◌≤◌, ◌<◌, ◌+◌, ⊤, ℕ, Bool, true, false, IsTrue}
use Rattle.blsm_model.specs.Format.{callers}
use Rattle.disk_trait.specs.Disk.{DiskState}
use Rattle.gear_sched.specs.Gears.{first_debt, second_debt}
use Rattle.pacing.specs.Steps as pacing
use Rattle.pacing.specs.Steps.{Move}
use Rattle.seat_book.specs.State.{BookState, helped_in, may_turn_in, turned_in}
use Rattle.tree_machine.specs.Machine.{Turned, seats}
use Rattle.core_moves.specs.declared.held.Held.{Held}
use Rattle.tree_core.specs.Calls.{Helps, TurnsOnce}
use Rattle.tree_core.specs.Core.{CoreState}
use Rattle.tree_core.specs.declared.turns.Choice.{Choice}
use Rattle.tree_core.specs.declared.turns.Choice.TheVariants as choice

abbrev pub move_of : Choice → Move
move_of choice.SwapDeep = pacing.SwapDeep
move_of choice.SwapPass = pacing.SwapPass
move_of choice.DeepQuantum = pacing.TakeDeep
move_of choice.PassQuantum = pacing.TakeSnow
move_of choice.Begin = pacing.Begin
move_of choice.Rotate = pacing.Rotate
move_of choice.Rest = pacing.Idle

-- a worker's seat, or a caller's whose work goes on
abbrev pub MayCount : Bool → ℕ → BookState → Type 0
MayCount true seat b = (callers ≤ seat) × (seat < seats)
MayCount false seat b = IsTrue (may_turn_in seat b)

-- a caller that works owes nothing
abbrev pub IsEven : Bool → ℕ → Held → Type 0
IsEven true seat held = ⊤
IsEven false seat held = first_debt held.gears seat + second_debt held.gears seat ≡ 0

-- how it counts in the book
abbrev pub counted_by : Bool → ℕ → Turned → ℕ → BookState → BookState
counted_by true seat ended quanta b = helped_in seat b
counted_by false seat ended quanta b = turned_in seat ended quanta b

-- all that is said of it
abbrev pub TakesTurn : {D : Type 0} → Bool → (D → DiskState) → ℕ → Turned → CoreState D → CoreState D → Type 0
TakesTurn true state seat ended old new = Helps state seat ended old new
TakesTurn false state seat ended old new = TurnsOnce state seat ended old new
