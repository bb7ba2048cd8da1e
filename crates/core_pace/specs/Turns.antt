-- A turn of a caller's work or of a worker, made of a move of the core; and what is told where the book alone changes.
use Rattle.std.specs.Prelude.{◌≡◌, ⊤, ℕ, ◌<◌, Bool, None, IsTrue, IsSome, is_some, not, ◌&&◌, ◌||◌, ◌==◌, nat_lt, if◌then◌else◌}
use Rattle.gear_sched.specs.Gears.{deep_is_behind}
use Rattle.pacing.specs.Steps.{Move, SwapDeep, SwapPass, TakeDeep, TakeSnow, Begin, Rotate, Idle}
use Rattle.tree_machine.specs.Machine as machine
use Rattle.tree_machine.specs.Machine.{Turned, Worked}
use Rattle.tree_log.specs.Log.{weight_of_tables}
use Rattle.tree_runs.specs.Runs.{left_for_pass, left_for_deep}
use Rattle.core_moves.specs.declared.held.Held.{Held}
use Rattle.core_moves.specs.Held.{IsPassDone, IsDeepDone, is_run_full}
use Rattle.core_moves.specs.Moves.{SwapsDeepIn, SwapsPassIn, RotatesIn, TakesOfPass, TakesOfDeep, with_pass_begun}

-- ---- which move a turn makes

-- a worker begins a pass past the low mark, and a caller's work where the tables weigh something
abbrev pub may_begin_in : Bool → Held → Bool
may_begin_in is_worker held = if is_worker then nat_lt held.runs.sizes.low held.spring else not (weight_of_tables held.log == 0)

-- where no merge runs
abbrev pub move_at_rest : Bool → Held → Move
move_at_rest is_worker held =
    if may_begin_in is_worker held then Begin else (if not is_worker && not (held.runs.catalogue.c1.weight == 0) then Rotate else Idle)

-- The first that applies: a merge that is done is swapped in, one that runs takes a quantum, a pass begins, C1 is rotated.
abbrev pub move_in : Bool → Held → Move
move_in is_worker held =
    if is_some held.runs.deep && (left_for_deep held.runs.deep == 0) then SwapDeep
    else (if is_some held.runs.pass && (left_for_pass held.runs.pass held.log.a.entries == 0) then SwapPass
    else (if is_some held.runs.deep && (not (is_some held.runs.pass) || deep_is_behind held.gears) then TakeDeep
    else (if is_some held.runs.pass then TakeSnow
    else move_at_rest is_worker held)))

-- what a move requires of the merges
abbrev pub MayMove : Move → Held → Type 0
MayMove SwapDeep held = IsDeepDone held
MayMove SwapPass held = IsPassDone held × (IsTrue (is_run_full held) → held.runs.deep ≡ None)
MayMove TakeDeep held = IsSome held.runs.deep
MayMove TakeSnow held = IsSome held.runs.pass × (0 < left_for_pass held.runs.pass held.log.a.entries)
MayMove Begin held = held.runs.pass ≡ None
MayMove Rotate held = (held.runs.pass ≡ None) × (held.runs.deep ≡ None)
MayMove Idle held = ⊤

-- the seat's turn made this move; a quantum took so much
abbrev pub TurnsBy : Move → ℕ → ℕ → Held → Held → Type 0
TurnsBy SwapDeep seat n old moved = SwapsDeepIn old moved
TurnsBy SwapPass seat n old moved = SwapsPassIn old moved
TurnsBy TakeDeep seat n old moved = TakesOfDeep seat n old moved
TurnsBy TakeSnow seat n old moved = TakesOfPass seat n old moved
TurnsBy Begin seat n old moved = moved ≡ with_pass_begun old
TurnsBy Rotate seat n old moved = RotatesIn old moved
TurnsBy Idle seat n old moved = moved ≡ old

-- and ended so
abbrev pub end_of_move : Move → Turned
end_of_move Idle = machine.Idle
end_of_move _ = Worked
