-- A script of the grammar's commands may be run over a core, in the room that the script tells.
use Rattle.std.specs.Prelude.{◌<◌, slice_index}
use Rattle.std.proofs.Common.{◌≡◌, ℕ, List, [], ◌∷◌, length, refl, subst, sym, arith}
use Rattle.std.specs.List.{All}
use Rattle.std.proofs.lemmas.List.Elements.{All-nil, All-cons, All-head, All-tail}
use Rattle.blsm_model.specs.Format.{callers}
use Rattle.blsm_model.specs.Scripts.{lines_of, rows_asked}
use Rattle.blsm_model.specs.declared.history.Line.{Line}
use Rattle.blsm_model.specs.declared.op.Op.{Op}
use Rattle.blsm_model.specs.declared.room.Room.{Room}
use Rattle.script_text.specs.Grammar as grammar
use Rattle.script_text.specs.Grammar.{IsAllowed}
use Rattle.store_trial.specs.Trial.{IsRoomOf}
use Rattle.tree_session.specs.Lines.{AreRunnable, HasRoomFor, IsCommand, IsRunnable}
use Rattle.std.proofs.lemmas.Grind.{common_steps}
use Rattle.std.proofs.lemmas.Bool.Decides.{nat_tests}

command : (op : Op) → grammar.IsCommand op → IsCommand op
command op is = grind (arith, common_steps, nat_tests)

runnable : (line : Line) → IsAllowed line → IsRunnable line
runnable line allowed = record { seat = allowed.seat; command = command line.op allowed.command }

pub all_runnable : (lines : List Line) → All IsAllowed lines → AreRunnable lines
all_runnable [] all = All-nil IsRunnable
all_runnable (l ∷ ls) all = All-cons IsRunnable l ls (runnable l (All-head IsAllowed l ls all)) (all_runnable ls (All-tail IsAllowed l ls all))

-- ---- room

-- the room that the script tells is that of its lines
pub room_is : (room : Room) (lines ran : List Line) → ran ≡ lines → ((seat : ℕ) → seat < callers → slice_index room.entries seat ≡ length (lines_of seat lines))
    → ((seat : ℕ) → seat < callers → slice_index room.rows seat ≡ rows_asked seat lines) → IsRoomOf room ran
room_is room lines ran same entries rows = subst (λ (ls : List Line). IsRoomOf room ls) (sym same) (record { entries = entries; rows = rows })

pub room_for : (room : Room) (lines ran : List Line) → ran ≡ lines → ((seat : ℕ) → seat < callers → slice_index room.entries seat ≡ length (lines_of seat lines))
    → ((seat : ℕ) → seat < callers → slice_index room.rows seat ≡ rows_asked seat lines) → HasRoomFor room ran
room_for room lines ran same entries rows = subst (λ (ls : List Line). HasRoomFor room ls) (sym same) (record {
  entries = λ seat below. omega (arith, entries seat below);
  rows = λ seat below. omega (arith, rows seat below);
})

-- and there is room for them in it
pub room_of_lines : (room : Room) (lines : List Line) → IsRoomOf room lines → HasRoomFor room lines
room_of_lines room lines is = room_for room lines lines refl is.entries is.rows
