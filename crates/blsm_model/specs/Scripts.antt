-- Scripts, and the histories of a script: each caller's commands once, in order.
use Rattle.std.specs.Prelude.{◌≡◌, ℕ, ◌==◌, List, map, filter, sum_by}
use Rattle.blsm_model.specs.declared.op.Op.{Op}
use Rattle.blsm_model.specs.declared.op.Op.TheVariants.{Next}
use Rattle.blsm_model.specs.declared.history.Entry.{Entry}
use Rattle.blsm_model.specs.declared.history.Line.{Line}

-- the commands of one caller in a script, in order
abbrev pub lines_of : ℕ → List Line → List Op
lines_of seat script = map (λ l. l.op) (filter (λ l. l.seat == seat) script)

-- how many rows a command asks for, and the lines of one caller
abbrev pub rows_of : Op → ℕ
rows_of (Next n) = n
rows_of _ = 0

abbrev pub rows_asked : ℕ → List Line → ℕ
rows_asked seat script = sum_by rows_of (lines_of seat script)

-- the commands of one caller in a history, in order
abbrev pub ops_of : ℕ → List Entry → List Op
ops_of seat history = map (λ e. e.op) (filter (λ e. e.seat == seat) history)

-- who asks for what, in order
abbrev pub asked : List Line → List (ℕ × Op)
asked script = map (λ l. (l.seat, l.op)) script

abbrev pub asked_in : List Entry → List (ℕ × Op)
asked_in history = map (λ e. (e.seat, e.op)) history

-- each caller's entries are its lines, in order, each once; and there are no others
abbrev pub IsOfScript : List Line → List Entry → Type 0
IsOfScript script history = (seat : ℕ) → ops_of seat history ≡ lines_of seat script
