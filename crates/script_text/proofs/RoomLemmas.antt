-- The lines of each caller are counted, and the rows that they ask for.
use Rattle.std.proofs.Common.{◌≡◌, ℕ, ◌<◌, List, length, take, get_or}
use Rattle.blsm_model.specs.declared.history.Line.{Line}
use Rattle.blsm_model.specs.Scripts.{lines_of, rows_asked}

-- the counts of the callers' first i lines
abbrev pub AreCounts : List ℕ → List Line → ℕ → Type 0
AreCounts counts lines i = (seat : ℕ) → seat < 16 → get_or counts seat 0 ≡ length (lines_of seat (take i lines))

-- and how many rows these ask for
abbrev pub AreAsked : List ℕ → List Line → ℕ → Type 0
AreAsked counts lines i = (seat : ℕ) → seat < 16 → get_or counts seat 0 ≡ rows_asked seat (take i lines)
