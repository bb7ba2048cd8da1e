-- Counts of faults. A count goes up by one at each fault, to 2 ^ 64 - 1, and stands there.
use Rattle.std.specs.Prelude.{ℕ, ◌+◌, ◌-◌, ◌^◌, ◌≤◌, min, Result, IsErr}

-- one higher, or at the end of its type
abbrev pub next_count : ℕ → ℕ
next_count n = min (n + 1) (2 ^ 64 - 1)

-- the count has risen, or stands at the end of its type
abbrev pub HasRisen : ℕ → ℕ → Type 0
HasRisen old new = next_count old ≤ new

-- it has risen by so many, or stands at the end of its type
abbrev pub HasRisenBy : ℕ → ℕ → ℕ → Type 0
HasRisenBy n old new = min (old + n) (2 ^ 64 - 1) ≤ new

-- It doesn't fall, a call that failed has raised it, and no call raises it by more than one.
pub record CountsFault {T E : Type 0} (result : Result T E) (old new : ℕ) : Type 0 where
  pub no_fall : old ≤ new
  pub failed : IsErr result → HasRisen old new
  pub one_fault : new ≤ old + 1
