-- What is added to a piece of text.
use Rattle.std.specs.Prelude.{◌≡◌, ℕ, ◌+◌, ◌≤◌, List, ◌++◌, length}

-- these bytes stand behind the old ones, and are so many at most
pub record AddsToPiece (old added : List ℕ) (most : ℕ) (new : List ℕ) : Type 0 where
  pub text : new ≡ old ++ added
  pub fits : length new ≤ length old + most
