-- The tree is paced.
use Rattle.std.specs.Prelude.{length, ◌<◌, ◌^◌, ℕ, ◌+◌, ◌≤◌, ◌∷◌, sum, List, []}
use Rattle.blsm_model.specs.Format.{most_entries}
use Rattle.tree_machine.specs.Machine.{Machine}
use Rattle.tree_machine.specs.Steps.{Outcome}
use Rattle.tree_machine.specs.Plays.{played_one}
use Rattle.tree_machine.specs.Effects.{work_between}
use Rattle.tree_machine.specs.declared.step.Step.{Step}

-- and so does each run, since its opening.
abbrev pub work_in : Machine → List (Step × Outcome) → ℕ
work_in m [] = 0
work_in m (made ∷ steps) = work_between m (played_one m made) + work_in (played_one m made) steps

-- Where the book has room for few entries, all counts stay small: the version, the quanta of all seats, the swaps.
pub record AreSmall (m : Machine) : Type 0 where
  pub entries : length m.book.entries ≤ most_entries
  pub version : m.catalogue.version < 2 ^ 63
  pub quanta : sum m.seats.quanta < 2 ^ 63
  pub passes : m.counts.passes < 2 ^ 63
  pub deeps : m.counts.deeps < 2 ^ 63
