-- The fractions that pace the merges.
use Rattle.std.specs.Prelude.{ℕ, ◌+◌, ◌*◌, ◌<◌}
use Rattle.blsm_model.specs.Sizes.{Sizes}
use Rattle.blsm_model.specs.Geometry.{c1_way}
use Rattle.progress_est.specs.declared.Fraction.{Fraction}

-- the first fraction is less than the second
abbrev pub IsBefore : Fraction → Fraction → Type 0
IsBefore a b = a.over * b.under < b.over * a.under

-- what a pass has taken of all that it can come to take
abbrev pub in_progress_1 : Sizes → ℕ → ℕ → ℕ → Fraction
in_progress_1 sizes taken c1 memory = record { over = taken; under = c1 + memory + sizes.half }

-- what a deep merge has taken of its inputs
abbrev pub in_progress_2 : ℕ → ℕ → Fraction
in_progress_2 taken input = record { over = taken; under = input }

-- what was admitted since the rotation, of what C1's way takes
abbrev pub out_progress_1 : Sizes → ℕ → Fraction
out_progress_1 sizes admitted = record { over = admitted; under = c1_way sizes }
