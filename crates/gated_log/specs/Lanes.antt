-- What contracts see of the lanes of a log.
use Rattle.std.specs.Prelude.{ℕ, ◌+◌, List, [], ◌∷◌, slice_index, slice_set}
use Rattle.blsm_model.specs.Lanes.{a_of, b_of, spare_of}
use Rattle.blsm_model.specs.Sizes.{Sizes}

-- The store's sizes; the numbers of the regions in the roles A, B and spare, in this order; and where the closed gate of each region stands in it.
pub record LanesState : Type 0 where
  pub sizes : Sizes
  pub roles : List ℕ
  pub ends : List ℕ

abbrev pub end_of : LanesState → ℕ → ℕ
end_of lanes lane = slice_index lanes.ends lane

-- the lane's closed gate stands so many bytes later
abbrev pub moved : LanesState → ℕ → ℕ → LanesState
moved lanes lane n = record lanes { ends = slice_set lanes.ends lane (end_of lanes lane + n) }

-- B becomes A, the spare lane becomes B, with its closed gate at its start, and A becomes the spare lane
abbrev pub turned : LanesState → LanesState
turned lanes = record lanes {
  roles = b_of lanes.roles ∷ spare_of lanes.roles ∷ a_of lanes.roles ∷ [];
  ends = slice_set lanes.ends (spare_of lanes.roles) 0;
}
