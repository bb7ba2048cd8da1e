-- Where the three regions of the log lie in a store's file, and the roles that they have. Lengths are in bytes.
use Rattle.std.specs.Prelude.{◌≢◌, ℕ, ◌+◌, ◌*◌, ◌<◌, List, slice_index}
use Rattle.blsm_model.specs.Format.{head_length}
use Rattle.blsm_model.specs.Sizes.{Sizes}

-- how many bytes a region has, and where a region begins, by its number
abbrev pub region_length : Sizes → ℕ
region_length sizes = 4 * sizes.half

abbrev pub region_start : Sizes → ℕ → ℕ
region_start sizes lane = head_length + region_length sizes * lane

-- which region is lane A, which is lane B, which is spare
abbrev pub a_of : List ℕ → ℕ
a_of roles = slice_index roles 0

abbrev pub b_of : List ℕ → ℕ
b_of roles = slice_index roles 1

abbrev pub spare_of : List ℕ → ℕ
spare_of roles = slice_index roles 2

-- three regions, each in one role
pub record AreRoles (roles : List ℕ) : Type 0 where
  pub a_below : a_of roles < 3
  pub b_below : b_of roles < 3
  pub spare_below : spare_of roles < 3
  pub a_not_b : a_of roles ≢ b_of roles
  pub a_not_spare : a_of roles ≢ spare_of roles
  pub b_not_spare : b_of roles ≢ spare_of roles
