-- What only lemmas say: no clause names these.
use Rattle.std.specs.Prelude.{◌⊎◌, ℕ, ◌≡◌, true, Option}
use Rattle.disk_trait.specs.Region.{Region}
use Rattle.blsm_model.specs.Sizes.{Sizes}
use Rattle.catalog_swap.specs.declared.catalog.Catalog.{Catalog}
use Rattle.page_space.specs.Space.{SpaceState}
use Rattle.run_writer.specs.Writer.{role_region}
use Rattle.tree_runs.specs.Holding.{commit_region}
use Rattle.blsm_model.specs.declared.key.Key.{Key}
use Rattle.record_delta.specs.Entries.{is_above}

-- a swap writes its run's last page, and commits
abbrev pub swap_region : Sizes → SpaceState → ℕ → Catalog → Region
swap_region sizes space tag now = λ i. role_region sizes space tag i ⊎ commit_region sizes now i

-- what is above the later cursor was above the earlier one
abbrev pub IsOnward : Option Key → Option Key → Type 0
IsOnward from to = (key : Key) → is_above to key ≡ true → is_above from key ≡ true
