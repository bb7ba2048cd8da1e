-- Components: sorted runs on disk, named by their first page and three sums.
use Rattle.std.specs.Prelude.{ℕ, ◌-◌, ◌^◌}
use Rattle.blsm_model.specs.declared.component.Component.{Component}

-- what stands for no page
abbrev pub no_page : ℕ
no_page = 2 ^ 32 - 1

-- the component without entries
abbrev pub empty_component : Component
empty_component = record { first = no_page; pages = 0; entries = 0; weight = 0 }
