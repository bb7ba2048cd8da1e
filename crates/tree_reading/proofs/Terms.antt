-- What only lemmas say: no clause names these.
use Rattle.std.specs.Prelude.{◌^◌}
use Rattle.blsm_model.specs.declared.component.Component.{Component}

-- the component with sums that no component's pages have
abbrev pub unbounded : Component → Component
unbounded run = record { first = run.first; pages = run.pages; entries = 2 ^ 63; weight = 2 ^ 63 }
