-- The closed pages of a run that is written.
use Rattle.std.specs.Prelude.{◌≢◌, ℕ, ◌<◌}
use Rattle.page_space.specs.Space.{SpaceState, HasRole}
use Rattle.run_writer.specs.Writer.{WriterState}

-- a page of the run that isn't the open one
abbrev pub IsClosedPage : SpaceState → WriterState → ℕ → Type 0
IsClosedPage space writer n = HasRole space writer.role n × (0 < writer.component.pages → n ≢ writer.number)
