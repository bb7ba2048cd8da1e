-- Where a chain of calls begins, and its steps.
use Rattle.std.specs.Prelude.{◌≡◌, ℕ, List, [], None, map}
use Rattle.disk_trait.specs.Disk.{DiskState}
use Rattle.seat_book.specs.State.{work_in}
use Rattle.tree_machine.specs.Machine.{no_work}
use Rattle.tree_machine.specs.declared.step.Step.{Step}
use Rattle.tree_core.specs.Core.{CoreState, IsCore}
use Rattle.tree_core.specs.Steps.{StandsSince}

-- A core of which nothing was asked: no entry was noted, no work is open, and it runs. Its type keeps its pace, and what lasts begins there.
pub record IsUnasked {D : Type 0} (state : D → DiskState) (start : CoreState D) : Type 0 where
  pub keeps : IsCore start.held (state start.disk)
  pub begins : StandsSince state start start
  pub none : start.held.book.book.entries ≡ []
  pub runs : start.held.book.stopped ≡ None
  pub idle : (seat : ℕ) → work_in seat start.held.book ≡ no_work

-- the steps of these calls, in order
abbrev pub steps_of : {D : Type 0} → List (Step × CoreState D) → List Step
steps_of calls = map (λ one. one.0) calls
