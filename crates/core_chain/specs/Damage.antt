-- At which call of a chain a damaged page stopped the store.
use Rattle.std.specs.Prelude.{◌≡◌, ℕ, false, true, List, ◌∷◌, ◌++◌}
use Rattle.disk_trait.specs.Disk.{DiskState}
use Rattle.gear_sched.specs.declared.Plan.{Plan}
use Rattle.gear_sched.specs.declared.Plan.TheVariants.{Nothing}
use Rattle.core_moves.specs.declared.held.Held.{Held}
use Rattle.core_pace.specs.Events.{plan_in}
use Rattle.core_pace.specs.Turns.{move_in}
use Rattle.tree_machine.specs.declared.step.Kind.{Kind}
use Rattle.tree_machine.specs.declared.step.Kind.TheVariants as kind
use Rattle.tree_machine.specs.declared.step.Step.{Step}
use Rattle.tree_core.specs.Calls.{AreCalls, IsCall}
use Rattle.tree_core.specs.Causes.{FoundDamaged, merge_of}
use Rattle.tree_core.specs.Core.{CoreState}

-- Among these calls, which led from the start to the end, this one led from one core to the next.
pub record IsAmong {D : Type 0} (state : D → DiskState) (calls : List (Step × CoreState D)) (start end : CoreState D) (step : Step) (old new : CoreState D) : Type 0 where
  pub before : List (Step × CoreState D)
  pub behind : List (Step × CoreState D)
  pub parts : calls ≡ before ++ (step, new) ∷ behind
  pub led : AreCalls state before start old
  pub call : IsCall state step.seat step.kind old new
  pub leads : AreCalls state behind new end

-- the merge of which a seat's step takes a quantum where the core stands so, if it takes one
abbrev pub merge_at : ℕ → Kind → Held → Plan
merge_at seat kind.Pay held = plan_in seat held
merge_at seat kind.WorkTurn held = merge_of (move_in false held)
merge_at seat kind.WorkerTurn held = merge_of (move_in true held)
merge_at seat k held = Nothing

-- One of these calls stopped the store: the merge whose quantum it took came to this page next, and the page's bytes weren't a valid page or didn't go
-- on from there.
pub record StopsAtPage {D : Type 0} (state : D → DiskState) (calls : List (Step × CoreState D)) (start end : CoreState D) (page : ℕ) : Type 0 where
  pub step : Step
  pub old : CoreState D
  pub new : CoreState D
  pub among : IsAmong state calls start end step old new
  pub found : FoundDamaged (merge_at step.seat step.kind old.held) page old.held new.held (state old.disk) (state new.disk)
