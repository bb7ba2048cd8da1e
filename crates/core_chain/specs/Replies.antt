-- Why each entry of a history has its reply: the call that noted it says so.
use Rattle.std.specs.Prelude.{◌≡◌, List, ◌∷◌, ◌++◌, []}
use Rattle.blsm_model.specs.declared.history.Entry.{Entry}
use Rattle.disk_trait.specs.Disk.{DiskState}
use Rattle.tree_machine.specs.declared.step.Step.{Step}
use Rattle.tree_core.specs.Core.{CoreState}
use Rattle.core_chain.specs.Damage.{IsAmong}
use Rattle.tree_core.specs.Calls.{RepliesBecause}

-- Among these calls this one noted the entry, behind these, and says why.
pub record IsNoted {D : Type 0} (state : D → DiskState) (calls : List (Step × CoreState D)) (start end : CoreState D) (front : List Entry) (e : Entry) : Type 0 where
  pub step : Step
  pub old : CoreState D
  pub new : CoreState D
  pub among : IsAmong state calls start end step old new
  pub seat_is : step.seat ≡ e.seat
  pub before : old.held.book.book.entries ≡ front
  pub after : new.held.book.book.entries ≡ front ++ e ∷ []
  pub because : RepliesBecause state e.seat e.op e.reply old new
