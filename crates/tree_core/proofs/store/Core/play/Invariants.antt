use Rattle.std.proofs.Common.{List, IsTrue}
use Rattle.std.specs.Prelude.{take}
use Rattle.blsm_model.specs.declared.key.Key.{Key}
use Rattle.blsm_model.specs.declared.row.Value.{Value}
use Rattle.disk_trait.specs.Disk.{GoesOn}
use Rattle.tree_machine.specs.Machine.{Machine}
use Rattle.tree_core.specs.Core.{CoreState}
use Rattle.tree_core.specs.Holds.{StandsWhole}
use Rattle.tree_core.specs.Steps.{IsPlayed, StandsSince, those_that_fit}
use Rattle.tree_core.proofs.store.Core.play.Given as goal

abbrev pub invariant-loop-step : goal.invariant-loop-step
invariant-loop-step g l = record {
  played : (opening : List (Key × Value)) (m : Machine) → IsTrue (g.D.Disk.state l.fn.self.disk).is_honest → StandsWhole g.D.Disk.state opening l.fn.self m
      → IsPlayed g.D.Disk.state opening (those_that_fit (take l.step-index l.fn.steps)) l.fn.self l.self m;
  lasts : (start : CoreState g.row.D.Denot) → StandsSince g.D.Disk.state start l.fn.self → StandsSince g.D.Disk.state start l.self;
  goes_on : GoesOn (g.D.Disk.state l.fn.self.disk) (g.D.Disk.state l.self.disk);
}
