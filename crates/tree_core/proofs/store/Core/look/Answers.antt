use Rattle.std.proofs.Common.{sym, subst}
use Rattle.blsm_model.specs.declared.op.Op.{Op}
use Rattle.blsm_model.specs.declared.history.Reply.{Reply}
use Rattle.tree_core.specs.Answers.{reply_to_get}
use Rattle.tree_core.specs.Calls.{Looks}
use Rattle.tree_core.proofs.LookupSteps.{get_looks}
use Rattle.tree_core.proofs.store.Core.look.Goals as goal

pub returns-in-Get : goal.returns-in-Get
returns-in-Get g c =
    subst (λ (op : Op). (reply : Reply) × Looks g.D.Disk.state c.args.seat op reply c.args.self.now c.get.new.self) (sym c.in-Get.is)
    (reply_to_get c.get.result, get_looks g.D.Disk.state c.args.seat c.in-Get.key c.get.result c.args.self.now c.get.new.self c.get.ensures)
