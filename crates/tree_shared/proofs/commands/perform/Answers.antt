use Rattle.blsm_model.specs.declared.op.Op.TheVariants as op
use Rattle.tree_shared.proofs.CommandLemmas.{answered, answered_as}
use Rattle.tree_shared.proofs.commands.perform.Goals as goal

pub returns-in-Get : goal.returns-in-Get
returns-in-Get g c = answered g.D.Disk.state c.args.op.now (op.Get c.in-Get.key) c.look_up.result c.args.caller.now c.look_up.new.caller c.in-Get.is c.look_up.ensures

pub returns-in-Hold : goal.returns-in-Hold
returns-in-Hold g c =
    answered g.D.Disk.state c.args.op.now (op.Hold c.in-Hold.low c.in-Hold.high) c.hold_range.result c.args.caller.now c.hold_range.new.caller c.in-Hold.is c.hold_range.ensures

pub returns-in-Next : goal.returns-in-Next
returns-in-Next g c = answered_as g.D.Disk.state c.args.op.now (op.Next c.in-Next.n) c.next.result c.args.caller.now c.next.new.caller c.in-Next.is c.next.ensures

pub returns-in-Release : goal.returns-in-Release
returns-in-Release g c = answered g.D.Disk.state c.args.op.now op.Release c.release.result c.args.caller.now c.release.new.caller c.in-Release.is c.release.ensures

pub returns-in-Work : goal.returns-in-Work
returns-in-Work g c = answered g.D.Disk.state c.args.op.now (op.Work c.in-Work.n) c.work.result c.args.caller.now c.work.new.caller c.in-Work.is c.work.ensures
