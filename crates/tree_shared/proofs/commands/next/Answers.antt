use Rattle.std.proofs.Common.{refl}
use Rattle.blsm_model.specs.declared.history.Reply.TheVariants as reply
use Rattle.tree_shared.proofs.commands.next.Goals as goal

pub returns-in-Rows : goal.returns-in-Rows
returns-in-Rows g c = let did = c.in-Rows.ensures in (reply.Rows did.0, (did.0, refl, did.1), did.2)

pub returns-in-NoHold : goal.returns-in-NoHold
returns-in-NoHold g c = (reply.NoHold, refl, c.in-NoHold.ensures.2)

pub returns-in-Fault : goal.returns-in-Fault
returns-in-Fault g c = (reply.Fault, refl, c.in-Fault.ensures.2)

pub returns-in-Damaged : goal.returns-in-Damaged
returns-in-Damaged g c = (reply.Damaged c.in-Damaged.page, refl, c.in-Damaged.ensures.2)

pub returns-in-Stopped : goal.returns-in-Stopped
returns-in-Stopped g c = (reply.Stopped c.in-Stopped.why, refl, c.in-Stopped.ensures.2)
