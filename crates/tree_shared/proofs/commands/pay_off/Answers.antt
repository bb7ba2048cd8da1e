use Rattle.tree_shared.proofs.CommandLemmas.{did_on, went_on}
use Rattle.tree_shared.proofs.commands.pay_off.Goals as goal

pub loop-preserved : goal.loop-preserved
loop-preserved g c = (
  went_on g.D.Disk.state c.args.caller.now c.loop.caller c.pay_once.new.caller c.loop.invariant.0 c.pay_once.ensures.did,
  λ entries rows knows. c.pay_once.ensures.owing entries rows (c.loop.invariant.1 entries rows knows),
)

pub returns-then-not-pay_once-clause-did : goal.returns-then-not-pay_once-clause-did
returns-then-not-pay_once-clause-did g c = did_on g.D.Disk.state c.args.caller.now c.loop.caller c.pay_once.new.caller c.loop.invariant.0 c.pay_once.ensures.did
