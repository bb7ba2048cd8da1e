use Rattle.tree_session.proofs.PayLemmas.{paying_none, paying_more, paying_less, paid_off}
use Rattle.tree_session.proofs.writes.pay_off.Goals as goal

pub loop-init : goal.loop-init
loop-init g c = paying_none g.D.Disk.state c.args.seat c.args.core.now c.kept.ensures.core c.kept.ensures.begins

pub loop-smaller : goal.loop-smaller
loop-smaller g c = paying_less g.D.Disk.state c.args.seat c.args.core.now c.loop.core c.pay.new.self c.requires.written c.loop.invariant c.in-Paid.ensures

pub loop-preserved : goal.loop-preserved
loop-preserved g c = paying_more g.D.Disk.state c.args.seat c.args.core.now c.loop.core c.pay.new.self c.requires.seat c.loop.invariant c.in-Paid.ensures

pub returns : goal.returns
returns g c = paid_off g.D.Disk.state c.args.seat c.pay.result c.args.core.now c.loop.core c.pay.new.self c.in_default.not-Paid c.requires.seat c.loop.invariant c.pay.ensures
