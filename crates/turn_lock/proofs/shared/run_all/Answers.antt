use Rattle.turn_lock.proofs.Rests.{tells_all}
use Rattle.turn_lock.proofs.shared.run_all.Goals as goal

pub returns : goal.returns
returns g c =
    let made = c.in-Ok.ensures in
    tells_all c.in-Ok.made.0 c.args.count c.in-Ok.made.1 c.run_rest-first.result c.close.result made.number made.next c.run_rest-first.ensures c.close.ensures.known.knows.own
