use Rattle.std.proofs.Common.{◌≡◌, sym, subst}
use Rattle.turn_lock.specs.Views.{Each, SawFront}
use Rattle.turn_lock.proofs.Seen.{saw_fronts}
use Rattle.turn_lock.proofs.lock.TurnLock.close.Goals as goal

pub returns-clause-fronts : goal.returns-clause-fronts
returns-clause-fronts g c =
    let told = c.open_up.ensures in
    let is : c.unwrap.result ≡ told.0 = cc (told.1, c.unwrap.ensures) in
    let own = c.args.caller.me.0.own in
    subst (λ (v : g.row.V.Denot). Each (SawFront g.V.Stands.facts v) own) (sym is) (saw_fronts g.V.Stands.facts c.args.caller.me.0.seen told.0 own told.3.knows.own)
