use Rattle.std.proofs.Common.{rules, sym, subst}
use Rattle.turn_lock.specs.Callers.{HasTicket, Held}
use Rattle.turn_lock.proofs.Moves.{looks_at}
use Rattle.turn_lock.proofs.lock.TurnLock.look.Goals as goal

pub load-requires : goal.load-requires
load-requires g c =
    let m = c.caller.inside.seat.me in
    let t : HasTicket m c.caller.inside.ticket = subst (λ (h : Held g.row.V.Denot). HasTicket h.me h.ticket) (sym c.caller.view_is) c.requires.ticket in
    (search rules, search rules, looks_at g.V.Stands.facts g.V.Stands.stands c.self.inside.table.shared.key.value _ _ m t.0 t.1 t.2)
