use Rattle.std.proofs.Common.{rules, ap, arith, length, sym, subst}
use Rattle.turn_lock.specs.Callers.{Idles, Held}
use Rattle.turn_lock.proofs.Moves.{draws_at}
use Rattle.turn_lock.proofs.lock.TurnLock.draw.Goals as goal

pub fetch_add-caller-inside-requires : goal.fetch_add-caller-inside-requires
fetch_add-caller-inside-requires g c =
    let m = c.caller.inside.seat.me in
    let idle : Idles m = subst (λ (h : Held g.row.V.Denot). Idles h.me) (sym c.caller.view_is) c.requires.idle in
    (search rules, search rules, draws_at g.V.Stands.facts g.V.Stands.stands c.self.inside.table.shared.key.value _ _ m idle (omega (arith, ap length c.caller.invariant.0.2)))
