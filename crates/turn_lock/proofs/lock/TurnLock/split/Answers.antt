use Rattle.std.proofs.Common.{rules, sym, subst, ◌<◌}
use Rattle.turn_lock.specs.Callers.{Held}
use Rattle.turn_lock.proofs.Moves.{splits, spare_some}
use Rattle.turn_lock.proofs.lock.TurnLock.split.Goals as goal

pub split_seat-seat-requires : goal.split_seat-seat-requires
split_seat-seat-requires g c =
    let m = c.caller.inside.seat.me in
    let left : c.caller.inside.next < 24 = subst (λ (h : Held g.row.V.Denot). h.next < 24) (sym c.caller.view_is) c.requires.spare in
    let spare = c.caller.invariant.1 in
    (search rules, search rules, splits g.V.Stands.facts g.V.Stands.stands c.self.inside.table.shared.key.value _ m.0 (spare_some g.V.Stands.facts g.V.Stands.stands c.self.inside.table.shared.key.value m.0.spare c.caller.inside.next spare.0 left spare.2))
