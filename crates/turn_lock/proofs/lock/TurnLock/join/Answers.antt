use Rattle.std.proofs.Common.{rules, ap, arith, length, sym, subst, ◌∙◌, ◌++◌}
use Rattle.turn_lock.specs.Callers.{Held, Idles}
use Rattle.turn_lock.specs.declared.view.View.{View}
use Rattle.turn_lock.proofs.Moves.{joins}
use Rattle.turn_lock.proofs.lock.TurnLock.join.Goals as goal

pub join_seat-requires : goal.join_seat-requires
join_seat-requires g c =
    let idle : Idles c.caller.inside.seat.me = subst (λ (h : Held g.row.V.Denot). Idles h.me) (sym c.caller.view_is) c.requires.idle.0 in
    let theirs : Idles c.other.inside.seat.me = subst (λ (h : Held g.row.V.Denot). Idles h.me) (sym c.other.view_is) c.requires.idle.1 in
    (search rules, search rules, theirs.1, search rules, joins g.V.Stands.facts g.V.Stands.stands c.self.inside.table.shared.key.value _ _ _ _ theirs.0 (omega (arith, ap length c.caller.invariant.0.2)))

pub invariant_of-caller : goal.invariant_of-caller
invariant_of-caller g c =
    let v = c.caller.inside.seat.me.0 in
    let u = c.other.inside.seat.me.0 in
    let now = c.join_seat.ensures.2 in
    let own = c.caller.invariant.0 in
    let spare = c.caller.invariant.1 in
    let is = ap (λ m. m.0) now in
    ((own.0, own.1 ++ (u.own ++ u.spare), ap (λ (x : View g.row.V.Denot). x.own) is ∙ ap (λ l. l ++ (u.own ++ u.spare)) own.2), (spare.0, ap (λ (x : View g.row.V.Denot). x.start) is ∙ spare.1, ap (λ (x : View g.row.V.Denot). x.spare) is ∙ spare.2), c.caller.invariant.2, c.caller.invariant.3)
