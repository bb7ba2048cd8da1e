use Rattle.std.proofs.Common.{ap, sym, subst, ◌≡◌}
use Rattle.turn_lock.specs.Views.{size}
use Rattle.turn_lock.specs.Rule.{Knows}
use Rattle.turn_lock.specs.Callers.{Held, Lock, Idles}
use Rattle.turn_lock.proofs.Moves.{ends_at}
use Rattle.turn_lock.proofs.lock.TurnLock.open_up.Goals as goal

pub returns : goal.returns
returns g c =
    let f = g.V.Stands.facts in
    let st = g.V.Stands.stands in
    let k = c.self.inside.table.shared.key.value in
    let idle : Idles c.caller.inside.seat.me = subst (λ (h : Held g.row.V.Denot). Idles h.me) (sym c.caller.view_is) c.requires.idle in
    let whole : size c.caller.inside.seat.me.0 ≡ 24 = subst (λ (h : Held g.row.V.Denot). size h.me.0 ≡ 24) (sym c.caller.view_is) c.requires.whole in
    let t = ends_at f st k _ c.caller.inside.seat.me.0 _ _ c.take-value.result idle.0 whole c.close_with-closed.ensures.values.2 c.take-value.ensures.value in
    let e : k ≡ c.args.self.start = ap (λ (l : Lock g.row.V.Denot). l.start) c.self.view_is in (
      t.0,
      t.1,
      subst (λ z. st z t.0) e t.2,
      record {
        front = t.3;
        bytes = t.4;
        front_fits = t.5;
        bytes_fits = t.6;
        knows = subst (λ z. Knows f st z t.0 t.3 t.4 c.args.caller.me.0) e (subst (λ (h : Held g.row.V.Denot). Knows f st k t.0 t.3 t.4 h.me.0) c.caller.view_is t.7);
      },
    )
