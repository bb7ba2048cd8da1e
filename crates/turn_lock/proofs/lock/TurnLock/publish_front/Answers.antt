use Rattle.std.proofs.Common.{rules, ap, sym, subst, ◌≡◌, ◌%◌, ◌^◌, ◌∙◌, Some, []}
use Rattle.turn_lock.specs.Callers.{IsBack, Held, with_me}
use Rattle.blsm_model.specs.Facts.{Follows}
use Rattle.turn_lock.specs.Plays.{Sat, giving, renewed}
use Rattle.turn_lock.proofs.Moves.{gives_back_at}
use Rattle.turn_lock.proofs.lock.TurnLock.publish_front.Goals as goal

pub store-requires : goal.store-requires
store-requires g c =
    let f = g.V.Stands.facts in
    let st = g.V.Stands.stands in
    let next = c.args._value.value in
    let m = c.caller.inside.seat.me in
    let own = c.caller.invariant.0 in
    let t = subst (λ (h : Held g.row.V.Denot). (b : g.row.V.Denot) × IsBack b next h × Follows h.number (f b) (f next)) (sym c.caller.view_is) c.requires.turn in
    let l = subst (λ (h : Held g.row.V.Denot). (a : g.row.V.Denot) → h.me.0.start ≡ Some a → st a next) (sym c.caller.view_is) c.requires.lasts in
    (search rules, search rules, gives_back_at f st c.self.inside.table.shared.key.value _ _ m t.1.0 t.0 next c.caller.inside.number _ own.0 own.1 t.1.1 t.1.2 own.2 c.caller.invariant.2 t.2 l c.requires.front)

pub invariant_of-caller : goal.invariant_of-caller
invariant_of-caller g c =
    let f = g.V.Stands.facts in
    let next = c.args._value.value in
    let own = c.caller.invariant.0 in
    let spare = c.caller.invariant.1 in
    let t = subst (λ (h : Held g.row.V.Denot). (b : g.row.V.Denot) × IsBack b next h) (sym c.caller.view_is) (c.requires.turn.0, c.requires.turn.1) in
    let now = c.store.ensures.2 t.1.0 t.0 next t.1.1 t.1.2 in
    ((next, own.1, ap (λ (m : Sat g.row.V.Denot). m.0.own) now ∙ ap (renewed f next) own.2), (spare.0, ap (λ (m : Sat g.row.V.Denot). m.0.start) now ∙ spare.1, ap (λ (m : Sat g.row.V.Denot). m.0.spare) now ∙ spare.2), c.caller.invariant.2, c.caller.invariant.3)

pub returns : goal.returns
returns g c =
    let f = g.V.Stands.facts in
    let next = c.args._value.value in
    let t = subst (λ (h : Held g.row.V.Denot). (b : g.row.V.Denot) × IsBack b next h) (sym c.caller.view_is) (c.requires.turn.0, c.requires.turn.1) in
    let now = c.store.ensures.2 t.1.0 t.0 next t.1.1 t.1.2 in (
      t.1.0,
      subst (λ (h : Held g.row.V.Denot). h.ticket ≡ t.1.0 % 2 ^ 64) c.caller.view_is t.1.3,
      (λ i. record { table = c.store.ensures.0 i; me = now i; number = c.caller.inside.number; next = c.caller.inside.next; ticket = c.caller.inside.ticket })
          ∙ ap (λ (h : Held g.row.V.Denot). with_me h (giving f h.me.0 t.1.0 next c.args.front, [])) c.caller.view_is,
    )
