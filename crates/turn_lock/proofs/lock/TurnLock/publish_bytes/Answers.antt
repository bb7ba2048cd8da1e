use Rattle.std.proofs.Common.{rules, sym, subst, ◌≡◌, ℕ, []}
use Rattle.turn_lock.specs.Callers.{Held}
use Rattle.turn_lock.specs.declared.view.Stage.TheVariants.{Gave}
use Rattle.turn_lock.proofs.Moves.{publishes_at}
use Rattle.turn_lock.proofs.lock.TurnLock.publish_bytes.Goals as goal

pub store-requires : goal.store-requires
store-requires g c =
    let f = g.V.Stands.facts in
    let t = subst (λ (h : Held g.row.V.Denot). (j : ℕ) × (b : g.row.V.Denot) × (h.me.0.stage ≡ Gave j b) × (h.me.1 ≡ []) × (c.args.bytes ≡ (f b).peak)) (sym c.caller.view_is) c.requires.gave in
    (search rules, search rules, publishes_at f g.V.Stands.stands c.self.inside.table.shared.key.value _ _ _ t.0 t.1 _ t.2 t.3 t.4)
