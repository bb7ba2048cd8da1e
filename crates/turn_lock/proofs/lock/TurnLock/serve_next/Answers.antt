use Rattle.std.proofs.Common.{rules, sym, ap, subst, ◌≡◌, ◌+◌, ◌%◌, ◌^◌, ℕ, []}
use Rattle.turn_lock.specs.Callers.{Held}
use Rattle.turn_lock.specs.declared.view.Stage.TheVariants.{Gave}
use Rattle.turn_lock.proofs.Moves.{ends_turn_at}
use Rattle.turn_lock.proofs.lock.TurnLock.serve_next.Goals as goal

pub store-requires : goal.store-requires
store-requires g c =
    let t = subst (λ (h : Held g.row.V.Denot). (j : ℕ) × (b : g.row.V.Denot) × (h.me.0.stage ≡ Gave j b) × (h.me.1 ≡ []) × (h.ticket ≡ j % 2 ^ 64)) (sym c.caller.view_is) c.requires.gave in
    (search rules, search rules, ends_turn_at g.V.Stands.facts g.V.Stands.stands c.self.inside.table.shared.key.value _ _ _ t.0 t.1 _ t.2 t.3 (ap (λ (x : ℕ). (x + 1) % 2 ^ 64) t.4))
