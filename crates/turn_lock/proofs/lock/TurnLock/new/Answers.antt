use Rattle.std.proofs.Common.{rules, sym, subst, ◌≡◌, ◌∷◌, [], Some}
use Rattle.atomic_table.specs.Table.{opening}
use Rattle.turn_lock.specs.Views.{opening_view}
use Rattle.turn_lock.specs.Rule.{Kept}
use Rattle.turn_lock.proofs.Moves.{starts}
use Rattle.turn_lock.proofs.lock.TurnLock.new.Goals as goal

pub new-requires : goal.new-requires
new-requires g c =
    let k = c.of-start.result.value in
    let items : c.push_reserved.new.self.items ≡ Some k ∷ [] = search rules in
    let lasts : g.V.Stands.stands k k = search rules in
    let fresh : (g.V.Stands.facts k).history ≡ [] = search rules in
    subst (λ xs. Kept g.V.Stands.facts g.V.Stands.stands k (opening (0 ∷ 0 ∷ 0 ∷ 0 ∷ []) xs (opening_view k))) (sym items) (starts g.V.Stands.facts g.V.Stands.stands k lasts fresh)
