use Rattle.std.proofs.Common.{◌≡◌, true, false, Some, cond, ap, sym, subst, ◌∙◌}
use Rattle.std.specs.Vec.{vec_capacity}
use Rattle.blsm_model.specs.declared.key.Key.{Key}
use Rattle.record_delta.specs.Entries.{is_above}
use Rattle.mem_table.specs.Ways.{tree_entries}
use Rattle.mem_table.specs.Tables.{Contents, IsArena, begins_by}
use Rattle.mem_table.proofs.VacateLemmas.{arena_raised, contents_raised}
use Rattle.mem_table.proofs.table.Table.raise_floor.Goals as goal
use Rattle.mem_table.proofs.table.Table.raise_floor.Goals.{After-is_above}

none : (c : After-is_above) → begins_by c.args.key.now (tree_entries c.self.inside.nodes.items c.self.inside.store.slots c.self.inside.root) ≡ false
none c = subst (λ (v : Contents). begins_by c.args.key.now v.entries ≡ false) (sym c.self.view_is) c.requires

pub invariant_of-self : goal.invariant_of-self
invariant_of-self c =
    let b = (goal.at.invariant_of-self c).After-is_above in
    subst (λ (k : Key). IsArena c.self.inside.nodes.items c.self.inside.store.slots c.self.inside.root (Some k) c.self.inside.weight
    c.self.inside.dropped c.self.inside.store.reserved (vec_capacity c.self.inside.nodes)) (sym c.copy.ensures)
    (arena_raised c.self.inside.nodes.items c.self.inside.store.slots c.self.inside.root _ _ _ _ _ c.self.invariant c.args.key.now (none b))

pub returns-then-is_above : goal.returns-then-is_above
returns-then-is_above c =
    let b = (goal.at.returns-then-is_above c).After-is_above in
    let high : is_above c.self.inside.floor c.args.key.now ≡ true = sym c.is_above.ensures ∙ c.if-is_above.true in
    rw (← c.self.view_is)
    (contents_raised c.self.inside.nodes.items c.self.inside.store.slots c.self.inside.root _ _ _ _ _ c.self.invariant c.args.key.now (none b)
    (Some c.copy.result)
    (ap (λ (k : Key). Some k) c.copy.ensures ∙ sym (ap (λ x. cond x (Some c.args.key.now) c.self.inside.floor) high)))

pub returns-else-is_above : goal.returns-else-is_above
returns-else-is_above c =
    let b = (goal.at.returns-else-is_above c).After-is_above in
    let low : is_above c.self.inside.floor c.args.key.now ≡ false = sym c.is_above.ensures ∙ c.if-is_above.false in
    rw (← c.self.view_is)
    (contents_raised c.self.inside.nodes.items c.self.inside.store.slots c.self.inside.root _ _ _ _ _ c.self.invariant c.args.key.now (none b)
    c.self.inside.floor
    (sym (ap (λ x. cond x (Some c.args.key.now) c.self.inside.floor) low)))
