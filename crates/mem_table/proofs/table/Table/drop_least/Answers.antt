use Rattle.std.proofs.Common.{◌≡◌, ◌≤◌, ◌++◌, Some, length, take, drop, ap, sym, subst, ◌∙◌, arith}
use Rattle.blsm_model.specs.declared.key.Key.{Key}
use Rattle.record_delta.specs.declared.record.Rec.{Rec}
use Rattle.record_delta.specs.Records.{weight}
use Rattle.record_delta.specs.Entries.{first_of}
use Rattle.mem_table.specs.Shapes.{IsTaken}
use Rattle.mem_table.specs.Ways.{entry_at, tree_entries}
use Rattle.mem_table.specs.Tables.{Contents}
use Rattle.mem_table.proofs.WayLemmas.{seen}
use Rattle.mem_table.proofs.TableLemmas.{put_back}
use Rattle.mem_table.proofs.VacateLemmas.{may_lose_one, low_root, first_in, entries_parted, arena_taken, contents_taken}
use Rattle.mem_table.proofs.table.Table.drop_least.Goals as goal
use Rattle.mem_table.proofs.table.Table.drop_least.Goals.{After-weight-weight, After-vacate}

pub take_least-least-requires-clause-may : goal.take_least-least-requires-clause-may
take_least-least-requires-clause-may c =
    rw c.deref_mut.ensures.value
    (may_lose_one c.self.inside.nodes.items c.self.inside.store.slots c.self.inside.root _ _ _ _ _ c.self.invariant
    (subst (λ (v : Contents). 1 ≤ length v.entries) (sym c.self.view_is) c.requires))

pub take_least-least-requires-clause-low : goal.take_least-least-requires-clause-low
take_least-least-requires-clause-low c = rw c.deref_mut.ensures.value (low_root c.self.inside.nodes.items c.self.inside.store.slots c.self.inside.root
    _ _ _ _ _ c.self.invariant)

taken : (c : After-weight-weight)
    → IsTaken c.self.inside.nodes.items c.take_least-least.new.nodes c.self.inside.root c.take_least-least.result.0 c.take_least-least.result.1
taken c = rw c.deref_mut.ensures.value at c.take_least-least.ensures

len : (c : After-weight-weight) → length c.take_least-least.new.nodes ≡ length c.self.inside.nodes.items
len c = c.take_least-least.auto.nodes ∙ ap length c.deref_mut.ensures.value

entry_is : (c : After-weight-weight) → c.entry-key.result ≡ entry_at c.self.inside.store.slots c.take_least-least.result.0
entry_is c =
    c.entry-key.ensures
    ∙ sym (seen c.self.inside.store.slots c.take_least-least.result.0 c.entry-key.result
    (first_in c.self.inside.nodes.items c.self.inside.store.slots c.self.inside.root _ _ _ _ _ c.self.invariant c.take_least-least.new.nodes
    c.take_least-least.result.0 c.take_least-least.result.1 (len c) (taken c)))

weight_is : (c : After-weight-weight)
    → c.weight-weight.result ≡ weight (entry_at c.self.inside.store.slots c.take_least-least.result.0).0
    (entry_at c.self.inside.store.slots c.take_least-least.result.0).1
weight_is c = c.weight-weight.ensures.weight ∙ ap (λ (e : Key × Rec). weight e.0 e.1) (entry_is c)

back : (c : After-weight-weight)
    → take c.self.inside.nodes.len (c.take_least-least.new.nodes ++ drop (length c.take_least-least.new.nodes) c.self.inside.nodes.items)
    ≡ c.take_least-least.new.nodes
back c = put_back c.self.inside.nodes.len c.take_least-least.new.nodes c.self.inside.nodes.items (len c) (omega (arith, c.self.inside.nodes.ok.0))

pub invariant_of-self : goal.invariant_of-self
invariant_of-self c =
    let b = (goal.at.invariant_of-self c).After-weight-weight in
    let p = c.take_least-least.result.0 in
    rw (back b, c.vacate.ensures, entry_is b)
    (arena_taken c.self.inside.nodes.items c.self.inside.store.slots c.self.inside.root _ _ _ _ _ c.self.invariant c.take_least-least.new.nodes p
    c.take_least-least.result.1 (len b) (taken b) c.weight-weight.result (weight_is b))

pub returns-clause-dropped : goal.returns-clause-dropped
returns-clause-dropped c =
    let b = (goal.at.returns-clause-dropped c).After-weight-weight in
    let p = c.take_least-least.result.0 in
    let first : first_of (tree_entries c.self.inside.nodes.items c.self.inside.store.slots c.self.inside.root)
    ≡ Some (entry_at c.self.inside.store.slots p) =
    ap first_of (entries_parted c.self.inside.nodes.items c.self.inside.store.slots c.self.inside.root _ _ _ _ _ c.self.invariant
    c.take_least-least.new.nodes p c.take_least-least.result.1 (len b) (taken b)) in
    let is =
    contents_taken c.self.inside.nodes.items c.self.inside.store.slots c.self.inside.root _ _ _ _ _ c.self.invariant c.take_least-least.new.nodes p
    c.take_least-least.result.1 (len b) (taken b) c.weight-weight.result (weight_is b) in
    rw (← c.self.view_is, first, back b, c.vacate.ensures, entry_is b) is
