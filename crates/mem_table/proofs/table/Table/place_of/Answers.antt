use Rattle.std.proofs.Common.{◌≡◌, None, IsNone, ◌↔◌, subst}
use Rattle.record_delta.specs.Entries.{record_of_key}
use Rattle.mem_table.specs.Tables.{Contents, place_in}
use Rattle.mem_table.proofs.TableLemmas.{tree_there, placed, none_iff}
use Rattle.mem_table.proofs.table.Table.place_of.Goals as goal

pub find-requires : goal.find-requires
find-requires c = rw c.deref.ensures.value (tree_there c.self.inside.nodes.items c.self.inside.store.slots c.self.inside.root _ _ _ _ _
    c.self.invariant)

pub returns-clause-place : goal.returns-clause-place
returns-clause-place c =
    let inside = placed c.self.inside.nodes.items c.self.inside.store.slots c.self.inside.root _ _ _ _ _ c.self.invariant c.args.key.now c.find.result
    (rw c.deref.ensures.value at c.find.ensures.found) (rw c.deref.ensures.value at c.find.ensures.absent) in
    subst (λ (v : Contents). c.find.result ≡ place_in c.args.key.now v.arrived) c.self.view_is inside

pub returns-clause-none : goal.returns-clause-none
returns-clause-none c =
    let absent = rw c.deref.ensures.value at c.find.ensures.absent in
    let inside = placed c.self.inside.nodes.items c.self.inside.store.slots c.self.inside.root _ _ _ _ _ c.self.invariant c.args.key.now c.find.result
    (rw c.deref.ensures.value at c.find.ensures.found) absent in
    subst (λ (v : Contents). IsNone c.find.result ↔ (record_of_key c.args.key.now v.entries ≡ None)) c.self.view_is
    (none_iff c.self.inside.nodes.items c.self.inside.store.slots c.self.inside.root _ _ _ _ _ c.self.invariant c.args.key.now c.find.result
    inside absent)
