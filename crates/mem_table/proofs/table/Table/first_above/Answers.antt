use Rattle.std.proofs.Common.{◌≡◌, Some, None, ap, sym, subst, ◌∙◌}
use Rattle.blsm_model.specs.declared.key.Key.{Key}
use Rattle.record_delta.specs.declared.record.Rec.{Rec}
use Rattle.record_delta.specs.Entries.{first_of, above}
use Rattle.mem_table.specs.Tables.{Contents}
use Rattle.mem_table.specs.Ways.{entry_at}
use Rattle.mem_table.proofs.TableLemmas.{key_kept, tree_there, least_some, least_none}
use Rattle.mem_table.proofs.table.Table.first_above.Goals as goal

pub find_above-requires : goal.find_above-requires
find_above-requires c = rw c.deref.ensures.value (tree_there c.self.inside.nodes.items c.self.inside.store.slots c.self.inside.root _ _ _ _ _
    c.self.invariant)

pub at-requires : goal.at-requires
at-requires c =
    let tree = tree_there c.self.inside.nodes.items c.self.inside.store.slots c.self.inside.root _ _ _ _ _ c.self.invariant in
    let some = least_some c.self.inside.nodes.items c.self.inside.store.slots c.self.inside.root tree c.args.key.now c.find_above.result
    (rw c.deref.ensures.value at c.find_above.ensures) c.in-Some.place c.in-Some.is in
    record {
      place = some.1;
      entry = key_kept c.self.inside.nodes.items c.self.inside.store.slots c.self.inside.root _ _ _ _ _ c.self.invariant
          c.in-Some.place some.2;
    }

pub returns-in-Some : goal.returns-in-Some
returns-in-Some c =
    let tree = tree_there c.self.inside.nodes.items c.self.inside.store.slots c.self.inside.root _ _ _ _ _ c.self.invariant in
    let some = least_some c.self.inside.nodes.items c.self.inside.store.slots c.self.inside.root tree c.args.key.now c.find_above.result
    (rw c.deref.ensures.value at c.find_above.ensures) c.in-Some.place c.in-Some.is in
    ap (λ (e : Key × Rec). Some e) c.at.ensures
    ∙ sym (subst (λ (v : Contents). first_of (above c.args.key.now v.entries) ≡ Some (entry_at c.self.inside.store.slots c.in-Some.place)) c.self.view_is some.0)

pub returns-in-None : goal.returns-in-None
returns-in-None c =
    let tree = tree_there c.self.inside.nodes.items c.self.inside.store.slots c.self.inside.root _ _ _ _ _ c.self.invariant in
    let none = least_none c.self.inside.nodes.items c.self.inside.store.slots c.self.inside.root tree c.args.key.now c.find_above.result
    (rw c.deref.ensures.value at c.find_above.ensures) c.in-None.is in
    sym (subst (λ (v : Contents). first_of (above c.args.key.now v.entries) ≡ None) c.self.view_is none)
