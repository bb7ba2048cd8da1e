use Rattle.std.proofs.Common.{◌≡◌, ◌≤◌, ◌+◌, true, ℕ, List, [], ◌∷◌, ◌++◌, None, length, take, drop, ap, sym, subst, ◌∙◌, arith}
use Rattle.blsm_model.specs.declared.key.Key.{Key}
use Rattle.record_delta.specs.Entries.{Entries, entries_weight, record_of_key, with_record, is_above}
use Rattle.entry_store.specs.Stores.{Stored}
use Rattle.mem_table.specs.declared.nodes.Node.{Node}
use Rattle.mem_table.specs.Tables.{Contents, place_in, keys_of}
use Rattle.mem_table.specs.Ways.{tree_entries}
use Rattle.mem_table.proofs.TableLemmas.{few_slots, node_left, grown_fits, grown_place, grown_entry, grown_tree, grown_new, grown_balanced, grown_low, entries_added, arrived_added, arena_added, put_back}
use Rattle.mem_table.proofs.table.Table.add.Goals as goal
use Rattle.mem_table.proofs.table.Table.add.Goals.{After-len-place, After-push}

absent : (c : After-len-place) → record_of_key c.args.key.now (tree_entries c.self.inside.nodes.items c.self.inside.store.slots c.self.inside.root) ≡ None
absent c = subst (λ (v : Contents). record_of_key c.args.key.now v.entries ≡ None) (sym c.self.view_is) c.requires.absent

nowhere : (c : After-len-place) → place_in c.args.key.now (keys_of c.self.inside.store.slots) ≡ None
nowhere c = subst (λ (v : Contents). place_in c.args.key.now v.arrived ≡ None) (sym c.self.view_is) c.requires.place

fits : (c : After-len-place)
    → entries_weight (with_record c.args.key.now c.args.rec.now (tree_entries c.self.inside.nodes.items c.self.inside.store.slots c.self.inside.root))
    + c.self.inside.dropped ≤ c.self.inside.store.reserved
fits c = subst (λ (v : Contents). entries_weight (with_record c.args.key.now c.args.rec.now v.entries) + v.dropped ≤ v.reserved) (sym c.self.view_is)
    c.requires.fits

high : (c : After-len-place) → is_above c.self.inside.floor c.args.key.now ≡ true
high c = subst (λ (v : Contents). is_above v.floor c.args.key.now ≡ true) (sym c.self.view_is) c.requires.above

place_is : (c : After-len-place) → c.len-place.result ≡ length c.self.inside.store.slots
place_is c = omega (arith, c.len-place.ensures, c.self.inside.nodes.ok.0, c.self.invariant.as_many)

pub overflow_cast-place : goal.overflow_cast-place
overflow_cast-place c =
    let few = few_slots c.self.inside.nodes.items c.self.inside.store.slots c.self.inside.root _ _ _ _ _ c.self.invariant in
    omega (arith, few, place_is c)

pub push-requires-clause-fits : goal.push-requires-clause-fits
push-requires-clause-fits c =
    let b = (goal.at.push-requires-clause-fits c).After-len-place in
    grown_fits c.self.inside.nodes.items c.self.inside.store.slots c.self.inside.root _ _ _ _ _ c.self.invariant c.args.key.now c.args.rec.now
    (absent b) c.weight.ensures.not_empty (high b) (fits b)

pub push-requires-clause-place : goal.push-requires-clause-place
push-requires-clause-place c =
    let b = (goal.at.push-requires-clause-place c).After-len-place in
    grown_place c.self.inside.nodes.items c.self.inside.store.slots c.self.inside.root _ _ _ _ _ c.self.invariant c.args.key.now c.args.rec.now
    (absent b) c.weight.ensures.not_empty (high b) (fits b)

pub unreachable-requires : goal.unreachable-requires
unreachable-requires c =
    let b = (goal.at.unreachable-requires c).After-len-place in
    omega (
      arith,
      c.in-Err.ensures.full,
      c.self.inside.nodes.ok.0,
      node_left c.self.inside.nodes.items c.self.inside.store.slots c.self.inside.root _ _ _ _ _ c.self.invariant c.args.key.now c.args.rec.now
          (absent b) c.weight.ensures.not_empty (high b) (fits b),
    )

slots_are : (c : After-push) → c.push.new.self.slots ≡ c.self.inside.store.slots ++ (c.args.key.now, c.args.rec.now) ∷ []
slots_are c = ap (λ (v : Stored). v.slots) c.push.ensures.added

pub add_under-self-inside-requires : goal.add_under-self-inside-requires
add_under-self-inside-requires c =
    let b = (goal.at.add_under-self-inside-requires c).After-len-place in
    let d = (goal.at.add_under-self-inside-requires c).After-push in
    rw (c.deref_mut.ensures.value, c.in-Ok.ensures.items, slots_are d, place_is b)
    (record {
      tree = grown_tree c.self.inside.nodes.items c.self.inside.store.slots c.self.inside.root _ _ _ _ _ c.self.invariant c.args.key.now
          c.args.rec.now (absent b) c.weight.ensures.not_empty (high b) (fits b) c.alone.result;
      balanced = grown_balanced c.self.inside.nodes.items c.self.inside.store.slots c.self.inside.root _ _ _ _ _ c.self.invariant c.args.key.now
          c.args.rec.now (absent b) c.weight.ensures.not_empty (high b) (fits b) c.alone.result;
      new = grown_new c.self.inside.nodes.items c.self.inside.store.slots c.self.inside.root _ _ _ _ _ c.self.invariant c.args.key.now c.args.rec.now
          (absent b) c.weight.ensures.not_empty (high b) (fits b) c.alone.result;
      key = ap (λ (e : Key × _). e.0) (grown_entry c.self.inside.store.slots c.args.key.now c.args.rec.now);
      low = grown_low c.self.inside.nodes.items c.self.inside.store.slots c.self.inside.root _ _ _ _ _ c.self.invariant c.args.key.now c.args.rec.now
          (absent b) c.weight.ensures.not_empty (high b) (fits b) c.alone.result;
    })

-- the nodes after the tree was changed: the whole lent list
back : (n : ℕ) (after lent kept : List Node) → length after ≡ length lent → lent ≡ kept → n ≡ length kept → take n (after ++ drop (length after) kept) ≡ after
back n after lent kept len is n_is = put_back n after kept (len ∙ ap length is) n_is

pub invariant_of-self : goal.invariant_of-self
invariant_of-self c =
    let b = (goal.at.invariant_of-self c).After-len-place in
    let d = (goal.at.invariant_of-self c).After-push in
    let after : List Node = c.add_under-self-inside.new.nodes in
    let added = rw (c.deref_mut.ensures.value, c.in-Ok.ensures.items, slots_are d, place_is b) at c.add_under-self-inside.ensures in
    let nodes_back = back c.push-2.new.self.len after c.deref_mut.result.now c.push-2.new.self.items c.add_under-self-inside.auto.nodes c.deref_mut.ensures.value (omega (arith, c.push-2.new.self.ok.0)) in
    rw (nodes_back, c.push.ensures.added)
    (arena_added c.self.inside.nodes.items c.self.inside.store.slots c.self.inside.root _ _ _ _ _ c.self.invariant c.args.key.now c.args.rec.now
    (absent b) c.weight.ensures.not_empty (high b) (fits b) c.alone.result
    after c.add_under-self-inside.result added (c.add_under-self-inside.auto.nodes ∙ ap length (c.deref_mut.ensures.value ∙ c.in-Ok.ensures.items)) c.weight.result _ c.weight.ensures.weight c.in-Ok.ensures.capacity)

pub returns-clause-folded : goal.returns-clause-folded
returns-clause-folded c =
    let b = (goal.at.returns-clause-folded c).After-len-place in
    let d = (goal.at.returns-clause-folded c).After-push in
    let after : List Node = c.add_under-self-inside.new.nodes in
    let top : ℕ = c.add_under-self-inside.result in
    let slots : Entries = c.self.inside.store.slots ++ (c.args.key.now, c.args.rec.now) ∷ [] in
    let added = rw (c.deref_mut.ensures.value, c.in-Ok.ensures.items, slots_are d, place_is b) at c.add_under-self-inside.ensures in
    let len = c.add_under-self-inside.auto.nodes ∙ ap length (c.deref_mut.ensures.value ∙ c.in-Ok.ensures.items) in
    let nodes_back = back c.push-2.new.self.len after c.deref_mut.result.now c.push-2.new.self.items c.add_under-self-inside.auto.nodes c.deref_mut.ensures.value (omega (arith, c.push-2.new.self.ok.0)) in
    rw (← c.self.view_is)
    (ap (λ (ns : List Node). record {
      entries = tree_entries ns c.push.new.self.slots top;
      reserved = c.push.new.self.reserved;
      arrived =
          keys_of c.push.new.self.slots;
      floor = c.self.inside.floor;
      dropped = c.self.inside.dropped;
    }) nodes_back
    ∙ ap (λ (v : Stored). record {
      entries = tree_entries after v.slots top;
      reserved = v.reserved;
      arrived = keys_of v.slots;
      floor =
          c.self.inside.floor;
      dropped = c.self.inside.dropped;
    }) c.push.ensures.added
    ∙ ap (λ (es : Entries). record {
      entries = es;
      reserved = c.self.inside.store.reserved;
      arrived = keys_of slots;
      floor = c.self.inside.floor;
      dropped = c.self.inside.dropped;
    })
    (entries_added c.self.inside.nodes.items c.self.inside.store.slots c.self.inside.root _ _ _ _ _ c.self.invariant c.args.key.now c.args.rec.now
    (absent b) c.weight.ensures.not_empty (high b) (fits b) c.alone.result after top added len)
    ∙ ap (λ (ks : List Key). record {
      entries = with_record c.args.key.now c.args.rec.now
          (tree_entries c.self.inside.nodes.items c.self.inside.store.slots c.self.inside.root);
      reserved = c.self.inside.store.reserved;
      arrived = ks;
      floor = c.self.inside.floor;
      dropped = c.self.inside.dropped;
    })
    (arrived_added c.self.inside.nodes.items c.self.inside.store.slots c.self.inside.root _ _ _ _ _ c.self.invariant c.args.key.now c.args.rec.now
    (absent b) c.weight.ensures.not_empty (high b) (fits b) c.alone.result after top added len (nowhere b)))
