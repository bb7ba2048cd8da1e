use Rattle.std.proofs.Common.{◌<◌, length, ap, sym, subst, ◌∙◌, arith}
use Rattle.std.proofs.lemmas.List.{length-take}
use Rattle.entry_store.specs.Stores.{Stored, HasEntry}
use Rattle.entry_store.proofs.StoreLemmas.{entry_within, key_there, place_within, chain_inside, room_whole, IsRead, read_whole, entry_there}
use Rattle.entry_store.proofs.store.Store.read_over.Goals as goal
use Rattle.entry_store.proofs.store.Store.read_over.Goals.{After-chunks, After-as_slice}

within : (c : After-chunks) → c.args.place < length c.self.inside.heads.items
within c = place_within c.self.inside.chunks.items c.self.inside.heads.items _ _ c.args.place (sym c.self.view_is)
    (entry_within _ c.args.place c.requires)

pub read-requires-clause-inside : goal.read-requires-clause-inside
read-requires-clause-inside c =
    rw (c.deref.ensures.value, c.chunks.ensures) (chain_inside c.self.inside.chunks.items c.self.inside.heads.items _ _ _ c.self.invariant
    c.index.result.now c.args.place (within (goal.at.read-requires-clause-inside c).After-chunks) c.index.ensures)

pub read-requires-clause-room : goal.read-requires-clause-room
read-requires-clause-room c =
    omega (
      arith,
      ap length c.new-bytes.ensures,
      c.chunks.ensures,
      room_whole c.self.inside.chunks.items c.self.inside.heads.items _ _ _
          c.self.invariant c.index.result.now c.args.place (within (goal.at.read-requires-clause-room c).After-chunks) c.index.ensures,
    )

whole : (c : After-as_slice) → IsRead c.self.inside.chunks.items c.index.result.now c.as_slice.result.now
whole c =
    read_whole c.self.inside.chunks.items c.self.inside.heads.items _ _ _ c.self.invariant c.index.result.now c.args.place
    (place_within c.self.inside.chunks.items c.self.inside.heads.items _ _ c.args.place (sym c.self.view_is) (entry_within _ c.args.place c.requires))
    c.index.ensures
    c.deref.result.now c.chunks.result _ _ c.deref.ensures.value c.chunks.ensures c.new-bytes.ensures (c.as_slice.ensures.value ∙ c.read.ensures)

pub slice_bounds-parts_over-end : goal.slice_bounds-parts_over-end
slice_bounds-parts_over-end c = let w = whole (goal.at.slice_bounds-parts_over-end c).After-as_slice in omega
    (arith, c.len.ensures, w.long, length-take c.len.result c.as_slice.result.now)

pub parts_over-requires : goal.parts_over-requires
parts_over-requires c =
    let w = whole (goal.at.parts_over-requires c).After-as_slice in
    let key = key_there c.self.inside.chunks.items c.self.inside.heads.items _ _ _ c.self.invariant c.index.result.now c.args.place
    (within (goal.at.parts_over-requires c).After-chunks) c.index.ensures
    (subst (λ (v : Stored). HasEntry v.slots c.args.place) (sym c.self.view_is) c.requires) in
    rw c.len.ensures (record { head = w.head; key = key; len = w.taken })

pub returns : goal.returns
returns c = λ entry.
    let w = whole (goal.at.returns c).After-as_slice in
    rw (← c.self.view_is, c.parts_over.ensures.key, c.parts_over.ensures.rec, c.len.ensures, w.string)
    (sym (entry_there c.self.inside.chunks.items c.self.inside.heads.items _ _ _ c.self.invariant c.index.result.now c.args.place
    (within (goal.at.returns c).After-chunks) c.index.ensures entry))
