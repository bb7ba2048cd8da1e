use Rattle.std.proofs.Common.{◌≡◌, ◌+◌, ◌*◌, ◌≤◌, ◌++◌, ◌∷◌, [], length, take, drop, ap, sym, subst, ◌∙◌, arith}
use Rattle.record_delta.specs.Records.{text_of as text_in}
use Rattle.record_delta.specs.Entries.{Entries, entries_weight}
use Rattle.entry_store.specs.Stores.{Stored, entries_in, len_of}
use Rattle.entry_store.proofs.StoreLemmas.{packed_len, put_back, IsFilled, filled, fill_inside, fill_apart, head_left, entries_pushed, store_pushed}
use Rattle.entry_store.proofs.store.Store.push.Goals as goal
use Rattle.entry_store.proofs.store.Store.push.Goals.{After-as_slice, After-fill-self-inside}

fits : (c : After-as_slice) → entries_weight (entries_in c.self.inside.chunks.items c.self.inside.heads.items ++ (c.args.key.now, c.args.rec.now) ∷ []) ≤ c.self.inside.reserved
fits c = subst (λ (v : Stored). entries_weight (v.slots ++ (c.args.key.now, c.args.rec.now) ∷ []) ≤ v.reserved) (sym c.self.view_is) c.requires.fits

bytes_are : (c : After-as_slice) → c.as_slice.result.now ≡ c.args.key.now ++ text_in c.args.rec.now
bytes_are c = c.as_slice.ensures.value ∙ c.pack-head.ensures.bytes

count : (c : After-as_slice) → length c.as_slice.result.now ≡ len_of c.pack-head.result
count c = ap length (bytes_are c) ∙ packed_len c.pack-head.result c.args.key.now c.args.rec.now c.self.inside.free c.pack-head.ensures.head

pub fill-self-inside-requires : goal.fill-self-inside-requires
fill-self-inside-requires c =
    let b = (goal.at.fill-self-inside-requires c).After-as_slice in
    rw (c.deref_mut.ensures.value, count b) (record { inside = fill_inside c.self.inside.chunks.items c.self.inside.heads.items c.self.inside.free _ _ c.self.invariant c.args.key.now c.args.rec.now c.pack-head.result c.pack-head.ensures.head (fits b); apart = fill_apart c.self.inside.chunks.items c.self.inside.heads.items c.self.inside.free _ _ c.self.invariant c.args.key.now c.args.rec.now c.pack-head.result c.pack-head.ensures.head (fits b); full = c.self.invariant.full })

pub unreachable-requires : goal.unreachable-requires
unreachable-requires c =
    let b = (goal.at.unreachable-requires c).After-as_slice in
    omega (
      arith,
      c.in-Err.ensures.full,
      c.self.inside.heads.ok.0,
      head_left c.self.inside.chunks.items c.self.inside.heads.items c.self.inside.free _ _ c.self.invariant c.args.key.now c.args.rec.now
          c.pack-head.result c.pack-head.ensures.head (fits b)
          (subst (λ (v : Stored). 14 * (length v.slots + 1) ≤ v.reserved) (sym c.self.view_is) c.requires.place),
    )

done : (c : After-fill-self-inside) → c.as_slice.result.now ≡ c.args.key.now ++ text_in c.args.rec.now
    → IsFilled c.self.inside.chunks.items c.fill-self-inside.new.chunks c.self.inside.free (len_of c.pack-head.result) (c.args.key.now ++ text_in c.args.rec.now) c.fill-self-inside.result
done c bytes_is =
    let f = c.fill-self-inside.ensures in
    filled c.self.inside.chunks.items c.deref_mut.result.now _ _ _ _ _ c.as_slice.result.now _ c.pack-head.ensures.head
    (record { links = f.links; others = f.others; text = f.text; next = f.next; full = f.full; len = c.fill-self-inside.auto.chunks }) c.deref_mut.ensures.value bytes_is

back : (c : After-fill-self-inside) → take c.self.inside.chunks.len (c.fill-self-inside.new.chunks ++ drop (length c.fill-self-inside.new.chunks) c.self.inside.chunks.items) ≡ c.fill-self-inside.new.chunks
back c = put_back c.self.inside.chunks.len c.fill-self-inside.new.chunks c.deref_mut.result.now c.self.inside.chunks.items c.fill-self-inside.auto.chunks c.deref_mut.ensures.value (omega (arith, c.self.inside.chunks.ok.0))

pub invariant_of-self : goal.invariant_of-self
invariant_of-self c =
    let b = (goal.at.invariant_of-self c).After-as_slice in
    let d = (goal.at.invariant_of-self c).After-fill-self-inside in
    let f = done d (bytes_are b) in
    rw (back d, c.in-Ok.ensures.items, f.next)
    (store_pushed c.self.inside.chunks.items c.self.inside.heads.items c.self.inside.free _ _ c.self.invariant c.args.key.now c.args.rec.now c.pack-head.result c.pack-head.ensures.head (fits b) c.fill-self-inside.new.chunks _ f _ c.in-Ok.ensures.capacity)

pub returns-clause-added : goal.returns-clause-added
returns-clause-added c =
    let b = (goal.at.returns-clause-added c).After-as_slice in
    let d = (goal.at.returns-clause-added c).After-fill-self-inside in
    rw (← c.self.view_is, back d, c.in-Ok.ensures.items)
    (ap (λ (es : Entries). record { slots = es; reserved = c.self.inside.reserved })
    (entries_pushed c.self.inside.chunks.items c.self.inside.heads.items c.self.inside.free _ _ c.self.invariant c.args.key.now c.args.rec.now c.pack-head.result c.pack-head.ensures.head (fits b) c.fill-self-inside.new.chunks _ (done d (bytes_are b))))
