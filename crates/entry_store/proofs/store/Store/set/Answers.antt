use Rattle.std.proofs.Common.{◌≡◌, refl, suc, ◌-◌, ◌<◌, ◌≤◌, ◌++◌, List, length, take, drop, set, ap, sym, subst, ◌∙◌, arith}
use Rattle.record_delta.specs.Records.{text_of as text_in}
use Rattle.record_delta.specs.Entries.{Entries, entries_weight}
use Rattle.entry_store.specs.declared.chunks.Chunk.{Chunk}
use Rattle.entry_store.specs.Chains.{walk, linked}
use Rattle.entry_store.specs.Stores.{Stored, HasEntry, entries_in, len_of, size_of}
use Rattle.entry_store.proofs.StoreLemmas.{entry_within, place_within, packed_len, put_back, IsFilled, filled, key_there, chain_inside}
use Rattle.entry_store.proofs.SetLemmas.{set_inside, set_apart, set_full, entries_changed, store_changed}
use Rattle.entry_store.proofs.store.Store.set.Goals as goal
use Rattle.entry_store.proofs.store.Store.set.Goals.{After-index, After-give_back, After-as_slice, After-fill-self-inside}

inside : (c : After-index) → c.args.place < length c.self.inside.heads.items
inside c = place_within c.self.inside.chunks.items c.self.inside.heads.items _ _ c.args.place (sym c.self.view_is)
    (entry_within _ c.args.place c.requires.place)

fits : (c : After-index) → entries_weight (set (entries_in c.self.inside.chunks.items c.self.inside.heads.items) c.args.place (c.args.key.now, c.args.rec.now)) ≤ c.self.inside.reserved
fits c = subst (λ (v : Stored). entries_weight (set v.slots c.args.place (c.args.key.now, c.args.rec.now)) ≤ v.reserved) (sym c.self.view_is) c.requires.fits

size_is : (c : After-index) → size_of c.index.result.now ≡ suc (size_of c.index.result.now - 1)
size_is c =
    omega (
      arith,
      key_there c.self.inside.chunks.items c.self.inside.heads.items _ _ _ c.self.invariant c.index.result.now c.args.place (inside c) c.index.ensures
          (subst (λ (v : Stored). HasEntry v.slots c.args.place) (sym c.self.view_is) c.requires.place),
    )

pub give_back-requires-clause-inside : goal.give_back-requires-clause-inside
give_back-requires-clause-inside c =
    let i = (goal.at.give_back-requires-clause-inside c).After-index in
    rw (c.deref_mut.ensures.value, c.chunks.ensures) (chain_inside c.self.inside.chunks.items c.self.inside.heads.items _ _ _ c.self.invariant c.index.result.now c.args.place (inside i) c.index.ensures)

mid_back : (c : After-give_back) → take c.self.inside.chunks.len (c.give_back.new.chunks ++ drop (length c.give_back.new.chunks) c.self.inside.chunks.items) ≡ c.give_back.new.chunks
mid_back c = put_back c.self.inside.chunks.len c.give_back.new.chunks c.deref_mut.result.now c.self.inside.chunks.items c.give_back.auto.chunks c.deref_mut.ensures.value (omega (arith, c.self.inside.chunks.ok.0))

lent_is : (c : After-as_slice) → take c.self.inside.chunks.len (c.give_back.new.chunks ++ drop (length c.give_back.new.chunks) c.self.inside.chunks.items) ≡ c.give_back.new.chunks → c.deref_mut-2.result.now ≡ linked c.self.inside.chunks.items (walk (size_of c.index.result.now - 1) c.self.inside.chunks.items c.index.result.now.first) c.self.inside.free
lent_is c back = rw (c.deref_mut-2.ensures.value, back, c.give_back.ensures, c.deref_mut.ensures.value, c.chunks.ensures) refl

bytes_are : (c : After-as_slice) → c.as_slice.result.now ≡ c.args.key.now ++ text_in c.args.rec.now
bytes_are c = c.as_slice.ensures.value ∙ c.pack-head.ensures.bytes

count : (c : After-as_slice) → length c.as_slice.result.now ≡ len_of c.pack-head.result
count c = ap length (bytes_are c) ∙ packed_len c.pack-head.result c.args.key.now c.args.rec.now c.index.result.now.first c.pack-head.ensures.head

pub fill-self-inside-requires : goal.fill-self-inside-requires
fill-self-inside-requires c =
    let i = (goal.at.fill-self-inside-requires c).After-index in
    let b = (goal.at.fill-self-inside-requires c).After-as_slice in
    rw (lent_is b (mid_back (goal.at.fill-self-inside-requires c).After-give_back), count b)
    (record {
      inside = set_inside c.self.inside.chunks.items c.self.inside.heads.items c.self.inside.free _ _ c.self.invariant c.index.result.now c.args.place (size_of c.index.result.now - 1) (inside i) c.index.ensures (size_is i) c.args.key.now c.args.rec.now c.pack-head.result c.pack-head.ensures.head (fits i);
      apart = set_apart c.self.inside.chunks.items c.self.inside.heads.items c.self.inside.free _ _ c.self.invariant c.index.result.now c.args.place (size_of c.index.result.now - 1) (inside i) c.index.ensures (size_is i) c.args.key.now c.args.rec.now c.pack-head.result c.pack-head.ensures.head (fits i);
      full = set_full c.self.inside.chunks.items c.self.inside.heads.items c.self.inside.free _ _ c.self.invariant c.index.result.now c.args.place (size_of c.index.result.now - 1) (inside i) c.index.ensures (size_is i);
    })

done : (c : After-fill-self-inside) (cs : List Chunk) → c.deref_mut-2.result.now ≡ cs → c.as_slice.result.now ≡ c.args.key.now ++ text_in c.args.rec.now
    → IsFilled cs c.fill-self-inside.new.chunks c.index.result.now.first (len_of c.pack-head.result) (c.args.key.now ++ text_in c.args.rec.now) c.fill-self-inside.result
done c cs lent bytes_is =
    let f = c.fill-self-inside.ensures in
    filled cs c.deref_mut-2.result.now _ _ _ _ _ c.as_slice.result.now _ c.pack-head.ensures.head
    (record { links = f.links; others = f.others; text = f.text; next = f.next; full = f.full; len = c.fill-self-inside.auto.chunks }) lent bytes_is

back : (c : After-fill-self-inside) → take c.self.inside.chunks.len (c.give_back.new.chunks ++ drop (length c.give_back.new.chunks) c.self.inside.chunks.items) ≡ c.give_back.new.chunks
    → take c.self.inside.chunks.len (c.fill-self-inside.new.chunks ++ drop (length c.fill-self-inside.new.chunks) (take c.self.inside.chunks.len (c.give_back.new.chunks ++ drop (length c.give_back.new.chunks) c.self.inside.chunks.items))) ≡ c.fill-self-inside.new.chunks
back c mid =
    put_back c.self.inside.chunks.len c.fill-self-inside.new.chunks c.deref_mut-2.result.now (take c.self.inside.chunks.len (c.give_back.new.chunks ++ drop (length c.give_back.new.chunks) c.self.inside.chunks.items)) c.fill-self-inside.auto.chunks c.deref_mut-2.ensures.value
    (omega (arith, ap length mid, c.give_back.auto.chunks, ap length c.deref_mut.ensures.value, c.self.inside.chunks.ok.0))

pub invariant_of-self : goal.invariant_of-self
invariant_of-self c =
    let i = (goal.at.invariant_of-self c).After-index in
    let b = (goal.at.invariant_of-self c).After-as_slice in
    let mid = mid_back (goal.at.invariant_of-self c).After-give_back in
    let d = (goal.at.invariant_of-self c).After-fill-self-inside in
    let f = done d _ (lent_is b mid) (bytes_are b) in
    rw (back d mid, f.next) (store_changed c.self.inside.chunks.items c.self.inside.heads.items c.self.inside.free _ _ c.self.invariant c.index.result.now c.args.place (size_of c.index.result.now - 1) (inside i) c.index.ensures (size_is i) c.args.key.now c.args.rec.now c.pack-head.result c.pack-head.ensures.head (fits i) c.fill-self-inside.new.chunks _ f)

pub returns : goal.returns
returns c =
    let i = (goal.at.returns c).After-index in
    let b = (goal.at.returns c).After-as_slice in
    let mid = mid_back (goal.at.returns c).After-give_back in
    let d = (goal.at.returns c).After-fill-self-inside in
    rw (← c.self.view_is, back d mid)
    (ap (λ (es : Entries). record { slots = es; reserved = c.self.inside.reserved })
    (entries_changed c.self.inside.chunks.items c.self.inside.heads.items c.self.inside.free _ _ c.self.invariant c.index.result.now c.args.place (size_of c.index.result.now - 1) (inside i) c.index.ensures (size_is i) c.args.key.now c.args.rec.now c.pack-head.result c.pack-head.ensures.head (fits i) c.fill-self-inside.new.chunks _ (done d _ (lent_is b mid) (bytes_are b))))
