use Rattle.std.proofs.Common.{◌≡◌, refl, suc, ◌-◌, ◌<◌, ◌++◌, List, length, take, drop, ap, sym, subst, arith}
use Rattle.record_delta.specs.Entries.{Entries}
use Rattle.entry_store.specs.declared.chunks.Chunk.{Chunk}
use Rattle.entry_store.specs.declared.store.Head.{Head}
use Rattle.entry_store.specs.declared.store.Kind.TheVariants as kind
use Rattle.entry_store.specs.Chains.{walk, linked, text_of}
use Rattle.entry_store.specs.Stores.{Stored, HasEntry, IsHead, entry_in, size_of, vacant}
use Rattle.entry_store.proofs.StoreLemmas.{entry_within, place_within, put_back, key_there, chain_inside}
use Rattle.entry_store.proofs.SetLemmas.{entries_vacated, store_vacated}
use Rattle.entry_store.proofs.store.Store.vacate.Goals as goal
use Rattle.entry_store.proofs.store.Store.vacate.Goals.{After-chunks, After-give_back}

inside : (c : After-chunks) → c.args.place < length c.self.inside.heads.items
inside c = place_within c.self.inside.chunks.items c.self.inside.heads.items _ _ c.args.place (sym c.self.view_is)
    (entry_within _ c.args.place c.requires)

size_is : (c : After-chunks) → size_of c.index.result.now ≡ suc (size_of c.index.result.now - 1)
size_is c =
    omega (
      arith,
      key_there c.self.inside.chunks.items c.self.inside.heads.items _ _ _ c.self.invariant c.index.result.now c.args.place (inside c) c.index.ensures
          (subst (λ (v : Stored). HasEntry v.slots c.args.place) (sym c.self.view_is) c.requires),
    )

pub give_back-requires-clause-inside : goal.give_back-requires-clause-inside
give_back-requires-clause-inside c =
    rw (c.deref_mut.ensures.value, c.chunks.ensures)
    (chain_inside c.self.inside.chunks.items c.self.inside.heads.items _ _ _ c.self.invariant c.index.result.now c.args.place
    (inside (goal.at.give_back-requires-clause-inside c).After-chunks) c.index.ensures)

back : (c : After-give_back)
    → take c.self.inside.chunks.len (c.give_back.new.chunks ++ drop (length c.give_back.new.chunks) c.self.inside.chunks.items)
    ≡ c.give_back.new.chunks
back c = put_back c.self.inside.chunks.len c.give_back.new.chunks c.deref_mut.result.now c.self.inside.chunks.items c.give_back.auto.chunks
    c.deref_mut.ensures.value (omega (arith, c.self.inside.chunks.ok.0))

given_is : (c : After-give_back)
    → c.give_back.new.chunks ≡ linked c.self.inside.chunks.items (walk (size_of c.index.result.now - 1) c.self.inside.chunks.items
    c.index.result.now.first) c.self.inside.free
given_is c = rw (c.give_back.ensures, c.deref_mut.ensures.value, c.chunks.ensures) refl

abbrev none : Head
none = record { count = 0; first = 0; text_len = 0; key_len = 0; kind = kind.Tomb }

is_head : IsHead none
is_head = record { key_most = omega arith; text_most = omega arith; has_text = refl }

is_vacant : (cs : List Chunk) → entry_in cs none ≡ vacant
unfolding text_of
is_vacant cs = refl

pub invariant_of-self : goal.invariant_of-self
invariant_of-self c =
    let i = (goal.at.invariant_of-self c).After-chunks in
    let b = (goal.at.invariant_of-self c).After-give_back in
    rw (back b, given_is b)
    (store_vacated c.self.inside.chunks.items c.self.inside.heads.items c.self.inside.free _ _ c.self.invariant c.index.result.now c.args.place
    (size_of c.index.result.now - 1) (inside i) c.index.ensures (size_is i) none is_head refl is_vacant)

pub returns : goal.returns
returns c =
    let i = (goal.at.returns c).After-chunks in
    let b = (goal.at.returns c).After-give_back in
    rw (← c.self.view_is, back b, given_is b)
    (ap (λ (es : Entries). record { slots = es; reserved = c.self.inside.reserved })
    (entries_vacated c.self.inside.chunks.items c.self.inside.heads.items c.self.inside.free _ _ c.self.invariant c.index.result.now c.args.place
    (size_of c.index.result.now - 1) (inside i) c.index.ensures (size_is i) none is_head refl is_vacant))
