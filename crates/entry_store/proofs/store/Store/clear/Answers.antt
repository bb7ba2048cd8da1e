use Rattle.std.proofs.Common.{◌≡◌, ◌++◌, length, take, drop, ap, ◌∙◌, arith}
use Rattle.entry_store.proofs.StoreLemmas.{put_back, store_empty}
use Rattle.entry_store.proofs.store.Store.clear.Goals as goal

pub invariant_of-self : goal.invariant_of-self
invariant_of-self c =
    let s = c.self.invariant in
    let cs = c.self.inside.chunks.items in
    let len : length c.link_all.new.chunks ≡ length cs = c.link_all.auto.chunks ∙ ap length c.deref_mut.ensures.value in
    let back : take c.self.inside.chunks.len (c.link_all.new.chunks ++ drop (length c.link_all.new.chunks) cs) ≡ c.link_all.new.chunks =
    put_back c.self.inside.chunks.len c.link_all.new.chunks c.deref_mut.result.now cs c.link_all.auto.chunks c.deref_mut.ensures.value (omega (arith, c.self.inside.chunks.ok.0)) in
    rw (back, c.clear.ensures.items)
    (store_empty c.link_all.new.chunks c.self.inside.reserved _ c.link_all.ensures (omega (arith, s.room_heads, c.clear.ensures.capacity)) (omega (arith, s.room_chunks, len)) (omega (arith, s.numbered, len)))
