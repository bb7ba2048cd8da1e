use Rattle.std.proofs.Common.{◌≡◌, refl, ℕ, ◌<◌, ◌≤◌, List, length, take, sym, arith}
use Rattle.entry_store.specs.declared.chunks.Chunk.{Chunk}
use Rattle.entry_store.specs.Chains.{chain, times, chunks_for, text_of}
use Rattle.entry_store.specs.Stores.{string_in, len_of, size_of}
use Rattle.entry_store.proofs.StoreLemmas.{place_within, chain_inside, entry_there, sixteen}
use Rattle.entry_store.proofs.CompareLemmas.{chain_taken, text_taken}
use Rattle.entry_store.proofs.store.Store.compare.Goals as goal
use Rattle.entry_store.proofs.store.Store.compare.Goals.{After-deref}

chunks_inside : (c : After-deref) (q : ℕ) → 1 ≤ times q (chain (size_of c.index-head.result.now) c.self.inside.chunks.items c.index-head.result.now.first) → q < length c.self.inside.chunks.items
chunks_inside c =
    chain_inside c.self.inside.chunks.items c.self.inside.heads.items _ _ _ c.self.invariant c.index-head.result.now c.args.place
    (place_within c.self.inside.chunks.items c.self.inside.heads.items _ _ c.args.place (sym c.self.view_is) c.requires) c.index-head.ensures

pub compare-requires-clause-inside : goal.compare-requires-clause-inside
compare-requires-clause-inside c =
    let b = (goal.at.compare-requires-clause-inside c).After-deref in
    let h = c.index-head.result.now in
    rw c.deref.ensures.value (λ q one. chunks_inside b q (omega (arith, one, chain_taken h.key_len (len_of h) c.self.inside.chunks.items h.first q (omega arith))))

pub returns : goal.returns
returns c = λ entry.
    let b = (goal.at.returns c).After-deref in
    let h = c.index-head.result.now in
    let cs : List Chunk = c.self.inside.chunks.items in
    let taken : take h.key_len (string_in cs h) ≡ text_of (chunks_for h.key_len) cs h.first h.key_len =
    text_taken (size_of h) cs h.first h.key_len (len_of h) (omega arith) (sixteen (len_of h)) (λ q one. c.self.invariant.full q (chunks_inside b q one)) in
    rw (
      ← c.self.view_is,
      entry_there cs c.self.inside.heads.items _ _ _ c.self.invariant h c.args.place (place_within cs c.self.inside.heads.items _ _ c.args.place (sym c.self.view_is) c.requires) c.index-head.ensures entry,
      c.compare.ensures,
      c.as_bytes.ensures.bytes,
      c.deref.ensures.value,
      taken,
    ) refl
