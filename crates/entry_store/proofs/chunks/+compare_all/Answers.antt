use Rattle.std.proofs.Common.{◌≡◌, ℕ, suc, ◌-◌, ◌<◌, List, [], length, take, drop, length-take, sym, ap, ◌∙◌, arith}
use Rattle.std.proofs.lemmas.Bool.{eqb-true, eqb-false}
use Rattle.std.specs.Ordering.{nat_cmp, ordering_then}
use Rattle.std.specs.Cmp.Lexicographic.{slice_cmp}
use Rattle.entry_store.specs.Chains.{chunks_for, chunk_at, next_of, text_of, times}
use Rattle.entry_store.proofs.ChainLemmas.{chunks_none, chunks_more, chain_is, text_is, text_empty, first_inside, no_length, rest_is}
use Rattle.entry_store.proofs.CompareLemmas.{cmp_chunk, cmp_nothing, stands}
use Rattle.entry_store.proofs.chunks.+compare_all.Goals as goal
use Rattle.entry_store.proofs.chunks.+compare_all.Goals.{After-compare_bytes}

pub returns-then-is_empty : goal.returns-then-is_empty
returns-then-is_empty t c =
    sym (ap (slice_cmp nat_cmp c.args.bytes.now) (text_empty (chunks_for c.args.len) c.args.chunks.now c.args.at c.args.len (chunks_none c.args.len c.if-len-eq0.true))
    ∙ ap (λ l. slice_cmp nat_cmp l []) (no_length c.args.bytes.now (eqb-true _ _ (sym c.is_empty.ensures ∙ c.if-is_empty.true))))

pub returns-else-is_empty : goal.returns-else-is_empty
returns-else-is_empty t c =
    cmp_nothing c.args.bytes.now (eqb-false _ _ (sym c.is_empty.ensures ∙ c.if-is_empty.false))
    ∙ sym (ap (slice_cmp nat_cmp c.args.bytes.now) (text_empty (chunks_for c.args.len) c.args.chunks.now c.args.at c.args.len (chunks_none c.args.len c.if-len-eq0.true)))

pub bounds-chunks-at : goal.bounds-chunks-at
bounds-chunks-at t c = first_inside c.args.len c.args.chunks.now c.args.at (omega arith) c.requires.inside

more : (t : ℕ) (c : After-compare_bytes t) → chunks_for c.args.len ≡ suc (chunks_for (c.args.len - c.min-many.result))
more t c = chunks_more c.args.len c.min-many.result (omega arith) c.min-many.ensures

pub compare_all-requires : goal.compare_all-requires
compare_all-requires t c =
    let b = (goal.at.compare_all-requires t c).After-compare_bytes in (
      omega (arith, c.min-many.ensures, c.decreases),
      (
        λ q one. c.requires.inside q (omega (arith, one, ap (times q) (chain_is (chunks_for c.args.len) (chunks_for (c.args.len - c.min-many.result)) c.args.chunks.now c.args.at (more t b)))),
        c.requires.full,
      ),
    )

-- the first chunk's bytes decide, and then the rest
decides : (t : ℕ) (c : After-compare_bytes t)
    → slice_cmp nat_cmp c.args.bytes.now (text_of (chunks_for c.args.len) c.args.chunks.now c.args.at c.args.len)
    ≡ ordering_then c.compare_bytes.result (slice_cmp nat_cmp (drop c.min-front.result c.args.bytes.now) (text_of (chunks_for (c.args.len - c.min-many.result)) c.args.chunks.now (next_of c.args.chunks.now c.args.at) (c.args.len - c.min-many.result)))
decides t c =
    let here : List ℕ = (chunk_at c.args.chunks.now c.args.at).bytes in
    let rest : List ℕ = text_of (chunks_for (c.args.len - c.min-many.result)) c.args.chunks.now (next_of c.args.chunks.now c.args.at) (c.args.len - c.min-many.result) in
    let within : c.args.at < length c.args.chunks.now = first_inside c.args.len c.args.chunks.now c.args.at (omega arith) c.requires.inside in
    let long : length (take c.min-many.result here) ≡ c.min-many.result = omega (arith, length-take c.min-many.result here, c.requires.full c.args.at within, c.min-many.ensures) in
    rw (text_is (chunks_for c.args.len) (chunks_for (c.args.len - c.min-many.result)) c.args.chunks.now c.args.at c.args.len (more t c), ← c.min-many.ensures, c.compare_bytes.ensures)
    (cmp_chunk c.args.bytes.now (take c.min-many.result here) rest c.min-front.result c.min-front.ensures (omega (arith, long, c.min-many.ensures))
    (λ short. text_empty (chunks_for (c.args.len - c.min-many.result)) c.args.chunks.now (next_of c.args.chunks.now c.args.at) (c.args.len - c.min-many.result)
    (chunks_none (c.args.len - c.min-many.result) (omega (arith, short, long, c.min-many.ensures)))))

pub returns-in-Equal : goal.returns-in-Equal
returns-in-Equal t c =
    let b = (goal.at.returns-in-Equal t c).After-compare_bytes in
    let rest : List ℕ = text_of (chunks_for (c.args.len - c.min-many.result)) c.args.chunks.now (next_of c.args.chunks.now c.args.at) (c.args.len - c.min-many.result) in
    c.compare_all.ensures
    ∙ ap (λ l. slice_cmp nat_cmp l rest) (rest_is c.args.bytes.now c.min-front.result (omega (arith, c.min-front.ensures)))
    ∙ sym (decides t b ∙ ap (λ o. ordering_then o (slice_cmp nat_cmp (drop c.min-front.result c.args.bytes.now) rest)) c.in-Equal.is)

pub returns-in_default : goal.returns-in_default
returns-in_default t c =
    let b = (goal.at.returns-in_default t c).After-compare_bytes in
    sym (decides t b ∙ stands c.compare_bytes.result _ c.in_default.not-Equal)
