use Rattle.std.proofs.Common.{◌≡◌, ◌≢◌, length, take, ap, sym, ◌∙◌, arith}
use Rattle.std.specs.Ordering.{nat_cmp}
use Rattle.std.specs.Cmp.Lexicographic.{slice_cmp}
use Rattle.std.specs.Cmp.{nat_cmp_is}
use Rattle.std.specs.declared.cmp.Ordering.{Ordering}
use Rattle.std.specs.declared.cmp.Ordering.TheVariants.{Less, Equal, Greater}
use Rattle.entry_store.specs.Chains.{chunks_for, chunk_at, text_of}
use Rattle.entry_store.proofs.ChainLemmas.{first_inside}
use Rattle.entry_store.proofs.CompareLemmas.{by_fronts, cmp_decided, text_front}
use Rattle.entry_store.proofs.chunks.compare.Goals as goal
use Rattle.entry_store.proofs.chunks.compare.Goals.{After-front-other}

pub bounds-chunks-at : goal.bounds-chunks-at
bounds-chunks-at c = first_inside c.args.len c.args.chunks.now c.args.at (omega (arith, c.if-len-lt8.false)) c.requires.inside

decided : (c : After-front-other) (o : Ordering) → o ≡ nat_cmp c.front-mine.result c.front-other.result → o ≢ Equal → o ≡ slice_cmp nat_cmp c.args.bytes.now (text_of (chunks_for c.args.len) c.args.chunks.now c.args.at c.args.len)
decided c o is differs =
    let long : length (chunk_at c.args.chunks.now c.args.at).bytes ≡ 16 = c.requires.full c.args.at (first_inside c.args.len c.args.chunks.now c.args.at (omega (arith, c.if-len-lt8.false)) c.requires.inside) in
    cmp_decided 8 c.args.bytes.now (text_of (chunks_for c.args.len) c.args.chunks.now c.args.at c.args.len) o
    (by_fronts c.args.bytes.now (chunk_at c.args.chunks.now c.args.at).bytes c.front-mine.result c.front-other.result o
    (omega (arith, c.if-bytes-lt8.false)) (omega (arith, long)) c.front-mine.ensures.in_range c.front-other.ensures.in_range c.front-mine.ensures.number c.front-other.ensures.number is
    ∙ ap (slice_cmp nat_cmp (take 8 c.args.bytes.now)) (sym (text_front c.args.chunks.now c.args.at c.args.len (omega (arith, c.if-len-lt8.false)) long)))
    differs

pub returns-then-mine-other : goal.returns-then-mine-other
returns-then-mine-other c =
    decided (goal.at.returns-then-mine-other c).After-front-other Less (nat_cmp_is c.front-mine.result c.front-other.result Less c.if-mine-other.true) (λ is. absurd cc)

pub returns-then-mine-other-2 : goal.returns-then-mine-other-2
returns-then-mine-other-2 c =
    decided (goal.at.returns-then-mine-other-2 c).After-front-other Greater (nat_cmp_is c.front-mine.result c.front-other.result Greater c.if-mine-other-2.true) (λ is. absurd cc)
