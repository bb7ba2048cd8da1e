use Rattle.std.proofs.Common.{◌≡◌, ℕ, ◌-◌, List, length, take, drop, ap, sym, ◌∙◌, arith}
use Rattle.std.specs.Ordering.{nat_cmp}
use Rattle.std.specs.Cmp.Lexicographic.{slice_cmp}
use Rattle.entry_store.proofs.ChainLemmas.{rest_is}
use Rattle.entry_store.proofs.CompareLemmas.{by_fronts, cmp_decided, cmp_behind}
use Rattle.entry_store.proofs.chunks.+compare_bytes.Goals as goal
use Rattle.entry_store.proofs.chunks.+compare_bytes.Goals.{After-cmp-2}

decides : (t : ℕ) (c : After-cmp-2 t) → c.cmp-2.result ≡ slice_cmp nat_cmp (take 8 c.args.left.now) (take 8 c.args.right.now)
decides t c =
    by_fronts c.args.left.now c.args.right.now c.front.result c.front-2.result c.cmp-2.result
    (omega (arith, c.if-left-lt8.false)) (omega (arith, c.if-right-lt8.false)) c.front.ensures.in_range c.front-2.ensures.in_range c.front.ensures.number c.front-2.ensures.number c.cmp-2.ensures

pub returns-in-Equal : goal.returns-in-Equal
returns-in-Equal t c =
    c.compare_bytes.ensures
    ∙ ap (λ (l : List ℕ). slice_cmp nat_cmp l (take (length c.args.right.now - 8) (drop 8 c.args.right.now))) (rest_is c.args.left.now 8 (omega (arith, c.if-left-lt8.false)))
    ∙ ap (slice_cmp nat_cmp (drop 8 c.args.left.now)) (rest_is c.args.right.now 8 (omega (arith, c.if-right-lt8.false)))
    ∙ cmp_behind 8 c.args.left.now c.args.right.now (sym (decides t (goal.at.returns-in-Equal t c).After-cmp-2) ∙ c.in-Equal.is)

pub returns-in_default : goal.returns-in_default
returns-in_default t c =
    cmp_decided 8 c.args.left.now c.args.right.now c.cmp-2.result (decides t (goal.at.returns-in_default t c).After-cmp-2) c.in_default.not-Equal
