use Rattle.std.proofs.Common.{◌≡◌, ◌∙◌, ◌-◌, ◌+◌, ◌<◌, suc, ℕ, ap, sym, subst, arith}
use Rattle.std.specs.Ordering.{is_le}
use Rattle.std.proofs.lemmas.Bool.{false≢true, eqb-true, eq-eqb}
use Rattle.page_file.specs.Entry.{AreInBytes}
use Rattle.page_file.proofs.EntryLemmas.{above, not_above, none_first, rest_has, more_has, none_left, left_none}
use Rattle.page_file.proofs.entry.are_entries.Goals as goal

-- one entry more is wanted
one_left : (count counter : ℕ) → counter < count → count - counter ≡ suc (count - (counter + 1))
one_left count counter below = omega arith

pub returns-in_default : goal.returns-in_default
returns-in_default c =
    let left = one_left c.args.count c.loop.counter c.loop-test.true in (
      λ wrong. absurd (false≢true wrong),
      λ has. absurd (none_first c.loop.last.now c.loop.rest.now _ c.in_default.ensures.none
          (subst (λ (n : ℕ). AreInBytes c.loop.last.now n c.loop.rest.now) left (c.loop.invariant.0 has))),
    )

pub returns-then-is_le : goal.returns-then-is_le
returns-then-is_le c =
    let left = one_left c.args.count c.loop.counter c.loop-test.true in (
      λ wrong. absurd (false≢true wrong),
      λ has. absurd (not_above c.loop.last.now c.in-Some.key.now (ap is_le (sym c.cmp.ensures) ∙ sym c.is_le.ensures ∙ c.if-is_le.true)
          (rest_has c.loop.last.now c.loop.rest.now c.in-Some.key.now c.in-Some.behind.now _ c.in-Some.ensures.found
          (subst (λ (n : ℕ). AreInBytes c.loop.last.now n c.loop.rest.now) left (c.loop.invariant.0 has))).0),
    )

pub loop-preserved : goal.loop-preserved
loop-preserved c =
    let left = one_left c.args.count c.loop.counter c.loop-test.true in
    let last = c.loop.last.now in
    let rest = c.loop.rest.now in
    let key = c.in-Some.key.now in
    let behind = c.in-Some.behind.now in (
      λ has. (rest_has last rest key behind _ c.in-Some.ensures.found (subst (λ (n : ℕ). AreInBytes last n rest) left (c.loop.invariant.0 has))).1,
      λ has. c.loop.invariant.1 (subst (λ (n : ℕ). AreInBytes last n rest) (sym left)
          (more_has last rest key behind _ c.in-Some.ensures.found (above last key (ap is_le (sym c.cmp.ensures) ∙ sym c.is_le.ensures ∙ c.if-is_le.false)) has)),
    )

pub returns : goal.returns
returns c =
    let done : c.args.count - c.loop.counter ≡ 0 = omega (arith, c.loop-test.false) in
    let last = c.loop.last.now in
    let rest = c.loop.rest.now in (
      λ empty. c.loop.invariant.1 (subst (λ (n : ℕ). AreInBytes last n rest) (sym done) (none_left last rest (eqb-true _ 0 (sym c.is_empty.ensures ∙ empty)))),
      λ has. c.is_empty.ensures ∙ eq-eqb _ 0 (left_none last rest (subst (λ (n : ℕ). AreInBytes last n rest) done (c.loop.invariant.0 has))),
    )
