use Rattle.std.proofs.Common.{◌∙◌, ◌+◌, ℕ, inl, inr, ⊎_elim, ap, arith}
use Rattle.page_space.specs.PageSet.{Members, size}
use Rattle.page_space.specs.Space.{pages_with}
use Rattle.page_space.proofs.SizeLemmas.{size-union_le, union_twice}
use Rattle.page_space.proofs.space.Space.pin_two.Goals as goal

pub returns-clause-this : goal.returns-clause-this
returns-clause-this c = c.pin.ensures.this ∙ union_twice (pages_with c.args.self.now c.args.one) (pages_with c.args.self.now c.args.other)

pub returns-clause-pinned : goal.returns-clause-pinned
returns-clause-pinned c = λ page. (
  λ pinned. ⊎_elim inl (λ others. others) ((c.pin.ensures.pinned page).0 pinned),
  λ has. (c.pin.ensures.pinned page).1 (inr has),
)

pub returns-clause-size : goal.returns-clause-size
returns-clause-size c =
    let one = pages_with c.args.self.now c.args.one in
    let other = pages_with c.args.self.now c.args.other in
    omega (arith, ap {B = ℕ} (λ (set : Members). size set) (returns-clause-this c), size-union_le one other)
