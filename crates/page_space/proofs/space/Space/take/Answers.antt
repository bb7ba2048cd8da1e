use Rattle.std.proofs.Common.{sym, subst}
use Rattle.page_space.specs.Space.{SpaceState, NoneFreeBelow}
use Rattle.page_space.proofs.space.Space.take.Goals as goal

pub invariant_of-self : goal.invariant_of-self
invariant_of-self c = (c.self.invariant.0, subst (λ (space : SpaceState). NoneFreeBelow space c.in-Some.page) (sym c.self.view_is) c.in-Some.ensures.least.least)
