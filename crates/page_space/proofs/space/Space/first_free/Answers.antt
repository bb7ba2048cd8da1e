use Rattle.std.proofs.Common.{◌<◌, sym, subst, ap, ◌∙◌, below_more, arith}
use Rattle.std.proofs.lemmas.Bool.{false≢true}
use Rattle.page_space.specs.Space.{SpaceState, NoneFreeBelow}
use Rattle.page_space.proofs.space.Space.first_free.Goals as goal

pub loop-page-init : goal.loop-page-init
loop-page-init c = subst (λ (space : SpaceState). NoneFreeBelow space c.self.inside.in_use_below) c.self.view_is c.self.invariant.1

pub loop-page-preserved : goal.loop-page-preserved
loop-page-preserved c = below_more _ _ c.loop-page.invariant (λ free. false≢true (sym c.if-is_free.false ∙ c.is_free.ensures.1 free))

pub returns-clause-none : goal.returns-clause-none
returns-clause-none c = λ some. let below : some.0 < c.loop-page.page = omega (arith, some.1.in_range, ap (λ (space : SpaceState). space.pages) c.self.view_is) in c.loop-page.invariant some.0 below some.1
