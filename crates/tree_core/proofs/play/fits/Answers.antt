use Rattle.std.proofs.Common.{◌∙◌, ap, sym}
use Rattle.tree_machine.specs.declared.step.Kind.{Kind}
use Rattle.tree_core.specs.Steps.{admits_fit}
use Rattle.tree_core.proofs.PlayLemmas.{fit_as}
use Rattle.tree_core.proofs.play.fits.Goals as goal

pub returns-in-Admit : goal.returns-in-Admit
returns-in-Admit c = fit_as c.in-Admit.op c.fits.result c.fits.ensures ∙ ap (λ (k : Kind). admits_fit k) (sym c.in-Admit.is)
