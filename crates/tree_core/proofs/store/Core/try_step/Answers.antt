use Rattle.std.proofs.Common.{◌∙◌, List, [], ◌∷◌, Bool, ap, cond, subst, sym}
use Rattle.tree_machine.specs.declared.step.Step.{Step}
use Rattle.tree_core.specs.Steps.{IsPlayed}
use Rattle.tree_core.proofs.PlayLemmas.{none_is_played, passed_is_played}
use Rattle.tree_core.proofs.store.Core.try_step.Goals as goal

pub returns-then-not-fits-clause-played : goal.returns-then-not-fits-clause-played
returns-then-not-fits-clause-played g c = λ opening m honest whole.
    subst (λ (steps : List Step). IsPlayed g.D.Disk.state opening steps c.args.self.now c.args.self.now m)
    (ap (λ (b : Bool). cond b (c.args.step.now ∷ []) []) (sym (sym c.fits.ensures ∙ c.if-not-fits.true)))
    (none_is_played g.D.Disk.state opening c.args.self.now m (g.met.D.Disk.timed c.args.self.now.disk) whole)

pub returns-else-may-clause-played : goal.returns-else-may-clause-played
returns-else-may-clause-played g c = λ opening m honest whole.
    subst (λ (steps : List Step). IsPlayed g.D.Disk.state opening steps c.args.self.now c.args.self.now m)
    (ap (λ (b : Bool). cond b (c.args.step.now ∷ []) []) (sym (sym c.fits.ensures ∙ c.if-not-fits.false)))
    (passed_is_played g.D.Disk.state opening c.args.step.now c.args.self.now m (g.met.D.Disk.timed c.args.self.now.disk) (sym c.may.ensures ∙ c.if-may.false) whole)

pub returns-then-may-clause-played : goal.returns-then-may-clause-played
returns-then-may-clause-played g c = λ opening m honest whole.
    subst (λ (steps : List Step). IsPlayed g.D.Disk.state opening steps c.args.self.now c.step.new.self m)
    (ap (λ (b : Bool). cond b (c.args.step.now ∷ []) []) (sym (sym c.fits.ensures ∙ c.if-not-fits.false)))
    (c.step.ensures.played opening m honest whole)
