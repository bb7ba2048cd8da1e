use Rattle.std.specs.Prelude.{◌≡◌, ℕ, ◌+◌, ◌≤◌, List, [], ◌∷◌, ◌++◌, IsTrue, suc, take, length, slice_index_or}
use Rattle.std.proofs.Common.{◌∙◌, ap, sym, subst, arith}
use Rattle.std.proofs.Math.Seq.{take-suc, take-length}
use Rattle.std.proofs.lemmas.List.Elements.{filter-append}
use Rattle.disk_trait.proofs.MomentLemmas.{goes_on_start, goes_on_run}
use Rattle.tree_machine.specs.declared.step.Step.{Step}
use Rattle.tree_core.specs.Steps.{IsPlayed, admits_fit, those_that_fit}
use Rattle.tree_core.proofs.PlayLemmas.{none_is_played, both_are_played}
use Rattle.tree_core.proofs.store.Core.play.Goals as goal

one_more : (steps : List Step) (i : ℕ) (step : Step) → i + 1 ≤ length steps → step ≡ slice_index_or steps i step → take (i + 1) steps ≡ take i steps ++ step ∷ []
one_more steps i step within is =
    let next : i + 1 ≡ suc i = omega arith in
    ap (λ (n : ℕ). take n steps) next ∙ take-suc steps i step (omega (arith, within)) ∙ ap (λ (s : Step). take i steps ++ s ∷ []) (sym is)

fit_more : (steps : List Step) (i : ℕ) (step : Step) → i + 1 ≤ length steps → step ≡ slice_index_or steps i step
    → those_that_fit (take (i + 1) steps) ≡ those_that_fit (take i steps) ++ those_that_fit (step ∷ [])
fit_more steps i step within is =
    ap those_that_fit (one_more steps i step within is) ∙ filter-append (λ (step : Step). admits_fit step.kind) (take i steps) (step ∷ [])

pub loop-step-init : goal.loop-step-init
loop-step-init g c = record {
  played = λ opening m honest whole. none_is_played g.D.Disk.state opening c.args.self.now m (g.met.D.Disk.timed c.args.self.now.disk) whole;
  lasts = λ start since. since;
  goes_on = goes_on_start (g.D.Disk.state c.args.self.now.disk);
}

pub loop-step-preserved : goal.loop-step-preserved
loop-step-preserved g c = record {
  played = λ opening m honest whole.
      let one = c.loop-step.invariant.played opening m honest whole in
      let two = c.try_step.ensures.played opening _ (subst IsTrue (sym c.loop-step.invariant.goes_on.is_honest) honest) one.stands in
      subst (λ (steps : List Step). IsPlayed g.D.Disk.state opening steps c.args.self.now c.try_step.new.self m)
      (sym (fit_more c.args.steps.now c.loop-step.step-index c.step-item.result (omega (arith, c.loop-step-test.true)) c.step-item.is))
      (both_are_played g.D.Disk.state opening (those_that_fit (take c.loop-step.step-index c.args.steps.now)) (those_that_fit (c.step-item.result ∷ [])) c.args.self.now c.loop-step.self c.try_step.new.self m one two);
  lasts = λ start since. c.try_step.ensures.lasts start (c.loop-step.invariant.lasts start since);
  goes_on = goes_on_run c.loop-step.invariant.goes_on c.try_step.ensures.goes_on;
}

pub returns-clause-played : goal.returns-clause-played
returns-clause-played g c = λ opening m honest whole.
    let all : c.loop-step.step-index ≡ length c.args.steps.now = omega (arith, c.loop-step-test.false, c.loop-step.auto.step-index-end) in
    subst (λ (steps : List Step). IsPlayed g.D.Disk.state opening steps c.args.self.now c.loop-step.self m)
    (ap those_that_fit (ap (λ (n : ℕ). take n c.args.steps.now) all ∙ take-length c.args.steps.now)) (c.loop-step.invariant.played opening m honest whole)
