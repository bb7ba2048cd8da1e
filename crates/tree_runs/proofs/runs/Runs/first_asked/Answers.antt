use Rattle.std.proofs.Common.{◌≡◌, ◌∙◌, ap, cond, sym, subst}
use Rattle.tree_runs.specs.Lookups.{first_run, first_tag}
use Rattle.tree_runs.specs.Runs.{RunsState, finished_by_pass, front_of}
use Rattle.tree_runs.proofs.runs.Runs.first_asked.Goals as goal

pub returns-then-is_above-clause-run : goal.returns-then-is_above-clause-run
returns-then-is_above-clause-run c =
    subst (λ (s : RunsState). c.self.inside.catalogue.c1 ≡ first_run c.args.floor.now c.args.key.now s) c.self.view_is
    (sym (ap (λ b. cond b c.self.inside.catalogue.c1 (front_of (finished_by_pass c.self.inside.merges.value.pass)))
    (sym c.is_above.ensures ∙ c.if-is_above.true)))

pub returns-then-is_above-clause-role : goal.returns-then-is_above-clause-role
returns-then-is_above-clause-role c =
    subst (λ (s : RunsState). c.self.inside.c1 ≡ first_tag c.args.floor.now c.args.key.now s) c.self.view_is
    (sym (ap (λ b. cond b c.self.inside.c1 c.self.inside.pass) (sym c.is_above.ensures ∙ c.if-is_above.true)))

pub returns-else-is_above-clause-run : goal.returns-else-is_above-clause-run
returns-else-is_above-clause-run c =
    c.front.ensures.front
    ∙ sym (ap (λ b. cond b c.args.self.now.catalogue.c1 (front_of (finished_by_pass c.args.self.now.pass)))
    (sym c.is_above.ensures ∙ c.if-is_above.false))

pub returns-else-is_above-clause-role : goal.returns-else-is_above-clause-role
returns-else-is_above-clause-role c =
    subst (λ (s : RunsState). c.self.inside.pass ≡ first_tag c.args.floor.now c.args.key.now s) c.self.view_is
    (sym (ap (λ b. cond b c.self.inside.c1 c.self.inside.pass) (sym c.is_above.ensures ∙ c.if-is_above.false)))
