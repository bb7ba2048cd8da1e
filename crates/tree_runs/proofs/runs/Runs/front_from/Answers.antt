use Rattle.std.proofs.Common.{◌∙◌, inr, sym, subst}
use Rattle.blsm_model.specs.declared.component.Component.{Component}
use Rattle.bloom_bits.specs.Parts.{IsPartFrom}
use Rattle.tree_runs.specs.Runs.{RunsState, fences_of_tag, finished_by_pass, front_of}
use Rattle.tree_runs.proofs.runs.Runs.front_from.Goals as goal

pub returns-clause-from : goal.returns-clause-from
returns-clause-from c =
    let low = c.args.low.now in
    let runs = c.args.self.now in
    let part = c.part_from.result in
    inr (
      sym c.is_above.ensures ∙ c.if-is_above.false,
      subst (λ (s : RunsState). IsPartFrom low (fences_of_tag runs s.tags.pass).list (front_of (finished_by_pass runs.pass)) part) c.self.view_is
          (subst (λ (run : Component). IsPartFrom low (fences_of_tag runs c.self.inside.pass).list run part) c.front.ensures.front c.part_from.ensures),
    )
