use Rattle.std.proofs.Common.{◌∙◌, not, Some, ap, sym, subst}
use Rattle.blsm_model.specs.declared.component.Component.{Component}
use Rattle.bloom_bits.specs.Parts.{IsPartFrom}
use Rattle.tree_runs.specs.declared.runs.Merges.{Merges}
use Rattle.tree_runs.specs.Runs.{RunsState, fences_of_tag}
use Rattle.tree_runs.specs.Holding.{later_part}
use Rattle.tree_runs.proofs.PartLemmas.{behind_floor, behind_no_pass, behind_none}
use Rattle.tree_runs.proofs.runs.Runs.older_from.Goals as goal

pub returns-then-is_none : goal.returns-then-is_none
returns-then-is_none c =
    let part = c.part_from-part.result in (
      part,
      subst (λ (s : RunsState). IsPartFrom c.args.low.now (fences_of_tag c.args.self.now s.tags.c1).list s.catalogue.c1 part) c.self.view_is c.part_from-part.ensures,
      ap (later_part part) (sym (behind_none c.args.floor.now c.args.self.now.pass (c.is_none.ensures ∙ ap not c.if-is_none.true))),
    )

pub returns-in-Some : goal.returns-in-Some
returns-in-Some c =
    let part = c.part_from-part.result in (
      part,
      subst (λ (s : RunsState). IsPartFrom c.args.low.now (fences_of_tag c.args.self.now s.tags.c1).list s.catalogue.c1 part) c.self.view_is c.part_from-part.ensures,
      c.later_part.ensures
          ∙ ap (λ (behind : Component). later_part part (Some behind)) c.behind.ensures
          ∙ ap (later_part part) (sym (behind_floor c.args.floor.now c.args.self.now.pass c.in-Some.snow (c.is_none.ensures ∙ ap not c.if-is_none.false)
          (sym (ap (λ (s : RunsState). s.pass) c.self.view_is) ∙ sym (ap (λ (m : Merges). m.pass) c.deref.ensures) ∙ c.in-Some.is))),
    )

pub returns-in-None : goal.returns-in-None
returns-in-None c =
    let part = c.part_from-part.result in (
      part,
      subst (λ (s : RunsState). IsPartFrom c.args.low.now (fences_of_tag c.args.self.now s.tags.c1).list s.catalogue.c1 part) c.self.view_is c.part_from-part.ensures,
      ap (later_part part)
          (sym (behind_no_pass c.args.floor.now c.args.self.now.pass
          (sym (ap (λ (s : RunsState). s.pass) c.self.view_is) ∙ sym (ap (λ (m : Merges). m.pass) c.deref.ensures) ∙ c.in-None.is))),
    )
