use Rattle.std.proofs.Common.{rules, ◌≡◌, subst}
use Rattle.bloom_bits.specs.Parts.{IsPartFrom}
use Rattle.tree_runs.specs.Runs.{GuideState}
use Rattle.tree_runs.proofs.GuideLemmas.{guide_named}
use Rattle.tree_runs.proofs.runs.Runs.part_from.Goals as goal

pub returns : goal.returns
returns c =
    let had : c.self.inside.guides.items ≡ c.args.self.now.guides = search rules in
    let was = guide_named c.requires had c.number.ensures.number c.number.ensures.in_range c.guide.view_is c.index-guide.ensures in
    subst (λ (g : GuideState). IsPartFrom c.args.low.now g.fences.list c.args.run.now c.part_from.result) was c.part_from.ensures.part
