use Rattle.std.proofs.Common.{◌∙◌, List, ap, subst}
use Rattle.bloom_bits.specs.declared.fences.Fence.{Fence}
use Rattle.bloom_bits.specs.Parts.{last_fences}
use Rattle.tree_runs.specs.Runs.{RunsState, fences_of_tag, finished_by_pass, front_of}
use Rattle.tree_runs.specs.Holding.{PinsNamed}
use Rattle.tree_runs.proofs.GuideLemmas.{guide_named}
use Rattle.tree_runs.proofs.NamedPins.{PinsTwo, parts_pinned}
use Rattle.tree_runs.proofs.runs.Runs.pin_parts.Goals as goal

pub returns-clause-pins : goal.returns-clause-pins
returns-clause-pins c =
    let runs = c.args.self.now in
    let seat = c.args.seat in
    let front = c.args.front.now in
    let c1 = c.args.c1.now in
    let two = c.pin_two.new.self in
    let mid = c.pin_named.new.space in
    let had = ap (λ (s : RunsState). s.guides) c.self.view_is in
    let of_pass = guide_named c.requires.guides had c.number.ensures.number c.number.ensures.in_range c.guide.view_is c.index-guide.ensures in
    let of_c1 = guide_named c.requires.guides had c.number-2.ensures.number c.number-2.ensures.in_range c.guide-2.view_is c.index-guide-2.ensures in
    let first = subst (λ (s : RunsState). PinsTwo seat s.tags.c1x s.tags.c2 s.space two) c.self.view_is (record {
      others = c.pin_two.ensures.others;
      roles = c.pin_two.ensures.roles;
      pages = c.pin_two.ensures.pages;
      pinned = c.pin_two.ensures.pinned;
      freed = c.pin_two.ensures.freed;
      size = c.pin_two.ensures.size;
    }) in
    let second = subst (λ (s : RunsState). PinsNamed seat s.tags.pass (last_fences (front_of (finished_by_pass runs.pass)) front (fences_of_tag runs s.tags.pass).list) two mid) c.self.view_is
    (subst (λ (fences : List Fence). PinsNamed seat c.self.inside.pass fences two mid)
    (c.last_of.ensures.fences ∙ (λ i. last_fences (c.front-finished.ensures.front i) front (of_pass i).fences.list)) c.pin_named.ensures) in
    let third = subst (λ (s : RunsState). PinsNamed seat s.tags.c1 (last_fences s.catalogue.c1 c1 (fences_of_tag runs s.tags.c1).list) mid c.pin_named-2.new.space) c.self.view_is
    (subst (λ (fences : List Fence). PinsNamed seat c.self.inside.c1 fences mid c.pin_named-2.new.space)
    (c.last_of-2.ensures.fences ∙ (λ i. last_fences c.self.inside.catalogue.c1 c1 (of_c1 i).fences.list)) c.pin_named-2.ensures) in
    parts_pinned runs seat front c1 two mid c.pin_named-2.new.space first second third
