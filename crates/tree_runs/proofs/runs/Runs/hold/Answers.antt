use Rattle.std.proofs.Common.{◌∙◌, ◌+◌, ◌≤◌, Option, ap, sym, subst}
use Rattle.blsm_model.specs.declared.key.Key.{Key}
use Rattle.catalog_swap.specs.declared.catalog.Catalog.{Catalog}
use Rattle.bloom_bits.specs.Parts.{IsPartFrom}
use Rattle.record_delta.specs.Entries.{above, replayed}
use Rattle.page_file.specs.Component.{ReadsAs, entries_of}
use Rattle.page_file.proofs.OrderLemmas.{orders}
use Rattle.scan_view.specs.Hold.{HoldState}
use Rattle.scan_view.specs.Told.{Contents}
use Rattle.tree_runs.specs.Runs.{RunsState, AreRunning, fences_of_tag, guide_at, hold_share}
use Rattle.tree_runs.specs.Holding.{AreOf, IsHeldFrom, PinsFor}
use Rattle.tree_runs.specs.Lookups.{IsFloorOf}
use Rattle.tree_runs.proofs.FloorLemmas.{front_part, older_part, read_sources}
use Rattle.tree_runs.proofs.HoldLemmas.{running_repinned, lists_repinned, rows_pinned, sources_keep, sources_pinned, sources_repinned}
use Rattle.tree_runs.proofs.PartLemmas.{few_held, front_few_pages, front_paged, has_rest, older_paged, part_paged, sources_few}
use Rattle.tree_runs.proofs.runs.Runs.hold.Goals as goal
use Rattle.tree_runs.proofs.runs.Runs.hold.Goals.{After-pin_for}

pub build-requires-clause-front : goal.build-requires-clause-front
build-requires-clause-front c = front_paged c.args.self.now c.floor-floor.result.now c.args.low.now c.front_from-front.result c.front_from-front.ensures.from

pub build-requires-clause-c1 : goal.build-requires-clause-c1
build-requires-clause-c1 c = older_paged c.args.self.now c.floor-floor.result.now c.args.low.now c.older_from-c1.result c.older_from-c1.ensures c.requires.runs.c1.filled.none

pub build-requires-clause-c1x : goal.build-requires-clause-c1x
build-requires-clause-c1x c =
    part_paged (subst (λ (s : RunsState). IsPartFrom c.args.low.now (fences_of_tag c.args.self.now s.tags.c1x).list s.catalogue.c1x c.part_from-c1x.result) c.self.view_is c.part_from-c1x.ensures) c.requires.runs.c1x.filled.none

pub build-requires-clause-c2 : goal.build-requires-clause-c2
build-requires-clause-c2 c =
    part_paged (subst (λ (s : RunsState). IsPartFrom c.args.low.now (fences_of_tag c.args.self.now s.tags.c2).list s.catalogue.c2 c.part_from-c2.result) c.self.view_is c.part_from-c2.ensures) c.requires.runs.c2.filled.none

-- the parts, as the fences name them
of_c1x : (c : goal.After-pin_for) → IsPartFrom c.args.low.now (fences_of_tag c.args.self.now c.args.self.now.tags.c1x).list c.args.self.now.catalogue.c1x c.part_from-c1x.result
of_c1x c = subst (λ (s : RunsState). IsPartFrom c.args.low.now (fences_of_tag c.args.self.now s.tags.c1x).list s.catalogue.c1x c.part_from-c1x.result) c.self.view_is c.part_from-c1x.ensures

of_c2 : (c : goal.After-pin_for) → IsPartFrom c.args.low.now (fences_of_tag c.args.self.now c.args.self.now.tags.c2).list c.args.self.now.catalogue.c2 c.part_from-c2.result
of_c2 c = subst (λ (s : RunsState). IsPartFrom c.args.low.now (fences_of_tag c.args.self.now s.tags.c2).list s.catalogue.c2 c.part_from-c2.result) c.self.view_is c.part_from-c2.ensures

-- they have no more pages than a seat may pin, with all of C1' and of C2
few : (c : goal.After-pin_for) → c.front_from-front.result.pages + c.older_from-c1.result.pages + c.args.self.now.catalogue.c1x.pages + c.args.self.now.catalogue.c2.pages ≤ hold_share c.args.self.now.sizes
few c =
    sources_few c.args.self.now c.args.a.now.entries c.floor-floor.result.now c.args.low.now c.front_from-front.result c.older_from-c1.result c.requires.runs c.requires.fits
    c.front_from-front.ensures.from c.front_from-front.ensures.full c.older_from-c1.ensures

pub returns-clause-pins : goal.returns-clause-pins
returns-clause-pins c =
    let keeps = sources_keep c.floor-floor.result.now c.args.seat c.front_from-front.result c.older_from-c1.result c.args.self.now c.pin_for.new.self.space c.pin_for.ensures.pins in
    record { rest = c.pin_for.ensures.rest; others = keeps.others; roles = keeps.roles; pages = keeps.pages }

pub returns-clause-running : goal.returns-clause-running
returns-clause-running c = λ honest file running.
    let arm = (goal.at.returns-clause-running c).After-pin_for in
    subst (λ (s : RunsState). AreRunning honest file s) (sym c.pin_for.ensures.rest)
    (running_repinned c.args.self.now c.pin_for.new.self.space
    (sources_repinned c.args.self.now c.pin_for.new.self.space c.args.seat c.args.a.now.entries c.floor-floor.result.now c.front_from-front.result c.older_from-c1.result
    c.requires.runs c.requires.fits c.pin_for.ensures.pins
    (front_few_pages c.args.self.now c.floor-floor.result.now c.args.low.now c.front_from-front.result c.front_from-front.ensures.from) (few arm) honest file running)
    honest file running)

pub returns-clause-lists : goal.returns-clause-lists
returns-clause-lists c = λ tree file of.
    let keeps = sources_keep c.floor-floor.result.now c.args.seat c.front_from-front.result c.older_from-c1.result c.args.self.now c.pin_for.new.self.space c.pin_for.ensures.pins in
    subst (λ (s : RunsState). AreOf s tree file) (sym c.pin_for.ensures.rest) (lists_repinned c.args.self.now c.pin_for.new.self.space keeps.roles tree file of)

pub returns-clause-rows : goal.returns-clause-rows
returns-clause-rows c = λ tree file of floor rest.
    let arm = (goal.at.returns-clause-rows c).After-pin_for in
    let runs = c.args.self.now in
    let low = c.args.low.now in
    let at = c.floor-floor.result.now in
    let same = c.floor-floor.ensures.floor in
    let released = subst (λ (k : Option Key). IsFloorOf k runs tree file) (sym same) floor in
    let zero = front_part runs tree file at low c.front_from-front.result c.requires.runs.pass_tag released c.front_from-front.ensures.from in
    let one = older_part runs tree file c.requires.runs of at low c.older_from-c1.result released c.older_from-c1.ensures in
    let two = has_rest runs.sizes low (guide_at runs.guides runs.tags.c1x) runs.catalogue.c1x c.part_from-c1x.result tree.c1x file (of_c1x arm) of.guided.c1x
    (subst (λ (k : Catalog). ReadsAs runs.sizes k.c1x tree.c1x file) of.catalogue of.holds.c1x) in
    let three = has_rest runs.sizes low (guide_at runs.guides runs.tags.c2) runs.catalogue.c2 c.part_from-c2.result tree.c2 file (of_c2 arm) of.guided.c2
    (subst (λ (k : Catalog). ReadsAs runs.sizes k.c2 tree.c2 file) of.catalogue of.holds.c2) in
    let lists : Contents = record { front = zero.entries; c1 = one.entries; c1x = two.rest; c2 = three.rest } in
    let left = rest ∙ ap (λ (k : Option Key). above k (replayed tree.lane_a.entries)) (sym same) in
    let has = c.in_ok-hold.ensures.rows runs.sizes lists (replayed tree.lane_a.entries) (entries_of tree.c1) (entries_of tree.c1x) (entries_of tree.c2) file zero.list one.list
    two.list three.list
    (λ sorted. read_sources runs tree file at low c.args.high.now c.args.a.now.entries c.front_from-front.result c.older_from-c1.result left
    ((orders (entries_of tree.c1)).0 of.holds.c1.rise) zero one) two.is_rest three.is_rest in
    rows_pinned runs.sizes c.pin_for.new.self.space.pins c.args.seat _ file _ c.in_ok-hold.hold (has.0, has.1)
    (sources_pinned runs c.pin_for.new.self.space c.args.seat at low c.front_from-front.result c.older_from-c1.result c.front_from-front.ensures.from c.pin_for.ensures.pins
    _ _ _ _ zero.named one.named (λ n among. of.c1x n (two.among n among)) (λ n among. of.c2 n (three.among n among)))

pub returns-clause-hold : goal.returns-clause-hold
returns-clause-hold c =
    let arm = (goal.at.returns-clause-hold c).After-pin_for in
    subst (λ (k : Option Key). IsHeldFrom c.args.self.now k c.args.low.now c.args.high.now c.args.b.now.entries c.args.a.now.entries c.in_ok-hold.hold) c.floor-floor.ensures.floor
    (record {
      front = c.front_from-front.result;
      c1 = c.older_from-c1.result;
      c1x = c.part_from-c1x.result;
      c2 = c.part_from-c2.result;
      of_front = c.front_from-front.ensures.from;
      of_c1 = c.older_from-c1.ensures;
      of_c1x = of_c1x arm;
      of_c2 = of_c2 arm;
      hold_is = c.in_ok-hold.ensures.hold;
    })

pub returns-clause-exact : goal.returns-clause-exact
returns-clause-exact c =
    let is = c.in_ok-hold.ensures.hold in
    subst (λ (k : Option Key). PinsFor k c.args.seat c.in_ok-hold.hold.front c.in_ok-hold.hold.c1 c.args.self.now c.pin_for.new.self.space) c.floor-floor.ensures.floor
    (subst (λ (h : HoldState). PinsFor c.floor-floor.result.now c.args.seat h.front h.c1 c.args.self.now c.pin_for.new.self.space) (sym is) c.pin_for.ensures.pins)

pub returns-clause-few : goal.returns-clause-few
returns-clause-few c =
    let arm = (goal.at.returns-clause-few c).After-pin_for in
    few_held c.args.self.now c.floor-floor.result.now c.args.low.now c.args.high.now c.args.b.now.entries c.args.a.now.entries c.front_from-front.result c.older_from-c1.result
    c.part_from-c1x.result c.part_from-c2.result c.in_ok-hold.hold c.in_ok-hold.ensures.hold (of_c1x arm) (of_c2 arm) (few arm)
