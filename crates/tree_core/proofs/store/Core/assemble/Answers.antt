use Rattle.std.proofs.Common.{ap, ◌∙◌, ◌+◌, ℕ}
use Rattle.catalog_swap.specs.declared.catalog.Catalog.{Catalog}
use Rattle.gear_sched.specs.Gears.{at_rest}
use Rattle.seat_book.specs.State.{opened_in}
use Rattle.tree_core.proofs.KeepLemmas.{few_at_first}
use Rattle.tree_core.proofs.OpeningSteps.{opened_core, opened_begins, opened_stands}
use Rattle.tree_core.proofs.store.Core.assemble.Goals as goal

pub invariant_of-result : goal.invariant_of-result
invariant_of-result g c =
    let parts = c.args.parts in (
      opened_core g.D.Disk.state parts.disk parts.runs parts.log parts.annals parts.holds c.new-gears.result c.open-book.result parts.settled c.requires.none c.requires.settled
          (c.new-gears.ensures ∙ ap at_rest c.geometry.ensures)
          (c.open-book.ensures ∙ ap (λ (n : Catalog). opened_in parts.annals (n.c1.weight + n.c2.weight) c.faults.result) c.catalogue-now.ensures ∙ ap (λ (n : ℕ). opened_in parts.annals (parts.runs.catalogue.c1.weight + parts.runs.catalogue.c2.weight) n) c.faults.ensures),
      few_at_first parts.runs.sizes parts.holds c.requires.none,
    )

pub returns-clause-begins : goal.returns-clause-begins
returns-clause-begins g c =
    let parts = c.args.parts in
    opened_begins g.D.Disk.state parts.disk parts.runs parts.log parts.annals parts.holds c.new-gears.result c.open-book.result parts.settled c.requires.none c.requires.settled
    (c.new-gears.ensures ∙ ap at_rest c.geometry.ensures)
    (c.open-book.ensures ∙ ap (λ (n : Catalog). opened_in parts.annals (n.c1.weight + n.c2.weight) c.faults.result) c.catalogue-now.ensures ∙ ap (λ (n : ℕ). opened_in parts.annals (parts.runs.catalogue.c1.weight + parts.runs.catalogue.c2.weight) n) c.faults.ensures)
    (g.met.D.Disk.timed parts.disk)

pub returns-clause-stands : goal.returns-clause-stands
returns-clause-stands g c = λ tree honest over a b.
    let parts = c.args.parts in
    opened_stands g.D.Disk.state parts.disk parts.runs parts.log parts.annals parts.holds c.new-gears.result c.open-book.result parts.settled c.requires.none c.requires.settled
    (c.new-gears.ensures ∙ ap at_rest c.geometry.ensures)
    (c.open-book.ensures ∙ ap (λ (n : Catalog). opened_in parts.annals (n.c1.weight + n.c2.weight) c.faults.result) c.catalogue-now.ensures ∙ ap (λ (n : ℕ). opened_in parts.annals (parts.runs.catalogue.c1.weight + parts.runs.catalogue.c2.weight) n) c.faults.ensures)
    tree over a b
