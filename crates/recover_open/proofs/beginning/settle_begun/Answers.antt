use Rattle.std.proofs.Common.{ap, refl}
use Rattle.catalog_swap.specs.declared.catalog.Catalog.{Catalog}
use Rattle.recover_open.proofs.beginning.settle_begun.Goals as goal

pub returns-in-Err-Damaged-clause-why : goal.returns-in-Err-Damaged-clause-why
returns-in-Err-Damaged-clause-why g c = λ pairs honest shows.
    let done = c.in-Err-Damaged.ensures.step.ends pairs honest shows (λ wrong. cc) in
    absurd cc

pub returns-in-Ok-clause-faults : goal.returns-in-Ok-clause-faults
returns-in-Ok-clause-faults g c = record { stands = λ other. c.settle.ensures.step.faults.stands (λ same. absurd cc); failed = λ same. absurd cc }

pub returns-in-Err-Damaged-clause-faults : goal.returns-in-Err-Damaged-clause-faults
returns-in-Err-Damaged-clause-faults g c = record { stands = λ other. c.settle.ensures.step.faults.stands (λ same. absurd cc); failed = λ same. absurd cc }

pub returns-clause-faults : goal.returns-clause-faults
returns-clause-faults g c = record { stands = λ other. absurd (other refl); failed = λ same. c.settle.ensures.step.faults.failed cc }

pub returns-in-Ok-clause-counts : goal.returns-in-Ok-clause-counts
returns-in-Ok-clause-counts g c = (c.in-Ok.ensures.counts, refl, ap (λ (k : Catalog). k.version) c.catalogue.ensures)
