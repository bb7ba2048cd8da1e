use Rattle.std.specs.Prelude.{ℕ}
use Rattle.std.proofs.Common.{ap, refl, subst, ◌∙◌}
use Rattle.blsm_model.specs.Book.{Book}
use Rattle.blsm_model.specs.declared.history.Totals.{Totals}
use Rattle.store_run.specs.declared.run.Ending.{Ending}
use Rattle.store_run.specs.declared.run.Ending.TheVariants.{Well, Faulted, Damaged}
use Rattle.store_run.specs.Run.{IsEnding}
use Rattle.store_run.proofs.RunLemmas.{run_is, run_with}
use Rattle.store_run.proofs.run.finish.Goals as goal

pub returns-clause-finished : goal.returns-clause-finished
returns-clause-finished g c =
    run_is c.args.charge c.args.charge c.end-disk.result.1 c.end-disk.result.2 c.resident-resident.result c.args.core.held refl
    c.end-disk.ensures.annals c.end-disk.ensures.totals c.resident-resident.ensures.held

-- neither the charge nor what is held counts for it
ending_with : (ended : Ending) (charge : ℕ) (annals : Book) (totals : Totals) (resident faults : ℕ)
    → IsEnding ended (run_with 0 annals totals 0) faults
    → IsEnding ended (run_with charge annals totals resident) faults
ending_with Well charge annals totals resident faults is = is
ending_with Faulted charge annals totals resident faults is = is
ending_with Damaged charge annals totals resident faults is = is

pub returns-clause-ending : goal.returns-clause-ending
returns-clause-ending g c =
    subst (λ (n : ℕ). IsEnding c.ending-ended.result (run_with c.args.charge c.end-disk.result.1 c.end-disk.result.2 c.resident-resident.result) n)
    (c.faults-faults.ensures ∙ ap (λ d. (g.D.Disk.state d).faults) c.end-disk.ensures.disk)
    (ending_with c.ending-ended.result c.args.charge c.end-disk.result.1 c.end-disk.result.2 c.resident-resident.result _ c.ending-ended.ensures)
