use Rattle.std.specs.Prelude.{Bool, is_ok}
use Rattle.std.proofs.Common.{◌∙◌, ap, sym, subst, arith}
use Rattle.catalog_swap.specs.declared.catalog.Catalog.{Catalog}
use Rattle.std.proofs.lemmas.Result.{err_from_is_err_and}
use Rattle.tree_runs.specs.Holding.{LeavesSwapped}
use Rattle.core_moves.proofs.AffectLemmas.{stays_long, sum_fits}
use Rattle.core_moves.proofs.held.Held.rotate.Goals as goal

pub returns-in_err-rotate-clause-lists : goal.returns-in_err-rotate-clause-lists
returns-in_err-rotate-clause-lists g c = λ tree honest over.
    let p = err_from_is_err_and c.from_residual.result c.from_residual.ensures.1 in
    let left = c.in_err-rotate.ensures.lists tree honest over in (
      left.0,
      left.1,
      subst (λ (b : Bool). LeavesSwapped c.args.self.now.runs c.rotate.new.self tree left.0 b (g.D.Disk.state c.args.disk.now)
          (g.D.Disk.state c.rotate.new.disk))
          (sym (ap is_ok p.1)) left.2,
    )

pub returns-in_err-rotate-clause-effect : goal.returns-in_err-rotate-clause-effect
returns-in_err-rotate-clause-effect g c = c.rotate.ensures.effect

pub returns-clause-lists : goal.returns-clause-lists
returns-clause-lists g c = λ tree honest over. c.in_ok-rotate.ensures.lists tree honest over

pub returns-clause-on : goal.returns-clause-on
returns-clause-on g c = record {
  running = c.in_ok-rotate.ensures.running;
  long = stays_long c.args.self.now.runs.sizes c.rotate.new.self.sizes c.in_ok-rotate.ensures.rotates.sizes c.requires.ready.on.long c.rotate.ensures.effect;
}

pub returns-clause-effect : goal.returns-clause-effect
returns-clause-effect g c = c.rotate.ensures.effect

pub overflow_add-now : goal.overflow_add-now
overflow_add-now g c =
    let now = c.args.self.now.runs.catalogue in
    let next = c.catalogue-now.ensures ∙ c.in_ok-rotate.ensures.rotates.catalogue in
    let live = c.requires.ready.fits.live in
    let fits = sum_fits c.args.self.now.runs.sizes now.c1.weight now.c2.weight c.catalogue-now.result.now.c1x.weight c.catalogue-now.result.now.c2.weight
    c.requires.ready.on.running.in_order.geometry (omega (arith, live)) (omega (arith, live)) (ap (λ (n : Catalog). n.c1x.weight) next) (ap (λ (n : Catalog). n.c2.weight) next) in
    omega (arith, fits)
