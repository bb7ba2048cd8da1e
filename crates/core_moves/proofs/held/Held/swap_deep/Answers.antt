use Rattle.std.specs.Prelude.{Bool, is_ok}
use Rattle.std.proofs.Common.{ap, sym, subst}
use Rattle.std.proofs.lemmas.Result.{err_from_is_err_and}
use Rattle.tree_runs.specs.Holding.{LeavesSwapped}
use Rattle.core_moves.proofs.AffectLemmas.{stays_long}
use Rattle.core_moves.proofs.held.Held.swap_deep.Goals as goal

pub returns-in_err-swap_deep-clause-lists : goal.returns-in_err-swap_deep-clause-lists
returns-in_err-swap_deep-clause-lists g c = λ tree honest over.
    let p = err_from_is_err_and c.from_residual.result c.from_residual.ensures.1 in
    let left = c.in_err-swap_deep.ensures.lists tree honest over in (
      left.0,
      left.1,
      subst (λ (b : Bool). LeavesSwapped c.args.self.now.runs c.swap_deep.new.self tree left.0 b (g.D.Disk.state c.args.disk.now)
          (g.D.Disk.state c.swap_deep.new.disk))
          (sym (ap is_ok p.1)) left.2,
    )

pub returns-in_err-swap_deep-clause-effect : goal.returns-in_err-swap_deep-clause-effect
returns-in_err-swap_deep-clause-effect g c = c.swap_deep.ensures.effect

pub returns-clause-lists : goal.returns-clause-lists
returns-clause-lists g c = λ tree honest over. c.in_ok-swap_deep.ensures.lists tree honest over

pub returns-clause-on : goal.returns-clause-on
returns-clause-on g c = record {
  running = c.in_ok-swap_deep.ensures.running;
  long = stays_long c.args.self.now.runs.sizes c.swap_deep.new.self.sizes c.in_ok-swap_deep.ensures.swaps.sizes c.requires.ready.on.long c.swap_deep.ensures.effect;
}

pub returns-clause-effect : goal.returns-clause-effect
returns-clause-effect g c = c.swap_deep.ensures.effect
