use Rattle.std.specs.Prelude.{is_ok}
use Rattle.std.proofs.Common.{◌∙◌, inr, refl, ap, arith}
use Rattle.catalog_swap.specs.declared.catalog.Catalog.{Catalog}
use Rattle.tree_runs.specs.Runs.{left_for_deep}
use Rattle.tree_settling.proofs.DeepLemmas.{IsDeepSwap, deep_leaves, deep_light, deep_may, deep_shows, next_catalogue}
use Rattle.tree_settling.proofs.StepLemmas.{affects_anywhere, stays_long, step_done, step_faulted, step_untaken}
use Rattle.tree_settling.proofs.settling.finish_deep.Goals as goal
use Rattle.tree_settling.proofs.settling.finish_deep.Goals.{After-swap_deep}

pub swap_deep-requires-clause-length : goal.swap_deep-requires-clause-length
swap_deep-requires-clause-length g c =
    let goes = c.in_ok-quanta.ensures.takes.goes_on in
    stays_long c.args.runs.now.sizes c.take_deep.new.runs.sizes goes.sizes c.requires.may.long goes.effect

pub returns-in_err-quanta-clause-step : goal.returns-in_err-quanta-clause-step
returns-in_err-quanta-clause-step g c = step_untaken c.in_err-quanta.was c.from_residual.ensures.1 c.a.ensures c.requires.may.begun.whole_a refl
    (λ tree over. over)
    c.take_deep.ensures.takes (omega (arith, c.requires.may.begun.deep.run))

-- the swap, however it ended
swap : (g : _) (c : After-swap_deep g) → IsDeepSwap (is_ok c.swap_deep.result) c.a.result.now c.args.runs.now c.take_deep.new.runs c.swap_deep.new.self c.args.log.now
    (g.D.Disk.state c.args.disk.now) (g.D.Disk.state c.take_deep.new.disk) (g.D.Disk.state c.swap_deep.new.disk)
swap g c = record {
  timed = g.met.D.Disk.timed c.take_deep.new.disk;
  table = c.a.ensures;
  whole = c.requires.may.begun.whole_a;
  goes = c.in_ok-quanta.ensures.takes.goes_on;
  pass = c.in_ok-quanta.ensures.pass;
  lists = c.swap_deep.ensures.lists;
  few = c.take_deep.ensures.takes.effect.calls;
  effect = affects_anywhere c.swap_deep.ensures.effect;
}

pub returns-in_err-swap_deep-clause-step : goal.returns-in_err-swap_deep-clause-step
returns-in_err-swap_deep-clause-step g c =
    step_faulted (g.D.Disk.state c.take_deep.new.disk) c.in_ok-quanta.ensures.takes.goes_on.calm c.from_residual-in_err-swap_deep.ensures.1
    c.in_err-swap_deep.ensures.faults
    (deep_leaves (swap g (goal.at.returns-in_err-swap_deep-clause-step g c).After-swap_deep) c.requires.may.begun.deep)

pub returns-clause-step : goal.returns-clause-step
returns-clause-step g c =
    let swap = swap g (goal.at.returns-clause-step g c).After-swap_deep in
    let swaps = c.in_ok-swap_deep.ensures.swaps in
    let none = c.in_ok-quanta.ensures.done.1 in
    step_done c.in_ok-quanta.quanta (deep_leaves swap c.requires.may.begun.deep)
    (record {
      shows = deep_shows swap (ap is_ok c.in_ok-swap_deep.was) swaps;
      may = deep_may swap c.requires.may none swaps c.in_ok-swap_deep.ensures.running;
      light = deep_light swap c.requires.may.begun.deep none swaps;
      sizes = swaps.sizes ∙ c.in_ok-quanta.ensures.takes.goes_on.sizes;
      calm = c.in_ok-swap_deep.ensures.faults ∙ c.in_ok-quanta.ensures.takes.goes_on.calm;
      named = inr (ap (λ (k : Catalog). k.progress) (next_catalogue swap swaps));
    })
    (omega (arith, ap (λ (c : Catalog). c.version) (next_catalogue swap swaps)))

pub returns-clause-counts : goal.returns-clause-counts
returns-clause-counts g c =
    let swap = swap g (goal.at.returns-clause-counts g c).After-swap_deep in
    let light = c.requires.may.begun.deep in
    record {
      counted = λ small. c.in_ok-swap_deep.ensures.swaps.quanta ∙ c.in_ok-quanta.ensures.counted small;
      taken = left_for_deep c.args.runs.now.deep;
      takes = c.in_ok-quanta.ensures.counts;
      all = omega arith;
      within = omega (arith, light.rest);
      grows = omega (arith, deep_light swap light c.in_ok-quanta.ensures.done.1 c.in_ok-swap_deep.ensures.swaps);
    }

pub returns-clause-c1 : goal.returns-clause-c1
returns-clause-c1 g c =
    ap (λ (c : Catalog). c.c1) (next_catalogue (swap g (goal.at.returns-clause-c1 g c).After-swap_deep) c.in_ok-swap_deep.ensures.swaps)
