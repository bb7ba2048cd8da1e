use Rattle.std.specs.Prelude.{is_ok}
use Rattle.std.proofs.Common.{◌∙◌, inr, ap, sym, subst, arith}
use Rattle.disk_trait.specs.Effects.{Affects}
use Rattle.blsm_model.specs.Geometry.{file_length}
use Rattle.catalog_swap.specs.declared.catalog.Catalog.{Catalog}
use Rattle.mem_table.specs.Tables.{Contents}
use Rattle.record_delta.specs.Entries.{entries_weight}
use Rattle.tree_runs.specs.Runs.{RunsState, left_for_pass}
use Rattle.tree_settling.specs.Settling.{CallsFew, anywhere, taking_calls}
use Rattle.tree_settling.proofs.PassLemmas.{
  IsPassSwap,
  pass_counts,
  pass_passed,
  begun_fits,
  begun_light,
  begun_over,
  next_catalogue,
  pass_leaves,
  pass_light,
  pass_may,
  pass_shows,
  same_sizes,
}
use Rattle.tree_settling.proofs.StepLemmas.{affects_anywhere, stays_long, step_done, step_faulted, step_untaken}
use Rattle.tree_settling.proofs.settling.finish_pass.Goals as goal
use Rattle.tree_settling.proofs.settling.finish_pass.Goals.{After-swap_pass}

pub take_pass-requires-clause-running : goal.take_pass-requires-clause-running
take_pass-requires-clause-running g c = c.begin_pass.ensures.running (g.D.Disk.state c.args.disk.now).is_honest (g.D.Disk.state c.args.disk.now).bytes c.requires.may.running

pub take_pass-requires-clause-length : goal.take_pass-requires-clause-length
take_pass-requires-clause-length g c = λ tells. c.requires.may.long tells ∙ ap (λ (r : RunsState). file_length r.sizes)
    (sym c.begin_pass.ensures.begun)

pub swap_pass-requires-clause-length : goal.swap_pass-requires-clause-length
swap_pass-requires-clause-length g c =
    stays_long c.args.runs.now.sizes c.take_pass.new.runs.sizes (c.in_ok-quanta.ensures.takes.goes_on.sizes ∙ ap (λ
    (r : RunsState). r.sizes) c.begin_pass.ensures.begun) c.requires.may.long
    (subst (λ (r : RunsState). Affects anywhere (file_length r.sizes) (taking_calls r.sizes
    (left_for_pass c.begin_pass.new.self.pass c.a-a.result.now.entries))
    (g.D.Disk.state c.args.disk.now) (g.D.Disk.state c.take_pass.new.disk)) c.begin_pass.ensures.begun c.take_pass.ensures.takes.effect)

pub take_pass-requires-clause-fits : goal.take_pass-requires-clause-fits
take_pass-requires-clause-fits g c = begun_fits c.weight_of_a.result c.args.runs.now c.begin_pass.new.self c.args.log.now c.a-a.result.now (g.D.Disk.state c.args.disk.now) c.begin_pass.ensures.begun c.a-a.ensures c.requires.may

pub returns-in_err-quanta-clause-step : goal.returns-in_err-quanta-clause-step
returns-in_err-quanta-clause-step g c =
    step_untaken c.in_err-quanta.was c.from_residual.ensures.1 c.a-a.ensures c.requires.may.begun.whole_a
    (ap (λ (r : RunsState). r.sizes) c.begin_pass.ensures.begun)
    (λ tree over. begun_over c.weight_of_a.result c.args.runs.now c.begin_pass.new.self tree
    (g.D.Disk.state c.args.disk.now) c.begin_pass.ensures.begun c.begin_pass.ensures.lists over)
    c.take_pass.ensures.takes
    (omega (
      arith,
      begun_light c.weight_of_a.result c.args.runs.now c.begin_pass.new.self c.a-a.result.now.entries c.begin_pass.ensures.begun,
      ap
          (λ (t : Contents). entries_weight t.entries) c.a-a.ensures,
    ))

-- the swap, however it ended
swap : (g : _) (c : After-swap_pass g) → IsPassSwap (is_ok c.swap_pass.result) c.weight_of_a.result c.a-a.result.now c.args.runs.now c.begin_pass.new.self c.take_pass.new.runs c.swap_pass.new.self c.args.log.now
    (g.D.Disk.state c.args.disk.now) (g.D.Disk.state c.take_pass.new.disk) (g.D.Disk.state c.swap_pass.new.disk)
swap g c = record {
  timed = g.met.D.Disk.timed c.take_pass.new.disk;
  table = c.a-a.ensures;
  whole = c.requires.may.begun.whole_a;
  rests = c.requires.rests;
  begins = c.begin_pass.ensures.begun;
  begun_lists = c.begin_pass.ensures.lists;
  goes = c.in_ok-quanta.ensures.takes.goes_on;
  deep = c.in_ok-quanta.ensures.deep;
  some = c.in_ok-quanta.ensures.done.0;
  none = c.in_ok-quanta.ensures.done.1;
  lists = c.swap_pass.ensures.lists;
  few = subst (λ (r : RunsState). CallsFew (taking_calls r.sizes (left_for_pass c.begin_pass.new.self.pass c.a-a.result.now.entries))
      (g.D.Disk.state c.args.disk.now) (g.D.Disk.state c.take_pass.new.disk)) c.begin_pass.ensures.begun c.take_pass.ensures.takes.effect.calls;
  effect = affects_anywhere c.swap_pass.ensures.effect;
}

pub returns-in_err-swap_pass-clause-step : goal.returns-in_err-swap_pass-clause-step
returns-in_err-swap_pass-clause-step g c =
    step_faulted (g.D.Disk.state c.take_pass.new.disk) c.in_ok-quanta.ensures.takes.goes_on.calm c.from_residual-in_err-swap_pass.ensures.1
    c.in_err-swap_pass.ensures.faults
    (pass_leaves (swap g (goal.at.returns-in_err-swap_pass-clause-step g c).After-swap_pass))

pub returns-clause-step : goal.returns-clause-step
returns-clause-step g c =
    let swap = swap g (goal.at.returns-clause-step g c).After-swap_pass in
    let swaps = c.in_ok-swap_pass.ensures.swaps in
    step_done c.in_ok-quanta.quanta (pass_leaves swap)
    (record {
      shows = pass_shows swap c.turn.new.self (ap is_ok c.in_ok-swap_pass.was) swaps c.turn.ensures.is_of;
      may = pass_may swap c.turn.new.self c.requires.may swaps c.turn.ensures.is_of c.turn.ensures.log c.in_ok-swap_pass.ensures.running;
      light = pass_light swap c.turn.new.self swaps c.turn.ensures.log;
      sizes = swaps.sizes ∙ same_sizes swap;
      calm = c.in_ok-swap_pass.ensures.faults ∙ c.in_ok-quanta.ensures.takes.goes_on.calm;
      named = inr (ap (λ (k : Catalog). k.progress) (next_catalogue swap swaps));
    })
    (omega (arith, ap (λ (c : Catalog). c.version) (next_catalogue swap swaps)))

pub returns-clause-counts : goal.returns-clause-counts
returns-clause-counts g c =
    pass_counts (swap g (goal.at.returns-clause-counts g c).After-swap_pass) c.in_ok-swap_pass.ensures.swaps c.in_ok-quanta.quanta
    c.in_ok-quanta.ensures.counts c.in_ok-quanta.ensures.counted

pub returns-clause-passed : goal.returns-clause-passed
returns-clause-passed g c =
    pass_passed (swap g (goal.at.returns-clause-passed g c).After-swap_pass) c.in_ok-swap_pass.ensures.swaps
