use Rattle.std.proofs.Common.{ap, arith}
use Rattle.std.specs.Prelude.{is_some}
use Rattle.blsm_model.specs.declared.component.Component.{Component}
use Rattle.tree_settling.specs.Counting.{untaken}
use Rattle.tree_settling.proofs.CountLemmas.{capacity_small, counted_within, pass_counted, settling_counts, where_less}
use Rattle.tree_settling.proofs.EmptyLemmas.{is_settled}
use Rattle.tree_settling.proofs.StepLemmas.{step_counts, step_failed, step_then}
use Rattle.tree_settling.proofs.settling.settle.Goals as goal

pub returns-in_err-deep-clause-step : goal.returns-in_err-deep-clause-step
returns-in_err-deep-clause-step g c = step_failed 4 c.in_err-deep.was c.from_residual.ensures.1 c.due_deep.ensures.step

pub returns-in_err-first-clause-step : goal.returns-in_err-first-clause-step
returns-in_err-first-clause-step g c =
    step_failed 2 c.in_err-first.was c.from_residual-in_err-first.ensures.1
    (step_then (g.met.D.Disk.timed c.due_deep.new.disk) c.in_ok-deep.ensures.step c.due_pass.ensures.step)

pub returns-in_err-second-clause-step : goal.returns-in_err-second-clause-step
returns-in_err-second-clause-step g c =
    step_failed 0 c.in_err-second.was c.from_residual-in_err-second.ensures.1
    (step_then (g.met.D.Disk.timed c.due_pass.new.disk) (step_then (g.met.D.Disk.timed c.due_deep.new.disk) c.in_ok-deep.ensures.step
    c.in_ok-first.ensures.step) c.due_pass-2.ensures.step)

pub overflow_add-passes : goal.overflow_add-passes
overflow_add-passes g c =
    let one = c.in_ok-deep.ensures in
    let two = c.in_ok-first.ensures in
    let may = c.requires.may in
    omega (
      arith,
      pass_counted c.due_deep.new.runs c.due_pass.new.runs c.args.log.now two.counts,
      pass_counted c.due_pass.new.runs c.due_pass-2.new.runs c.due_pass.new.log c.in_ok-second.ensures.counts,
      one.step.on.light,
      two.step.on.light,
      may.begun.full,
      capacity_small c.args.runs.now.sizes may.running.in_order.geometry,
    )

pub overflow_add-quanta : goal.overflow_add-quanta
overflow_add-quanta g c =
    let one = c.in_ok-deep.ensures in
    let two = c.in_ok-first.ensures in
    let now = c.args.runs.now in
    let may = c.requires.may in
    omega (
      arith,
      counted_within one.counts,
      where_less (is_some now.deep) (untaken now.catalogue),
      pass_counted c.due_deep.new.runs c.due_pass.new.runs c.args.log.now two.counts,
      pass_counted c.due_pass.new.runs c.due_pass-2.new.runs c.due_pass.new.log c.in_ok-second.ensures.counts,
      one.step.on.light,
      two.step.on.light,
      may.begun.full,
      capacity_small now.sizes may.running.in_order.geometry,
    )

pub returns-clause-step : goal.returns-clause-step
returns-clause-step g c =
    step_counts _
    (step_then (g.met.D.Disk.timed c.due_pass.new.disk) (step_then (g.met.D.Disk.timed c.due_deep.new.disk) c.in_ok-deep.ensures.step
    c.in_ok-first.ensures.step) c.in_ok-second.ensures.step)

pub returns-clause-counts : goal.returns-clause-counts
returns-clause-counts g c =
    let one = c.in_ok-deep.ensures in
    let two = c.in_ok-first.ensures in
    settling_counts c.args.runs.now c.due_deep.new.runs c.due_pass.new.runs c.due_pass-2.new.runs c.args.log.now c.due_pass.new.log one.step.on.sizes
    two.step.on.sizes one.step.on.light two.step.on.light
    (omega (arith, ap (λ (c : Component). c.weight) one.c1)) two.c1 two.step.on.may.begun.whole_a two.a two.b
    one.counts two.counts c.in_ok-second.ensures.counts

pub returns-clause-counted : goal.returns-clause-counted
returns-clause-counted g c = λ none.
    let counts = returns-clause-counts g c in
    omega (arith, none, counts.counted (omega (arith, none, overflow_add-quanta g c)))

pub returns-clause-settled : goal.returns-clause-settled
returns-clause-settled g c =
    let last = c.in_ok-second.ensures in
    is_settled c.due_pass.new.runs c.due_pass-2.new.runs c.due_pass.new.log c.due_pass-2.new.log (g.D.Disk.state c.due_pass.new.disk)
    (g.D.Disk.state c.due_pass-2.new.disk)
    c.in_ok-first.ensures.b last.step.on last.done last.a last.b
