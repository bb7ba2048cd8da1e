use Rattle.std.proofs.Common.{◌≢◌, ◌∙◌, ◌+◌, ap, sym, arith}
use Rattle.std.specs.Prelude.{is_some}
use Rattle.blsm_model.specs.declared.component.Component.{Component}
use Rattle.tree_log.specs.Log.{listed_in_a, weight_of_tables}
use Rattle.tree_settling.specs.Counting.{pass_due, untaken}
use Rattle.tree_settling.specs.Settling.{components_of}
use Rattle.tree_settling.proofs.CountLemmas.{
  capacity_small,
  counted_within,
  counts_none,
  counts_then,
  counts_wider,
  deep_behind,
  where_less,
  where_less_some,
  where_none,
  where_there,
}
use Rattle.tree_settling.proofs.EmptyLemmas.{empty_a, empty_b}
use Rattle.tree_settling.proofs.StepLemmas.{step_counts, step_failed, step_none, step_then}
use Rattle.tree_settling.proofs.ToldLemmas.{not_so}
use Rattle.tree_settling.proofs.settling.due_pass.Goals as goal

pub returns-then-is_empty-clause-step : goal.returns-then-is_empty-clause-step
returns-then-is_empty-clause-step g c = step_none (g.met.D.Disk.timed c.args.disk.now) c.requires.may

pub returns-then-is_empty-clause-counts : goal.returns-then-is_empty-clause-counts
returns-then-is_empty-clause-counts g c =
    let now = c.args.runs.now in
    let none = c.is_empty.ensures.0 c.if-is_empty.true in
    counts_none _ _ _ now (where_none (weight_of_tables c.args.log.now) (now.catalogue.c1.weight + listed_in_a c.args.log.now) none)

pub returns-then-is_empty-clause-a : goal.returns-then-is_empty-clause-a
returns-then-is_empty-clause-a g c =
    let none = c.is_empty.ensures.0 c.if-is_empty.true in
    empty_a c.args.log.now none ∙ sym (empty_b c.args.log.now none)

pub returns-then-is_empty-clause-b : goal.returns-then-is_empty-clause-b
returns-then-is_empty-clause-b g c = empty_b c.args.log.now (c.is_empty.ensures.0 c.if-is_empty.true)

pub returns-in_err-pass-clause-step : goal.returns-in_err-pass-clause-step
returns-in_err-pass-clause-step g c = step_failed 1 c.in_err-pass.was c.from_residual.ensures.1 c.finish_pass.ensures.step

pub returns-in_err-deep-clause-step : goal.returns-in_err-deep-clause-step
returns-in_err-deep-clause-step g c =
    step_failed 0 c.in_err-deep.was c.from_residual-in_err-deep.ensures.1
    (step_then (g.met.D.Disk.timed c.finish_pass.new.disk) c.in_ok-pass.ensures.step c.due_deep.ensures.step)

pub overflow_add-quanta : goal.overflow_add-quanta
overflow_add-quanta g c =
    let mid = c.finish_pass.new.runs in
    let may = c.requires.may in
    omega (
      arith,
      counted_within c.in_ok-pass.ensures.counts,
      counted_within c.in_ok-deep.ensures.counts,
      where_less (is_some mid.deep) (untaken mid.catalogue),
      c.in_ok-pass.ensures.step.on.light,
      may.begun.full,
      capacity_small c.args.runs.now.sizes may.running.in_order.geometry,
    )

pub returns-clause-step : goal.returns-clause-step
returns-clause-step g c = step_counts _ (step_then (g.met.D.Disk.timed c.finish_pass.new.disk) c.in_ok-pass.ensures.step c.in_ok-deep.ensures.step)

pub returns-clause-counts : goal.returns-clause-counts
returns-clause-counts g c =
    let done = c.in_ok-pass.ensures in
    let runs = c.args.runs.now in
    let mid = c.finish_pass.new.runs in
    let tables = weight_of_tables c.args.log.now in
    let all = components_of runs.catalogue + tables in
    let before = runs.catalogue.c1.weight + listed_in_a c.args.log.now in
    let there : tables ≢ 0 = not_so c.is_empty.result c.if-is_empty.false c.is_empty.ensures in
    let due = deep_behind runs.sizes (is_some mid.deep) before (untaken mid.catalogue) all done.passed.deep
    (omega (arith, done.step.on.light)) in
    counts_wider (where_there tables 2 there) (omega (arith, where_less_some tables before))
    (omega (arith, due, where_there tables (pass_due runs.sizes before all) there))
    (counts_then done.step.on.sizes done.counts c.in_ok-deep.ensures.counts)

pub returns-clause-c1 : goal.returns-clause-c1
returns-clause-c1 g c = omega (arith, c.in_ok-pass.ensures.passed.c1, ap (λ (c : Component). c.weight) c.in_ok-deep.ensures.c1)

pub returns-clause-a : goal.returns-clause-a
returns-clause-a g c = c.in_ok-pass.ensures.a

pub returns-clause-b : goal.returns-clause-b
returns-clause-b g c = c.in_ok-pass.ensures.b
