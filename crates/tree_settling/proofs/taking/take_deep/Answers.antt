use Rattle.std.proofs.Common.{◌∙◌, ◌+◌, ◌/◌, Option, refl, arith}
use Rattle.snow_merge.specs.Pass.{SnowState}
use Rattle.tree_runs.specs.Runs.{left_for_deep, left_for_pass, made_by_pass}
use Rattle.tree_settling.proofs.CountLemmas.{all_quanta, capacity_small, counted_then, no_quantum, one_quantum}
use Rattle.tree_settling.proofs.TakenLemmas.{
  deep_bound,
  begun,
  calls_more,
  calls_none,
  deep_took,
  less_left,
  more,
  quantum_few,
  rested,
  took_all,
  took_less,
}
use Rattle.tree_settling.proofs.ToldLemmas.{still_left}
use Rattle.tree_settling.proofs.taking.take_deep.Goals as goal

pub loop-runs-init : goal.loop-runs-init
loop-runs-init g c = record {
  runs = c.requires.runs;
  pass = refl;
  goes_on = begun (g.met.D.Disk.timed c.args.disk.now) c.requires.running;
  calls = calls_none c.args.runs.now.sizes (left_for_deep c.args.runs.now.deep) (g.D.Disk.state c.args.disk.now);
  quanta = no_quantum c.args.runs.now.sizes (left_for_deep c.args.runs.now.deep);
  counted = λ small. omega arith;
}

pub loop-runs-smaller : goal.loop-runs-smaller
loop-runs-smaller g c =
    let took = deep_took c.loop-runs.runs.deep c.deep_quantum.new.self.deep c.loop-runs.runs.sizes.quantum c.in_ok-deep_quantum.field-0 c.in_ok-deep_quantum.ensures.takes in
    less_left (left_for_deep c.deep_quantum.new.self.deep) (left_for_deep c.loop-runs.runs.deep) c.loop-runs.runs.sizes.quantum c.in_ok-deep_quantum.field-0 (omega (arith, c.loop-runs.invariant.goes_on.running.in_order.geometry.quantum))
    (still_left c.is_deep_done.result (left_for_deep c.loop-runs.runs.deep) c.loop-runs-test.true c.is_deep_done.ensures c.loop-runs.invariant.runs) took.1 took.2

pub loop-runs-preserved : goal.loop-runs-preserved
loop-runs-preserved g c =
    let took = deep_took c.loop-runs.runs.deep c.deep_quantum.new.self.deep c.loop-runs.runs.sizes.quantum c.in_ok-deep_quantum.field-0 c.in_ok-deep_quantum.ensures.takes in
    let few = quantum_few c.args.runs.now.sizes c.loop-runs.runs.sizes (c.loop-runs.runs.sizes.quantum / 4 + 3) c.loop-runs.invariant.goes_on.sizes c.requires.running.in_order.geometry.quantum (omega arith) in
    record {
      runs = c.deep_quantum.ensures.runs;
      pass = c.deep_quantum.ensures.others.pass ∙ c.loop-runs.invariant.pass;
      goes_on =
          more (g.met.D.Disk.timed c.loop-runs.disk) c.loop-runs.invariant.goes_on
          (λ tree is. tt) c.in_ok-deep_quantum.ensures.told c.deep_quantum.ensures.others.sizes c.deep_quantum.ensures.others.catalogue
          (rested (λ (o : Option SnowState). (made_by_pass o).weight + left_for_pass o c.args.a.now.entries) c.deep_quantum.ensures.others.pass) took.0;
      calls =
          calls_more c.args.runs.now.sizes (left_for_deep c.args.runs.now.deep) (left_for_deep c.loop-runs.runs.deep) (left_for_deep c.deep_quantum.new.self.deep) c.in_ok-deep_quantum.field-0 (c.loop-runs.runs.sizes.quantum / 4 + 3) c.loop-runs.runs.sizes.quantum (g.D.Disk.state c.args.disk.now) (g.D.Disk.state c.loop-runs.disk) (g.D.Disk.state c.deep_quantum.new.disk)
          c.loop-runs.invariant.calls (still_left c.is_deep_done.result (left_for_deep c.loop-runs.runs.deep) c.loop-runs-test.true c.is_deep_done.ensures c.loop-runs.invariant.runs) c.deep_quantum.ensures.told.effect.calls
          few.0 few.1 took.1 took.2;
      quanta =
          one_quantum c.args.runs.now.sizes c.loop-runs.runs.sizes (left_for_deep c.args.runs.now.deep) (left_for_deep c.loop-runs.runs.deep)
          (left_for_deep c.deep_quantum.new.self.deep) c.in_ok-deep_quantum.field-0 c.loop-runs.quanta
          c.loop-runs.invariant.goes_on.sizes c.requires.running.in_order.geometry.quantum c.loop-runs.invariant.quanta
          (still_left c.is_deep_done.result (left_for_deep c.loop-runs.runs.deep) c.loop-runs-test.true c.is_deep_done.ensures
          c.loop-runs.invariant.runs) took.1
          (deep_bound c.loop-runs.runs.deep c.deep_quantum.new.self.deep c.loop-runs.runs.sizes.quantum c.in_ok-deep_quantum.field-0
          c.in_ok-deep_quantum.ensures.takes) took.2;
      counted =
          counted_then c.loop-runs.quanta 1 c.args.runs.now c.loop-runs.runs c.deep_quantum.new.self c.loop-runs.invariant.counted
          c.in_ok-deep_quantum.ensures.counted;
    }

pub overflow_add-quanta : goal.overflow_add-quanta
overflow_add-quanta g c =
    omega (arith, c.loop-runs.invariant.quanta.some, c.requires.fits.made, capacity_small c.args.runs.now.sizes c.requires.running.in_order.geometry)

pub returns-in_err-deep_quantum-clause-takes : goal.returns-in_err-deep_quantum-clause-takes
returns-in_err-deep_quantum-clause-takes g c =
    let inv = c.loop-runs.invariant in
    took_less (left_for_deep c.args.runs.now.deep) (left_for_deep c.args.runs.now.deep) (left_for_deep c.loop-runs.runs.deep)
    (g.met.D.Disk.timed c.loop-runs.disk) inv.goes_on inv.calls
    (still_left c.is_deep_done.result (left_for_deep c.loop-runs.runs.deep) c.loop-runs-test.true c.is_deep_done.ensures inv.runs) (omega arith)
    c.requires.running.in_order.geometry.quantum (λ tree is. tt) c.deep_quantum.ensures.told
    (omega arith) c.in_err-deep_quantum.was c.from_residual.ensures.1

pub returns-clause-takes : goal.returns-clause-takes
returns-clause-takes g c = took_all c.loop-runs.quanta (left_for_deep c.args.runs.now.deep) (left_for_deep c.args.runs.now.deep)
    (left_for_deep c.loop-runs.runs.deep)
    c.loop-runs.invariant.goes_on c.loop-runs.invariant.calls (omega arith)

pub returns-clause-counts : goal.returns-clause-counts
returns-clause-counts g c =
    all_quanta c.args.runs.now.sizes (left_for_deep c.args.runs.now.deep) (left_for_deep c.loop-runs.runs.deep) c.loop-runs.quanta
    (c.is_deep_done.ensures.0 c.loop-runs-test.false).1 c.loop-runs.invariant.quanta

pub returns-clause-done : goal.returns-clause-done
returns-clause-done g c = c.is_deep_done.ensures.0 c.loop-runs-test.false
