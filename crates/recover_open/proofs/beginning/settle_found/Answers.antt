use Rattle.std.proofs.Common.{◌∙◌, ap, arith, sym}
use Rattle.blsm_model.specs.Geometry.{file_length}
use Rattle.tree_log.specs.Log.{weight_of_tables}
use Rattle.tree_runs.specs.Runs.{RunsState}
use Rattle.recover_open.proofs.CountLemmas.{counted_first, counts_from}
use Rattle.recover_open.proofs.SettledLemmas.{IsSettledFrom, may_settle, settled_effect, settled_ready, settled_tells}
use Rattle.recover_open.proofs.beginning.settle_found.Goals as goal

pub begin-requires-clause-found : goal.begin-requires-clause-found
begin-requires-clause-found g c = (_, _, c.requires.found)

pub settle_begun-requires-clause-may : goal.settle_begun-requires-clause-may
settle_begun-requires-clause-may g c =
    let b = c.begin.ensures in
    may_settle c.begin.result.runs c.begin.result.log (g.D.Disk.state c.args.disk.now) b.numbers (b.running _ _ c.requires.found)
    (λ tells. c.requires.length tells ∙ ap (λ (r : RunsState). file_length r.sizes) (sym b.runs))

settles : (g : _) (c : goal.After-settle_begun g)
    → IsSettledFrom c.args.found c.settle_begun.result c.begin.result.runs c.begin.result.log (g.D.Disk.state c.args.disk.now)
    (g.D.Disk.state c.settle_begun.new.disk)
settles g c = record {
  sizes = ap (λ (r : RunsState). r.sizes) c.begin.ensures.runs;
  catalogue = ap (λ (r : RunsState). r.catalogue) c.begin.ensures.runs;
  tables = omega (arith, ap weight_of_tables c.begin.ensures.log, c.requires.found.whole_a.1);
  begins = λ honest holds. c.begin.ensures.lists (g.D.Disk.state c.args.disk.now).bytes holds;
  leaves = c.settle_begun.ensures.leaves;
  on = c.settle_begun.ensures.on;
  settled = c.settle_begun.ensures.settled;
  why = c.settle_begun.ensures.why;
}

pub returns-clause-ready : goal.returns-clause-ready
returns-clause-ready g c = settled_ready (settles g c)

pub returns-clause-tells : goal.returns-clause-tells
returns-clause-tells g c = settled_tells (settles g c)

pub returns-clause-effect : goal.returns-clause-effect
returns-clause-effect g c = settled_effect (settles g c)

pub returns-clause-counts : goal.returns-clause-counts
returns-clause-counts g c =
    let head = c.requires.found.head in
    counts_from c.settle_begun.result c.args.found c.begin.result (omega (arith, head.geometry.quantum)) head c.requires.found.ahead
    c.begin.ensures.runs
    c.begin.ensures.log c.requires.found.whole_a.1 c.begin.ensures.bound c.settle_begun.ensures.counts

pub returns-clause-counted : goal.returns-clause-counted
returns-clause-counted g c =
    counted_first c.settle_begun.result c.begin.result (ap (λ (r : RunsState). r.quanta) c.begin.ensures.runs) c.settle_begun.ensures.counted
