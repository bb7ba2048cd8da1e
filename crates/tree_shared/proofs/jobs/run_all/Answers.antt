use Rattle.tree_shared.proofs.EndRunLemmas.{runs_all}
use Rattle.tree_shared.proofs.jobs.run_all.Goals as goal

pub returns : goal.returns
returns g c =
    runs_all g.D.Disk.state c.args.script.now c.args.workers c.args.turns c.args.core c.close.result c.in-Ok.made.0 c.in-Ok.made.1
    c.run_rest-first.result c.requires.fresh c.requires.runnable c.requires.few c.in-Ok.ensures
    c.run_rest-first.ensures c.close.ensures.lasts c.close.ensures.known c.kept.ensures.core
