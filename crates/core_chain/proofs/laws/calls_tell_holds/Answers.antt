use Rattle.core_chain.proofs.HoldLemmas.{chain_tells_holds}
use Rattle.core_chain.proofs.laws.calls_tell_holds.Goals as goal

pub returns : goal.returns
returns g c = λ calls start none holds are. chain_tells_holds g.D.Disk.state calls start c.args.core.now none holds are
