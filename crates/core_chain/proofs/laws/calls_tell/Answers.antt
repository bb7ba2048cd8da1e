use Rattle.core_chain.proofs.TellLemmas.{chain_tells}
use Rattle.core_chain.proofs.laws.calls_tell.Goals as goal

pub returns : goal.returns
returns g c = λ calls start unasked are. chain_tells g.D.Disk.state calls start c.args.core.now unasked are
