use Rattle.core_chain.proofs.QuantaLemmas.{chain_takes_few}
use Rattle.core_chain.proofs.laws.calls_take_few.Goals as goal

pub returns : goal.returns
returns g c = λ calls start unasked are. chain_takes_few g.D.Disk.state calls start c.args.core.now unasked are
