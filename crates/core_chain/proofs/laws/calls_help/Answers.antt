use Rattle.core_chain.proofs.HelpLemmas.{chain_helps}
use Rattle.core_chain.proofs.laws.calls_help.Goals as goal

pub returns : goal.returns
returns g c = λ calls start unasked are. chain_helps g.D.Disk.state calls start c.args.core.now unasked are
