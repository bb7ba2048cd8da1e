use Rattle.core_chain.proofs.StepLemmas.{chain_is_steps}
use Rattle.core_chain.proofs.laws.calls_are_steps.Goals as goal

pub returns : goal.returns
returns g c = λ opening calls start m keeps are honest whole. chain_is_steps g.D.Disk.state opening calls start c.args.core.now m (g.met.D.Disk.timed c.args.core.now.disk) keeps are honest whole
