use Rattle.core_chain.proofs.ScanLemmas.{read_once}
use Rattle.core_chain.proofs.laws.nexts_read_once.Goals as goal

pub returns : goal.returns
returns g c = λ seat calls start are well. read_once g.D.Disk.state seat calls start c.args.core.now are well
