use Rattle.core_chain.proofs.DamageLemmas.{chain_stops}
use Rattle.core_chain.proofs.laws.calls_meet_damage.Goals as goal

pub returns : goal.returns
returns g c = λ calls start page runs are stops. chain_stops g.D.Disk.state page calls start c.args.core.now runs are stops
