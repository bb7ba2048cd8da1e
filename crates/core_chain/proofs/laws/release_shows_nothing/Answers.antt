use Rattle.core_chain.proofs.AlikeLemmas.{are_alike}
use Rattle.core_chain.proofs.laws.release_shows_nothing.Goals as goal

pub returns : goal.returns
returns g c =
    are_alike g.D.Disk.state g.E.Disk.state c.args.one.now c.args.other.now (g.met.D.Disk.timed c.args.one.now.disk)
    (g.met.E.Disk.timed c.args.other.now.disk)
