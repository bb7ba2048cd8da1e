use Rattle.std.proofs.Common.{arith}
use Rattle.blsm_model.proofs.PackLemmas.{pack_weight}
use Rattle.blsm_model.proofs.pack.Pack.weight.Goals as goal

pub returns-clause-weight : goal.returns-clause-weight
returns-clause-weight c =
    rw (← c.self.view_is)
    (omega (arith, pack_weight c.self.inside.heads.items c.self.inside.bytes.items c.self.invariant.are.each c.self.invariant.are.whole))
