use Rattle.std.proofs.Common.{arith}
use Rattle.blsm_model.proofs.PackLemmas.{length_writes}
use Rattle.blsm_model.proofs.pack.Pack.len.Goals as goal

pub returns-clause-len : goal.returns-clause-len
returns-clause-len c = rw (← c.self.view_is) (omega (arith, c.len.ensures.value, length_writes c.self.inside.heads.items c.self.inside.bytes.items))
