use Rattle.blsm_model.proofs.PackLemmas.{dels_of}
use Rattle.blsm_model.proofs.pack.Pack.are_dels.Goals as goal

pub returns : goal.returns
returns c =
    let told = rw c.as_slice.ensures.value at c.are_dels.ensures in
    rw (← c.self.view_is) (dels_of c.self.inside.heads.items c.self.inside.bytes.items c.are_dels.result told.0 told.1)
