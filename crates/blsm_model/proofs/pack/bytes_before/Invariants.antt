use Rattle.std.proofs.Common.{◌≡◌, take, sum_by}
use Rattle.blsm_model.specs.Packs.{len_of}
use Rattle.blsm_model.proofs.pack.bytes_before.Given as goal

-- the bytes so far
abbrev pub invariant-places : goal.invariant-places
invariant-places l = l.at ≡ sum_by len_of (take l.before l.heads)
