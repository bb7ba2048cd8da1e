use Rattle.std.proofs.Common.{◌≡◌, ◌*◌, ◌≤◌, take}
use Rattle.blsm_model.specs.Legal.{total_weight}
use Rattle.blsm_model.proofs.pack.total_of.Given as goal

-- the weight of the writes so far
abbrev pub invariant-loop-write : goal.invariant-loop-write
invariant-loop-write l = record {
  total : l.total ≡ total_weight (take l.write-index l.writes);
  small : l.total ≤ 512 * l.write-index;
}
