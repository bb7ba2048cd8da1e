use Rattle.std.proofs.Common.{◌≡◌, ◌+◌, ◌*◌, length, take}
use Rattle.blsm_model.specs.Legal.{total_weight}
use Rattle.blsm_model.specs.Packs.{AreHeads, writes_in}
use Rattle.blsm_model.proofs.pack.Pack.of.Given as goal

-- the writes so far
abbrev pub invariant-loop-write : goal.invariant-loop-write
invariant-loop-write l = record {
  are : AreHeads l.heads.items l.bytes.items;
  writes : writes_in l.heads.items l.bytes.items ≡ take l.write-index l.writes;
  count : length l.heads.items ≡ l.write-index;
  weight : 13 * l.write-index + length l.bytes.items ≡ total_weight (take l.write-index l.writes);
}
