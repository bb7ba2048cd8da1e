use Rattle.std.proofs.Common.{◌≡◌, take}
use Rattle.record_delta.specs.Folding.{record_at, StandsFor}
use Rattle.record_delta.proofs.folding.fold_writes.Given as goal

-- what is kept is the record of the writes so far, and stands for them
abbrev pub invariant-loop-write : goal.invariant-loop-write
invariant-loop-write l = record {
  record_is : l.kept ≡ record_at (take l.write-index l.writes) l.key;
  stands : StandsFor l.kept (take l.write-index l.writes) l.key;
}
