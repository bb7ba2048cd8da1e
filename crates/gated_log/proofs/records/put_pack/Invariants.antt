use Rattle.std.proofs.Common.{◌≡◌, ◌+◌, ◌++◌, length, take}
use Rattle.record_delta.specs.Entries.{entries_weight}
use Rattle.blsm_model.specs.Legal.{total_weight}
use Rattle.record_delta.specs.Several.{entries_of}
use Rattle.gated_log.specs.Records.{pack_head, spellings, AreSpelled}
use Rattle.gated_log.proofs.records.put_pack.Given as goal

-- the entries so far
abbrev pub invariant-places : goal.invariant-places
invariant-places l = record {
  text : take l.at l.buffer ≡ pack_head (length l.pack) (total_weight l.pack) ++ spellings (entries_of (take l.place l.pack));
  ends : l.at ≡ 4 + entries_weight (entries_of (take l.place l.pack));
  entries : AreSpelled (entries_of (take l.place l.pack));
}
