use Rattle.std.proofs.Common.{◌≡◌, ◌<◌, ◌≤◌, ◌+◌, ◌/◌, List, length, IsTrue, ◌-◌}
use Rattle.blsm_model.specs.declared.key.Key.{Key}
use Rattle.blsm_model.specs.Geometry.{file_length}
use Rattle.record_delta.specs.declared.record.Rec.{Rec}
use Rattle.disk_trait.specs.Reads.{OnlyReads}
use Rattle.blsm_model.specs.Lanes.{region_length}
use Rattle.gated_log.specs.Replay.{HasGiven}
use Rattle.storage_tests.proofs.lanes.count.Given as goal

abbrev pub invariant-loop-entries : goal.invariant-loop-entries
invariant-loop-entries g l = record {
  sizes : l.replay.sizes ≡ l.geometry;
  lane : l.replay.lane ≡ l.lane;
  within : l.entries + length l.replay.behind ≤ l.replay.end;
  inside : l.replay.end < region_length l.replay.sizes;
  stands : (g.D.Disk.state l.disk).faults ≡ (g.D.Disk.state l.fn.disk).faults;
  -- a read for each record so far, and an entry and its gate take 15 bytes at least
  effect : OnlyReads (file_length l.geometry) (l.replay.end / 15) (g.D.Disk.state l.fn.disk) (g.D.Disk.state l.disk);
  given : IsTrue (g.D.Disk.state l.fn.disk).is_honest → (es : List (Key × Rec)) × HasGiven l.replay es (g.D.Disk.state l.disk).bytes × (length es ≡ l.entries);
}

abbrev pub decreases-loop-entries : goal.decreases-loop-entries
decreases-loop-entries g l = region_length l.replay.sizes - l.replay.end + length l.replay.behind
