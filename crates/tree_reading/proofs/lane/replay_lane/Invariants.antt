use Rattle.std.proofs.Common.{◌≡◌, ℕ, ◌≤◌, ◌<◌, ◌+◌, ◌*◌, ◌-◌, ◌^◌, [], IsTrue, length}
use Rattle.disk_trait.specs.Reads.{OnlyReads}
use Rattle.blsm_model.specs.Geometry.{file_length}
use Rattle.blsm_model.specs.Lanes.{region_length}
use Rattle.record_delta.specs.Entries.{Entries, entries_weight, replayed}
use Rattle.gated_log.specs.Replay.{HasGiven}
use Rattle.mem_table.specs.Tables.{IsWhole}
use Rattle.tree_reading.specs.Lane.{StaysWithin}
use Rattle.tree_reading.proofs.lane.replay_lane.Given as goal

abbrev pub invariant-loop-key : goal.invariant-loop-key
invariant-loop-key g l = record {
  sizes : l.replay.sizes ≡ l.geo;
  lane : l.replay.lane ≡ l.lane;
  reserved : l.table.reserved ≡ l.fn.table.reserved;
  whole : IsWhole l.table;
  short : region_length l.geo < 2 ^ 32;
  inside : l.replay.end < region_length l.geo;
  counted : 14 * l.records + length l.replay.behind ≤ l.replay.end;
  many : 14 * l.records ≤ region_length l.geo;
  calls : ℕ;
  fewer : calls ≤ l.records;
  few : 15 * calls ≤ l.replay.end;
  stands : (g.D.Disk.state l.disk).faults ≡ (g.D.Disk.state l.fn.disk).faults;
  light : entries_weight l.table.entries ≤ l.room;
  entries : Entries;
  table_is : l.table.entries ≡ replayed entries;
  records_is : length entries ≡ l.records;
  may_end : entries ≡ [] → l.replay.end ≡ 0;
  within : StaysWithin l.room entries;
  given : IsTrue (g.D.Disk.state l.fn.disk).is_honest → HasGiven l.replay entries (g.D.Disk.state l.fn.disk).bytes;
  effect : OnlyReads (file_length l.geo) calls (g.D.Disk.state l.fn.disk) (g.D.Disk.state l.disk);
}

abbrev pub decreases-loop-key : goal.decreases-loop-key
decreases-loop-key g l = region_length l.geo - l.replay.end + length l.replay.behind
