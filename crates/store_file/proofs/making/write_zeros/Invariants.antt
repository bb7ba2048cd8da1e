use Rattle.std.proofs.Common.{◌≡◌, ◌≤◌, ◌<◌, ◌*◌, ◌-◌, ◌/◌, IsTrue, length}
use Rattle.disk_trait.specs.Effects.{Affects}
use Rattle.disk_trait.specs.Region.{span}
use Rattle.store_file.specs.Layout.{zeros}
use Rattle.store_file.proofs.making.write_zeros.Given as goal

abbrev pub invariant-loop-at : goal.invariant-loop-at
invariant-loop-at g l =
    let start = g.D.Disk.state l.fn.disk in
    let now = g.D.Disk.state l.disk in
    record {
      from_block : 4096 ≤ l.at;
      in_range : l.at ≤ l.end;
      -- whole blocks so far, up to the last
      whole : l.at < l.end → l.at ≡ 4096 * (l.at / 4096);
      stands : now.faults ≡ start.faults;
      length : IsTrue now.tells_bytes → length now.bytes ≡ l.at;
      written : IsTrue start.is_honest → start.bytes ≡ zeros 4096 → now.bytes ≡ zeros l.at;
      -- a call for each block so far
      effect : Affects (span 4096 (l.end - 4096)) l.end ((l.at - 1) / 4096) start now;
    }

abbrev pub decreases-loop-at : goal.decreases-loop-at
decreases-loop-at g l = l.end - l.at
