use Rattle.std.proofs.Common.{◌≡◌, ◌+◌, ◌≤◌, List, Bool, ℕ}
use Rattle.blsm_model.specs.declared.component.Component.{Component}
use Rattle.blsm_model.specs.Geometry.{file_length}
use Rattle.record_delta.specs.Entries.{Entries}
use Rattle.disk_trait.specs.Reads.{OnlyReads}
use Rattle.run_cursor.specs.Walk.{IsWalk}
use Rattle.scan_view.specs.Left.{IsFile, HasLeft, HasRead, HasReadOn, count_left}
use Rattle.scan_view.proofs.seek.seek.Given as goal

abbrev pub invariant-loop-walk : goal.invariant-loop-walk
invariant-loop-walk g l = record {
  effect : OnlyReads (file_length l.geo) l.fn.walk.cursor.pages (g.D.Disk.state l.fn.disk) (g.D.Disk.state l.disk);
  one_a_page : (g.D.Disk.state l.disk).clock + l.walk.cursor.pages ≤ (g.D.Disk.state l.fn.disk).clock + l.fn.walk.cursor.pages;
  stands : (g.D.Disk.state l.disk).faults ≡ (g.D.Disk.state l.fn.disk).faults;
  falls : count_left l.at l.walk.cursor ≤ count_left l.at l.fn.walk.cursor;
  walks : IsWalk l.fn.walk → IsWalk l.walk × (l.walk.here.pages ≤ l.fn.walk.here.pages);
  list : (is_front : Bool) (file : List ℕ) (entries : Entries) (pages : List ℕ) → IsFile file (g.D.Disk.state l.fn.disk)
      → HasLeft is_front l.geo l.at l.fn.walk entries pages file → HasLeft is_front l.geo l.at l.walk entries pages file;
  read : (is_front : Bool) (file : List ℕ) (run : Component) (given : Entries) → IsFile file (g.D.Disk.state l.fn.disk)
      → HasRead is_front l.geo run l.at l.fn.walk given file → HasReadOn is_front l.geo run l.at l.walk given file;
}

abbrev pub decreases-loop-walk : goal.decreases-loop-walk
decreases-loop-walk g l = l.walk.cursor.entries
