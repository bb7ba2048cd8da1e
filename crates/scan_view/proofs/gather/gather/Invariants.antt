use Rattle.std.proofs.Common.{◌≡◌, ◌+◌, ◌≤◌, ◌++◌, ℕ, List, Option}
use Rattle.blsm_model.specs.declared.key.Key.{Key}
use Rattle.blsm_model.specs.Geometry.{file_length}
use Rattle.disk_trait.specs.Reads.{OnlyReads}
use Rattle.record_delta.specs.Entries.{above}
use Rattle.scan_view.specs.Hold.{AreGiven, rows_of}
use Rattle.scan_view.specs.Left.{IsFile}
use Rattle.scan_view.specs.Scan.{IsScan, HaveRead, HaveReadOn, AreWalks, AreFurther, pages_left, all_left}
use Rattle.scan_view.specs.Told.{Contents, Sources, AreFronts, view_by}
use Rattle.scan_view.proofs.gather.gather.Given as goal

-- the rows so far, and those of what is left
abbrev pub invariant-loop-scan : goal.invariant-loop-scan
invariant-loop-scan g l = record {
  given : AreGiven l.n l.low l.high l.fn.scan.at l.scan.at l.rows;
  effect : OnlyReads (file_length l.geo) (pages_left l.fn.scan) (g.D.Disk.state l.fn.disk) (g.D.Disk.state l.disk);
  one_a_page : (g.D.Disk.state l.disk).clock + pages_left l.scan ≤ (g.D.Disk.state l.fn.disk).clock + pages_left l.fn.scan;
  stands : (g.D.Disk.state l.disk).faults ≡ (g.D.Disk.state l.fn.disk).faults;
  walks : AreWalks l.fn.scan → AreFurther l.fn.scan l.scan;
  list : (file : List ℕ) (released : Option Key) (lists : Contents) (pages : List ℕ) → IsFile file (g.D.Disk.state l.fn.disk)
      → IsScan l.geo l.fn.scan released lists pages file → IsScan l.geo l.scan released lists pages file
      × (rows_of l.low l.high (above l.fn.scan.at (view_by l.memory released lists))
      ≡ l.rows ++ rows_of l.low l.high (above l.scan.at (view_by l.memory released lists)));
  read : (file : List ℕ) (of : Sources) (read : Contents) → IsFile file (g.D.Disk.state l.fn.disk) → HaveRead l.geo of l.fn.scan read file
      → (on : HaveReadOn l.geo of l.scan read file)
      × ((all : Contents) → AreFronts of on.now all
      → rows_of l.low l.high (above l.fn.scan.at (view_by l.memory of.released all))
      ≡ l.rows ++ rows_of l.low l.high (above l.scan.at (view_by l.memory of.released all)));
}

abbrev pub decreases-loop-scan : goal.decreases-loop-scan
decreases-loop-scan g l = all_left l.memory l.scan
