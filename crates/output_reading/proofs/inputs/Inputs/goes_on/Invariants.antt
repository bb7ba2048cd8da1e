use Rattle.std.proofs.Common.{◌≡◌, ◌+◌, ◌≤◌, ℕ, IsTrue, List}
use Rattle.disk_trait.specs.Reads.{OnlyReads}
use Rattle.blsm_model.specs.Geometry.{file_length}
use Rattle.record_delta.specs.Entries.{Entries}
use Rattle.merge_ends.specs.Output.{IsUpTo}
use Rattle.tree_file.specs.Output.{settled_up_to}
use Rattle.output_reading.specs.Walk.{AreBehind, AreInputs, left_of, pages_ahead}
use Rattle.output_reading.proofs.inputs.Inputs.goes_on.Given as goal

abbrev pub invariant-loop-key : goal.invariant-loop-key
invariant-loop-key g l = record {
  behind : AreBehind l.self;
  effect : OnlyReads (file_length l.geo) (pages_ahead l.fn.self + 1) (g.D.Disk.state l.fn.disk) (g.D.Disk.state l.disk);
  stands : (g.D.Disk.state l.disk).faults ≡ (g.D.Disk.state l.fn.disk).faults;
  once : (g.D.Disk.state l.disk).clock + pages_ahead l.self ≤ (g.D.Disk.state l.fn.disk).clock + pages_ahead l.fn.self;
  light : left_of l.self ≤ left_of l.fn.self;
  onward : IsUpTo l.fn.self.at l.self.at;
  passed : (newer_pages older_pages : List ℕ) (newer older : Entries) → IsTrue (g.D.Disk.state l.fn.disk).is_honest → AreInputs l.geo l.fn.self
      newer_pages older_pages newer older (g.D.Disk.state l.fn.disk).bytes
      → AreInputs l.geo l.self newer_pages older_pages newer older (g.D.Disk.state l.fn.disk).bytes ×
      (settled_up_to l.self.at newer older ≡ settled_up_to l.fn.self.at newer older);
}

abbrev pub decreases-loop-key : goal.decreases-loop-key
decreases-loop-key g l = left_of l.self
