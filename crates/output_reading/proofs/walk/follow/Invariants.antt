use Rattle.std.proofs.Common.{◌≡◌, ◌+◌, ◌<◌, ◌≤◌, ℕ, List, length, [], None, Some, IsTrue}
use Rattle.disk_trait.specs.Reads.{OnlyReads}
use Rattle.blsm_model.specs.declared.component.Component.{Component}
use Rattle.blsm_model.specs.Geometry.{file_length}
use Rattle.page_space.specs.Space.{SpaceState}
use Rattle.record_delta.specs.Entries.{Entries}
use Rattle.run_cursor.specs.Cursor.{AreFull}
use Rattle.merge_ends.specs.Output.{IsUpTo}
use Rattle.tree_runs.specs.Noting.{KeepsRooms}
use Rattle.tree_runs.specs.Runs.{guide_at}
use Rattle.output_reading.specs.Noted.{HasNoted, MayNote}
use Rattle.tree_file.specs.Output.{settled_up_to, weight_up_to}
use Rattle.output_reading.specs.Walk.{AreBehind, AreInputs, HasClaimed, HasMet, HasPassed, left_of, pages_ahead}
use Rattle.output_reading.proofs.walk.follow.Given as goal

abbrev pub invariant-loop-next : goal.invariant-loop-next
invariant-loop-next g l = record {
  behind : AreBehind l.inputs;
  up : IsUpTo l.inputs.at (Some l.key);
  z_is : l.z + left_of l.inputs ≡ left_of l.fn.inputs;
  passed : HasPassed l.fn.output.cursor l.output.cursor l.z;
  claims : (all : ℕ) (first : SpaceState) → HasClaimed l.role all l.fn.output.cursor.pages first l.fn.space → HasClaimed l.role all
      l.output.cursor.pages first l.space;
  same_pages : l.space.pages ≡ l.fn.space.pages;
  left : 0 < l.output.cursor.pages;
  full : (run : Component) → AreFull run l.fn.output.cursor → AreFull run l.output.cursor;
  effect : OnlyReads (file_length l.geo) (pages_ahead l.fn.inputs + l.fn.output.cursor.pages) (g.D.Disk.state l.fn.disk) (g.D.Disk.state l.disk);
  stands : (g.D.Disk.state l.disk).faults ≡ (g.D.Disk.state l.fn.disk).faults;
  once : (g.D.Disk.state l.disk).clock + pages_ahead l.inputs + l.output.cursor.pages ≤ (g.D.Disk.state l.fn.disk).clock + pages_ahead l.fn.inputs +
      l.fn.output.cursor.pages;
  none : l.inputs.at ≡ None → l.z ≡ 0;
  rooms : KeepsRooms l.role l.fn.guides l.guides;
  size : l.role < length l.fn.guides → length (guide_at l.guides l.role).filter.bits ≡ length (guide_at l.fn.guides l.role).filter.bits;
  noted : (run : Component) → MayNote run l.role l.fn.output l.fn.guides (left_of l.fn.inputs)
      → HasNoted l.geo (g.D.Disk.state l.fn.disk).is_honest (g.D.Disk.state l.fn.disk).bytes run l.role l.fn.output l.fn.space
      (guide_at l.fn.guides l.role) None
      → HasNoted l.geo (g.D.Disk.state l.fn.disk).is_honest (g.D.Disk.state l.fn.disk).bytes run l.role l.output l.space (guide_at l.guides l.role)
      l.inputs.at;
  met : (run : Component) (earlier : List ℕ) (first : SpaceState) (newer_pages older_pages : List ℕ) (newer older : Entries) → IsTrue
      (g.D.Disk.state l.fn.disk).is_honest
      → AreInputs l.geo l.fn.inputs newer_pages older_pages newer older (g.D.Disk.state l.fn.disk).bytes → HasMet l.geo run earlier l.role first
      l.fn.output l.fn.space [] (g.D.Disk.state l.fn.disk).bytes
      → AreInputs l.geo l.inputs newer_pages older_pages newer older (g.D.Disk.state l.fn.disk).bytes × HasMet l.geo run earlier l.role first
      l.output l.space (settled_up_to l.inputs.at newer older) (g.D.Disk.state l.fn.disk).bytes
      × (l.z ≡ weight_up_to l.inputs.at newer older);
}

abbrev pub decreases-loop-next : goal.decreases-loop-next
decreases-loop-next g l = left_of l.inputs
