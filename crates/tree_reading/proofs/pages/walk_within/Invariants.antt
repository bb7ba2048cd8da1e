use Rattle.std.proofs.Common.{◌≡◌, ℕ, ◌+◌, ◌≤◌, List, IsTrue}
use Rattle.disk_trait.specs.Reads.{OnlyReads}
use Rattle.blsm_model.specs.Components.{no_page}
use Rattle.blsm_model.specs.Geometry.{file_length, page_count}
use Rattle.tree_runs.specs.Noting.{KeepsRooms}
use Rattle.output_reading.specs.Walk.{TakesUp}
use Rattle.tree_reading.specs.Walk.{IsClear}
use Rattle.tree_reading.proofs.NoteLemmas.{HasNoted}
use Rattle.tree_reading.proofs.WalkLemmas.{HasWalked, IsClaiming, IsFilling}
use Rattle.tree_reading.proofs.pages.walk_within.Given as goal

abbrev pub invariant-loop-page : goal.invariant-loop-page
invariant-loop-page g l = record {
  few : page_count l.geo ≤ no_page;
  effect : OnlyReads (file_length l.geo) l.run.pages (g.D.Disk.state l.fn.disk) (g.D.Disk.state l.disk);
  one_a_page : (g.D.Disk.state l.disk).clock + l.cursor.pages ≤ (g.D.Disk.state l.fn.disk).clock + l.run.pages;
  stands : (g.D.Disk.state l.disk).faults ≡ (g.D.Disk.state l.fn.disk).faults;
  claims : IsClaiming l.role (l.run.pages) l.cursor.pages l.fn.space l.space;
  filling : IsFilling l.run l.cursor;
  walked : (earlier : List ℕ) → IsTrue (g.D.Disk.state l.fn.disk).is_honest → TakesUp earlier l.fn.space
      → HasWalked l.geo l.run l.bases_only earlier l.role l.fn.space l.cursor l.page l.space (g.D.Disk.state l.fn.disk).bytes;
  rooms : KeepsRooms l.role l.fn.guides l.guides;
  noted : IsTrue (g.D.Disk.state l.fn.disk).is_honest → IsClear l.run l.role l.fn.guides → HasNoted l.geo l.run l.cursor l.role l.guides
      (g.D.Disk.state l.fn.disk).bytes;
}

abbrev pub decreases-loop-page : goal.decreases-loop-page
decreases-loop-page g l = l.cursor.entries
