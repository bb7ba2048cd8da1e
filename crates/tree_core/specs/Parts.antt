-- The parts of a core whose store is opened and settled.
use Rattle.std.specs.Prelude.{◌≡◌, ◌≤◌, [], None, IsTrue, length, sum}
use Rattle.blsm_model.specs.Book.{Book}
use Rattle.blsm_model.specs.Format.{most_entries}
use Rattle.blsm_model.specs.Geometry.{file_length, high_mark}
use Rattle.blsm_model.specs.Lanes.{AreRoles}
use Rattle.disk_trait.specs.Disk.{DiskState}
use Rattle.mem_table.specs.Tables.{IsWhole}
use Rattle.pacing.specs.Laws.{IsOpening}
use Rattle.tree_log.specs.Log.{LogState, end_of_a, end_of_b}
use Rattle.tree_runs.specs.Runs.{RunsState, AreRunning}
use Rattle.core_pace.specs.Pacing.{most_opened}

-- No merge runs, C1' and both tables and lanes are empty, nothing was dropped of table A, and nothing was asked. Its components are an
-- opening's, and its version is small.
pub record AreSettled (runs : RunsState) (log : LogState) (annals : Book) (d : DiskState) : Type 0 where
  pub pass : runs.pass ≡ None
  pub deep : runs.deep ≡ None
  pub running : AreRunning d.is_honest d.bytes runs
  pub long : IsTrue d.tells_bytes → length d.bytes ≡ file_length runs.sizes
  pub components : IsOpening runs.sizes runs.catalogue.c1.weight runs.catalogue.c2.weight
  pub version : runs.catalogue.version ≤ most_opened
  pub roles : AreRoles runs.catalogue.lanes
  pub lanes : log.lanes.sizes ≡ runs.sizes
  pub lane_roles : log.lanes.roles ≡ runs.catalogue.lanes
  pub a : log.a.entries ≡ []
  pub whole_a : IsWhole log.a
  pub b : log.b.entries ≡ []
  pub end_a : end_of_a log ≡ 0
  pub end_b : end_of_b log ≡ 0
  pub reserved_a : high_mark runs.sizes ≤ log.a.reserved
  pub reserved_b : high_mark runs.sizes ≤ log.b.reserved
  pub entries : annals.entries ≡ []
  pub quanta : annals.quanta ≡ []
  pub room : sum annals.room.entries ≤ most_entries
