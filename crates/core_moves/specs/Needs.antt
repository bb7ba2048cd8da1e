-- What the moves require. Weights are in bytes.
use Rattle.std.specs.Prelude.{◌≡◌, ◌+◌, ◌*◌, ◌^◌, ◌<◌, ◌≤◌, None, IsTrue, is_some, length, sum}
use Rattle.blsm_model.specs.Format.{most_weight}
use Rattle.blsm_model.specs.Geometry.{file_length}
use Rattle.blsm_model.specs.Lanes.{AreRoles, region_length}
use Rattle.disk_trait.specs.Disk.{DiskState}
use Rattle.record_delta.specs.Entries.{Entries, entries_weight}
use Rattle.gated_log.specs.Records.{cost}
use Rattle.gated_log.specs.Lanes.{end_of}
use Rattle.tree_log.specs.Log.{lane_for, listed_for, table_for, with_entries}
use Rattle.tree_runs.specs.Runs.{AreRunning, Fits}
use Rattle.core_moves.specs.declared.held.Held.{Held}
use Rattle.core_moves.specs.Held.{goes_ahead}

-- the counts are small
pub record AreSmall (held : Held) : Type 0 where
  pub version : held.runs.catalogue.version + 1 < 2 ^ 64
  pub passes : held.book.counts.passes + 1 < 2 ^ 64
  pub deeps : held.book.counts.deeps + 1 < 2 ^ 64
  pub quanta : sum held.book.seats.quanta + 1 < 2 ^ 64
  pub entries : sum held.book.book.quanta + 1 < 2 ^ 64
  pub pass_taken : IsTrue (is_some held.runs.pass) → held.gears.pass_taken + held.runs.sizes.quantum + 2 * most_weight < 2 ^ 64
  pub deep_taken : IsTrue (is_some held.runs.deep) → held.gears.deep_taken + held.runs.sizes.quantum + 2 * most_weight < 2 ^ 64

-- Its merges are in order on this disk, which is as long as a store's file.
pub record IsOn (held : Held) (d : DiskState) : Type 0 where
  pub running : AreRunning d.is_honest d.bytes held.runs
  pub long : IsTrue d.tells_bytes → length d.bytes ≡ file_length held.runs.sizes

-- Each move that calls the disk may be made: the merges are in order, the pages hold them, and all numbers fit.
pub record IsReady (held : Held) (d : DiskState) : Type 0 where
  pub on : IsOn held d
  pub fits : Fits held.runs held.log.a.entries
  pub small : AreSmall held
  pub lanes : AreRoles held.runs.catalogue.lanes

-- What a command writes fits its lane, with the gate behind it, its table, and the numbers of the gears.
pub record WriteFits (more : Entries) (held : Held) : Type 0 where
  pub lane : end_of held.log.lanes (lane_for (goes_ahead more held) held.log) + cost more + 1 ≤ region_length held.log.lanes.sizes
  pub table : listed_for (goes_ahead more held) (with_entries (goes_ahead more held) more held.log) ≤ (table_for (goes_ahead more held) held.log).reserved
  pub pass : held.gears.pass_admitted + entries_weight more < 2 ^ 64
  pub deep : held.gears.deep_admitted + entries_weight more < 2 ^ 64
  pub spring : held.runs.pass ≡ None → held.spring + entries_weight more < 2 ^ 64
