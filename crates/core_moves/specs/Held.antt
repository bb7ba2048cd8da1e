-- What is read off what the core of a tree has in memory. Weights are in bytes.
use Rattle.std.specs.Prelude.{◌≡◌, ℕ, ◌+◌, ◌≤◌, Option, None, Bool, not, ◌&&◌, ◌||◌, ◌==◌, IsTrue, is_some, if◌then◌else◌}
use Rattle.blsm_model.specs.Geometry.{high_mark}
use Rattle.blsm_model.specs.Lanes.{AreRoles}
use Rattle.blsm_model.specs.declared.key.Key.{Key}
use Rattle.record_delta.specs.Entries.{AreSorted, above, is_above, record_of_key, Entries}
use Rattle.tree_log.specs.Log.{LogState, listed_in_a, weight_of_tables}
use Rattle.snow_merge.specs.Pass.{SnowState}
use Rattle.tree_runs.specs.Runs.{PassCovers, made_by_pass, left_for_pass, left_for_deep, released_by}
use Rattle.mem_table.specs.Tables.{IsWhole}
use Rattle.tree_machine.specs.Moves.{joins_pass}
use Rattle.tree_runs.specs.Holding.{cursor_of_pass, is_full}
use Rattle.core_moves.specs.declared.held.Held.{Held}

-- Table A was dropped up to the key up to which all that the pass took is on finished pages; where there is no such key, nothing was. What the pass took
-- and isn't on finished pages is light, and so are these with what was left then: table A's list and a C1 of this weight weigh as much in all.
pub record FollowsPass (pass : Option SnowState) (c1 : ℕ) (log : LogState) : Type 0 where
  pub floor : log.a.floor ≡ released_by pass
  pub whole : log.a.floor ≡ None → log.a.dropped ≡ 0
  pub above_floor : above log.a.floor log.a.entries ≡ log.a.entries
  pub covers : PassCovers (listed_in_a log + c1) pass log.a.entries

-- One geometry; the roles of the lanes are the catalogue's; the tables are sorted and may weigh as much as the high mark; and table A was dropped up to
-- what the pass has on finished pages.
pub record IsOne (held : Held) : Type 0 where
  pub gears : held.gears.sizes ≡ held.runs.sizes
  pub lanes : held.log.lanes.sizes ≡ held.runs.sizes
  pub roles : held.log.lanes.roles ≡ held.runs.catalogue.lanes
  pub apart : AreRoles held.runs.catalogue.lanes
  pub reserved_a : high_mark held.runs.sizes ≤ held.log.a.reserved
  pub reserved_b : high_mark held.runs.sizes ≤ held.log.b.reserved
  pub sorted_a : AreSorted held.log.a.entries
  pub sorted_b : AreSorted held.log.b.entries
  pub follows : FollowsPass held.runs.pass held.runs.catalogue.c1.weight held.log

-- ---- what is read off it

-- the merge runs, and nothing is left of its inputs
abbrev pub IsPassDone : Held → Type 0
IsPassDone held = IsTrue (is_some held.runs.pass) × (left_for_pass held.runs.pass held.log.a.entries ≡ 0)

abbrev pub IsDeepDone : Held → Type 0
IsDeepDone held = IsTrue (is_some held.runs.deep) × (left_for_deep held.runs.deep ≡ 0)

-- it is done or absent
abbrev pub is_pass_over : Held → Bool
is_pass_over held = not (is_some held.runs.pass) || (left_for_pass held.runs.pass held.log.a.entries == 0)

abbrev pub is_deep_over : Held → Bool
is_deep_over held = not (is_some held.runs.deep) || (left_for_deep held.runs.deep == 0)

-- the pass's run is as heavy as C1's mark, so C1 is rotated with it
abbrev pub is_run_full : Held → Bool
is_run_full held = is_full held.runs.sizes (made_by_pass held.runs.pass)

-- What a command writes goes to table A: no pass runs, or it takes the entries with it. Otherwise they all go to table B.
abbrev pub goes_ahead : Entries → Held → Bool
goes_ahead more held = not (is_some held.runs.pass) || joins_pass (cursor_of_pass held.runs.pass) held.log.b.entries more

-- how much the components weigh, as they were last committed
abbrev pub components_in : Held → ℕ
components_in held = held.runs.catalogue.c1.weight + held.runs.catalogue.c1x.weight + held.runs.catalogue.c2.weight

-- the charge: the components, and what the memory table counts
abbrev pub charge_in : Held → ℕ
charge_in held = components_in held + (if is_some held.runs.pass then held.gears.pass_memory + held.gears.pass_admitted else weight_of_tables held.log)
