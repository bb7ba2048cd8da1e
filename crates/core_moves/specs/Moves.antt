-- What each move of the core makes of what it has in memory, on any disk. Weights are in bytes.
use Rattle.std.specs.Prelude.{◌≡◌, ◌⊎◌, ℕ, ◌+◌, is_some, not, ◌&&◌, nat_lt, if◌then◌else◌}
use Rattle.record_delta.specs.Entries.{Entries, entries_weight}
use Rattle.gear_sched.specs.Gears.{GearState, entered, forgiven, took_first, took_second, passing, pass_ended, rotated, deep_ended}
use Rattle.seat_book.specs.State.{BookState, pass_counted_in, deep_counted_in, quantum_counted_in, peaked_in}
use Rattle.gated_log.specs.Lane.{no_lane}
use Rattle.tree_file.specs.Tree.{Tree}
use Rattle.tree_file.specs.Places.{TurnsRoles}
use Rattle.tree_log.specs.Log.{LogState, IsLogOf, Grows, Turns, dropped_by, turned_log, weight_of_tables, with_entries}
use Rattle.merge_ends.specs.Output.{IsUpTo}
use Rattle.tree_runs.specs.Runs.{PassCovers, made_by_pass, pass_begun, released_by}
use Rattle.tree_runs.specs.Holding.{SwapsDeep, SwapsPass, Rotates, cursor_of_pass, KeepsAllButPass, KeepsAllButDeep, PassTakes, DeepTakes}
use Rattle.core_moves.specs.declared.held.Held.{Held}
use Rattle.core_moves.specs.Held.{IsPassDone, IsDeepDone, is_pass_over, is_deep_over, is_run_full, goes_ahead}

-- ---- swaps, and begins

-- the deep merge is swapped in
pub record SwapsDeepIn (old new : Held) : Type 0 where
  pub runs : SwapsDeep old.runs new.runs
  pub log : new.log ≡ old.log
  pub gears : new.gears ≡ deep_ended old.gears
  pub spring : new.spring ≡ old.spring
  pub book : new.book ≡ deep_counted_in old.book

-- the pass is swapped in, and a deep merge begins with it where its run is full
abbrev pub gears_after_pass : Held → GearState
gears_after_pass old =
    if is_run_full old then rotated (pass_ended old.gears) ((made_by_pass old.runs.pass).weight + old.runs.catalogue.c2.weight) else pass_ended old.gears

pub record SwapsPassIn (old new : Held) : Type 0 where
  pub runs : SwapsPass old.runs new.runs
  pub log : new.log ≡ turned_log old.log
  pub turns : Turns old.log new.log
  pub gears : new.gears ≡ gears_after_pass old
  pub spring : new.spring ≡ entries_weight old.log.b.entries
  pub book : new.book ≡ pass_counted_in old.book

-- C1 is rotated by itself
pub record RotatesIn (old new : Held) : Type 0 where
  pub runs : Rotates old.runs new.runs
  pub log : new.log ≡ old.log
  pub gears : new.gears ≡ rotated old.gears (old.runs.catalogue.c1.weight + old.runs.catalogue.c2.weight)
  pub spring : new.spring ≡ old.spring
  pub book : new.book ≡ old.book

-- a pass begins, beside what the memory table weighs
abbrev pub with_pass_begun : Held → Held
with_pass_begun old = record old {
  runs = pass_begun (weight_of_tables old.log) old.runs;
  gears = passing old.gears old.runs.catalogue.c1.weight (weight_of_tables old.log);
}

-- it begins where none runs, and a write of this weight would bring the spring past its low mark
abbrev pub begun_in : ℕ → Held → Held
begun_in w old = if not (is_some old.runs.pass) && nat_lt old.runs.sizes.low (old.spring + w) then with_pass_begun old else old

-- ---- what is due before a write

-- the deep merge is swapped in where it is done
abbrev pub SettlesDeep : Held → Held → Type 0
SettlesDeep old new = (IsDeepDone old × SwapsDeepIn old new) ⊎ ((IsDeepDone old → ⊥) × (new ≡ old))

-- and then the pass
abbrev pub SettlesPass : Held → Held → Type 0
SettlesPass old new = (IsPassDone old × SwapsPassIn old new) ⊎ ((IsPassDone old → ⊥) × (new ≡ old))

-- ---- quanta

-- The seat's quantum of the pass took so much: a quantum's weight or all that was left, and no more than two entries beyond it. Table A is dropped up to
-- the key up to which all that was taken is on finished pages, which never falls.
pub record TakesOfPass (seat n : ℕ) (old new : Held) : Type 0 where
  pub takes : PassTakes old.runs.sizes.quantum old.runs.pass new.runs.pass old.log.a.entries n
  pub covers : (total : ℕ) → PassCovers total old.runs.pass old.log.a.entries
      → PassCovers total new.runs.pass old.log.a.entries × IsUpTo (released_by old.runs.pass) (released_by new.runs.pass)
  pub others : KeepsAllButPass old.runs new.runs
  pub log : new.log ≡ dropped_by (released_by new.runs.pass) old.log
  pub gears : new.gears ≡ took_first old.gears seat n
  pub spring : new.spring ≡ old.spring
  pub book : new.book ≡ quantum_counted_in seat old.book

-- and of the deep merge
pub record TakesOfDeep (seat n : ℕ) (old new : Held) : Type 0 where
  pub takes : DeepTakes old.runs.sizes.quantum old.runs.deep new.runs.deep n
  pub others : KeepsAllButDeep old.runs new.runs
  pub log : new.log ≡ old.log
  pub gears : new.gears ≡ took_second old.gears seat n
  pub spring : new.spring ≡ old.spring
  pub book : new.book ≡ quantum_counted_in seat old.book

-- the seat's debts that may be forgiven are
abbrev pub with_debts_forgiven : ℕ → Held → Held
with_debts_forgiven seat old = record old { gears = forgiven old.gears seat (is_pass_over old) (is_deep_over old) }

-- ---- writes, and the book

-- What the seat's command writes was appended, ahead of the pass or behind it, and is in its table; the peak counts it.
pub record WritesIn (seat : ℕ) (more : Entries) (old new : Held) : Type 0 where
  pub runs : new.runs ≡ old.runs
  pub log : new.log ≡ with_entries (goes_ahead more old) more old.log
  pub grows : Grows (goes_ahead more old) more old.log new.log
  pub gears : new.gears ≡ entered old.gears seat (entries_weight more)
  pub spring : new.spring ≡ (if is_some old.runs.pass then old.spring else old.spring + entries_weight more)
  pub book : new.book ≡ peaked_in (weight_of_tables new.log) old.book

-- what is done to the book alone
abbrev pub with_book : BookState → Held → Held
with_book book held = record held { book = book }

-- ---- what stays

-- A merge took a quantum, or failed to: nothing but the merges, and the pages that they take, has changed, where it failed.
pub record KeepsAllButMerges (failed : Type 0) (old new : Held) : Type 0 where
  pub sizes : failed → new.runs.sizes ≡ old.runs.sizes
  pub catalogue : failed → new.runs.catalogue ≡ old.runs.catalogue
  pub pass : failed → is_some new.runs.pass ≡ is_some old.runs.pass
  pub deep : failed → is_some new.runs.deep ≡ is_some old.runs.deep
  pub log : failed → new.log ≡ old.log
  pub gears : failed → new.gears ≡ old.gears
  pub spring : failed → new.spring ≡ old.spring
  pub book : failed → new.book ≡ old.book
  pub pins : failed → new.runs.space.pins ≡ old.runs.space.pins
  pub cursor : failed → cursor_of_pass new.runs.pass ≡ cursor_of_pass old.runs.pass

-- what a turn of the log says of its tree
abbrev pub TurnsLog : LogState → LogState → Type 0
TurnsLog old new = (tree next : Tree) → TurnsRoles tree.catalogue next.catalogue → next.lane_a ≡ tree.lane_b → next.lane_b ≡ no_lane
    → IsLogOf tree old → IsLogOf next new
