-- What contracts see of the core of a tree, and what its type keeps on every disk. Weights are in bytes.
use Rattle.std.specs.Prelude.{◌≡◌, ◌+◌, ◌≤◌, List, Option, None}
use Rattle.disk_trait.specs.Disk.{DiskState}
use Rattle.gear_sched.specs.Gears.{first_debt, second_debt}
use Rattle.blsm_model.specs.Facts.{Facts}
use Rattle.page_file.specs.Page.{most_used}
use Rattle.pacing.specs.Pace.{Pace, charge}
use Rattle.record_delta.specs.Entries.{above, entries_weight}
use Rattle.seat_book.specs.Seats.{Beside, facts_in}
use Rattle.scan_view.specs.Hold.{HoldState}
use Rattle.tree_runs.specs.Holding.{cursor_of_pass}
use Rattle.core_moves.specs.declared.held.Held.{Held}
use Rattle.core_moves.specs.Held.{charge_in}
use Rattle.core_moves.specs.Needs.{IsOn}
use Rattle.core_pace.specs.Pacing.{IsRunBook, IsPacedHeld}

-- The disk, what the core has in memory of the tree and of its seats, and each caller's hold, if it has one.
pub record CoreState (D : Type 0) : Type 0 where
  pub disk : D
  pub held : Held
  pub holds : List (Option HoldState)

-- What table A has that the pass took weighs no more than a page: the rest of that is on finished pages, and was dropped.
abbrev pub IsLight : Held → Type 0
IsLight held =
    entries_weight held.log.a.entries ≤ entries_weight (above (cursor_of_pass held.runs.pass) held.log.a.entries) + most_used

-- What is told of the run, also once the tree has stopped: its book, its peak and its charge are a pace's, and what was taken has left the memory table.
pub record IsTold (held : Held) (pace : Pace) : Type 0 where
  pub told : IsRunBook held.book pace
  pub peak : pace.peak ≡ held.book.counts.peak
  pub opening : pace.opening ≡ held.book.counts.charge
  pub charge_is : charge pace ≡ charge_in held
  pub sizes : pace.gears.sizes ≡ held.runs.sizes
  pub light : IsLight held

-- while it runs, its numbers are the pace's, and its merges are in order
pub record IsLive (held : Held) (pace : Pace) (d : DiskState) : Type 0 where
  pub paced : IsPacedHeld held pace
  pub on : IsOn held d

pub record HoldsPace (held : Held) (pace : Pace) (d : DiskState) : Type 0 where
  pub told : IsTold held pace
  pub live : held.book.stopped ≡ None → IsLive held pace d

-- On every disk the core has a pace.
pub record IsCore (held : Held) (d : DiskState) : Type 0 where
  pub pace : Pace
  pub holds : HoldsPace held pace d

-- ---- the facts for a lock

-- what each seat owes
abbrev pub beside_in : Held → Beside
beside_in held = record { first = λ seat. first_debt held.gears seat; second = λ seat. second_debt held.gears seat }

abbrev pub facts_of_held : Held → Facts
facts_of_held held = facts_in (beside_in held) held.book
