-- What the core stands for on an honest disk, while it runs and once it is stopped: a state of the machine over lists.
use Rattle.std.specs.Prelude.{◌≡◌, ⊤, ℕ, List, Option, None, IsSome}
use Rattle.blsm_model.specs.declared.key.Key.{Key}
use Rattle.blsm_model.specs.declared.row.Row.{Row}
use Rattle.blsm_model.specs.declared.row.Value.{Value}
use Rattle.disk_trait.specs.Disk.{DiskState}
use Rattle.pacing.specs.Fronts.{Fronts, AreFronts}
use Rattle.tree_machine.specs.Machine.{Machine, charge}
use Rattle.paced_tree.specs.Numbers.{pace_of}
use Rattle.paced_tree.specs.Kept.{IsPacedTree}
use Rattle.seat_book.specs.State.{book_of}
use Rattle.tree_file.specs.Tree.{Tree}
use Rattle.tree_runs.specs.Holding.{StandOver}
use Rattle.core_moves.specs.declared.held.Held.{Held}
use Rattle.core_moves.specs.Held.{charge_in}
use Rattle.core_lists.specs.Standing.{HoldsMachine}
use Rattle.core_lists.specs.Shown.{CommitsAs, HasFronts, ShowsWhole}

-- While it runs the disk stands on a tree, with whose lists the core is the machine's state; no front of a lane weighs more than these.
pub record RunsOver (held : Held) (m : Machine) (d : DiskState) : Type 0 where
  pub fronts : Fronts
  pub tree : Tree
  pub over : StandOver held.runs tree d
  pub holds : HoldsMachine held tree m
  pub within : AreFronts (pace_of m) fronts
  pub lanes : HasFronts tree m.lists fronts

-- Once it is stopped, each image and what the disk reads as show the whole history, and no work that wasn't counted, nor a commit but one that failed.
pub record HasStopped (opening : List (Key × Value)) (m : Machine) (d : DiskState) : Type 0 where
  pub reads : ShowsWhole opening m d.bytes
  pub each : (c : List ℕ) → d.images c → ShowsWhole opening m c
  pub commits : CommitsAs m d

-- Nothing is said of the rows that the callers' holds have still to give.
abbrev pub AnyRows : List (Option (List Row)) → Type 0
AnyRows rows = ⊤

-- The core stands for this state of the machine, which is paced from the opening on; while it runs, `Rows` holds of the rows to come.
pub record StandsFor (Rows : List (Option (List Row)) → Type 0) (opening : List (Key × Value)) (held : Held) (m : Machine) (d : DiskState) : Type 0 where
  pub paced : IsPacedTree opening m
  pub sizes : m.gears.sizes ≡ held.runs.sizes
  pub gears : m.gears ≡ held.gears
  pub book : book_of m ≡ held.book
  pub charge_is : charge m ≡ charge_in held
  pub runs : held.book.stopped ≡ None → RunsOver held m d
  pub rows : held.book.stopped ≡ None → Rows m.holds
  pub stopped : IsSome held.book.stopped → HasStopped opening m d
