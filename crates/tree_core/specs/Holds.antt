-- The callers' holds, and the rows that they have still to give.
use Rattle.std.specs.Prelude.{◌≡◌, ◌≢◌, ℕ, ◌<◌, ◌≤◌, List, Option, None, slice_index_or}
use Rattle.blsm_model.specs.Format.{callers}
use Rattle.blsm_model.specs.Sizes.{Sizes}
use Rattle.blsm_model.specs.declared.key.Key.{Key}
use Rattle.blsm_model.specs.declared.row.Row.{Row}
use Rattle.blsm_model.specs.declared.row.Value.{Value}
use Rattle.disk_trait.specs.Disk.{DiskState}
use Rattle.page_space.specs.Space.{KeepsOtherPins}
use Rattle.scan_view.specs.Hold.{HoldState}
use Rattle.scan_view.specs.Holds.{hold_of, pages_behind}
use Rattle.scan_view.specs.Pins.{HasHeld}
use Rattle.tree_runs.specs.Runs.{hold_share}
use Rattle.tree_machine.specs.Machine.{Machine}
use Rattle.core_moves.specs.declared.held.Held.{Held}
use Rattle.tree_core.specs.Core.{CoreState}
use Rattle.tree_core.specs.Standing.{StandsFor}

-- Each hold has no more pages than a hold may pin.
abbrev pub AreFew : Sizes → List (Option HoldState) → Type 0
AreFew sizes holds = (seat : ℕ) → pages_behind (hold_of seat holds) ≤ hold_share sizes

-- Each caller's hold has those rows to give, from pages that the seat pins.
abbrev pub HoldRows : Held → List (Option HoldState) → DiskState → List (Option (List Row)) → Type 0
HoldRows held holds d rows = (seat : ℕ) → seat < callers → HasHeld held.runs.sizes held.runs.space.pins seat (hold_of seat holds) (slice_index_or rows seat None) d.bytes

-- The whole core stands for it: its holds have the rows that the machine's have.
abbrev pub StandsWhole : {D : Type 0} → (D → DiskState) → List (Key × Value) → CoreState D → Machine → Type 0
StandsWhole state opening core m = StandsFor (HoldRows core.held core.holds (state core.disk)) opening core.held m (state core.disk)

-- A call that has nothing to do with holds leaves them as they are, and the pages that they pin.
pub record KeepsHolds {D : Type 0} (old new : CoreState D) : Type 0 where
  pub holds : new.holds ≡ old.holds
  pub pins : new.held.runs.space.pins ≡ old.held.runs.space.pins
  pub sizes : new.held.runs.sizes ≡ old.held.runs.sizes

-- Each other seat's hold stays, and pins the same pages. All else but the seat's pins, its hold and the book stays too.
pub record LeavesOthers {D : Type 0} (seat : ℕ) (old new : CoreState D) : Type 0 where
  pub holds : (other : ℕ) → other ≢ seat → hold_of other new.holds ≡ hold_of other old.holds
  pub pins : KeepsOtherPins seat old.held.runs.space new.held.runs.space
  pub roles : new.held.runs.space.roles ≡ old.held.runs.space.roles
  pub rest : new.held ≡ record old.held { runs = record old.held.runs { space = new.held.runs.space }; book = new.held.book }
