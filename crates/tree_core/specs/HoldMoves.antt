-- What a call for a seat's hold does to what is in memory, before it notes its entry.
use Rattle.std.specs.Prelude.{⊤, ◌≡◌, ◌≢◌, ℕ, Bool, List, Option}
use Rattle.page_space.specs.Space.{SpaceState, KeepsOtherPins}
use Rattle.scan_view.specs.Hold.{HoldState}
use Rattle.scan_view.specs.Holds.{hold_of}
use Rattle.tree_file.specs.Tree.{Tree}
use Rattle.tree_runs.specs.Runs.{AreRunning}
use Rattle.tree_runs.specs.Holding.{AreOf}
use Rattle.core_moves.specs.declared.held.Held.{Held}
use Rattle.tree_core.specs.Core.{CoreState}

-- with this map of the pages
abbrev pub mapped : SpaceState → Held → Held
mapped space held = record held { runs = record held.runs { space = space } }

-- The seat's pins and its hold change, and nothing else: the merges run on, over the same lists.
pub record MovesHold (seat : ℕ) (old new : Held) (before after : List (Option HoldState)) : Type 0 where
  pub rest : new ≡ mapped new.runs.space old
  pub pins : KeepsOtherPins seat old.runs.space new.runs.space
  pub roles : new.runs.space.roles ≡ old.runs.space.roles
  pub holds : (other : ℕ) → other ≢ seat → hold_of other after ≡ hold_of other before
  pub running : (honest : Bool) (file : List ℕ) → AreRunning honest file old.runs → AreRunning honest file new.runs
  pub lists : (tree : Tree) (file : List ℕ) → AreOf old.runs tree file → AreOf new.runs tree file

-- a core without its disk
abbrev pub undisked : Held → List (Option HoldState) → CoreState ⊤
undisked held holds = record { disk = tt; held = held; holds = holds }
