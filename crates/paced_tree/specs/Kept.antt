-- What a paced tree keeps, over every list of steps by any seats and with any outcomes.
use Rattle.std.specs.Prelude.{◌≡◌, ⊤, List, [], ◌∷◌, None}
use Rattle.blsm_model.specs.declared.key.Key.{Key}
use Rattle.blsm_model.specs.declared.row.Value.{Value}
use Rattle.blsm_model.specs.Sizes.{Sizes}
use Rattle.pacing.specs.Laws.{IsOpening}
use Rattle.pacing.specs.Counts.{IsCounted, AreFew}
use Rattle.pacing.specs.Kept.{IsPaced}
use Rattle.pacing.specs.Spent.{IsSpent}
use Rattle.tree_machine.specs.Layers.{AreLight, AreBases, AreSettled}
use Rattle.record_delta.specs.Entries.{Entries, AreSorted, entries_weight}
use Rattle.tree_machine.specs.Machine.{Machine}
use Rattle.tree_machine.specs.Stands.{Stands, WritesFit}
use Rattle.tree_machine.specs.Steps.{Outcome}
use Rattle.tree_machine.specs.declared.step.Step.{Step}
use Rattle.paced_tree.specs.Numbers.{HasTaken, pace_of}
use Rattle.paced_tree.specs.Booking.{IsBookOf}

-- The components of a store that was opened: sorted, of records that fit the format, C2 of bases only, and within the bounds of their sizes.
pub record AreComponents (sizes : Sizes) (c1 c2 : Entries) : Type 0 where
  pub sorted_c1 : AreSorted c1
  pub sorted_c2 : AreSorted c2
  pub light_c1 : AreLight c1
  pub light_c2 : AreLight c2
  pub bases : AreBases c2
  pub numbers : IsOpening sizes (entries_weight c1) (entries_weight c2)

-- It stands for its history, and its merges keep pace.
pub record IsPacedTree (opening : List (Key × Value)) (m : Machine) : Type 0 where
  pub stands : Stands opening m
  pub settled : AreSettled m
  pub started : HasTaken m.merges.pass m.gears.pass_taken
  pub booked : IsBookOf m.book m.seats (pace_of m)
  pub paced : IsPaced (pace_of m)
  -- its merges are few, and each pass was begun for a write of its own, but where an admission failed
  pub few : AreFew (pace_of m)
  pub counted : m.stopped ≡ None → IsCounted (pace_of m)
  pub spent : IsSpent (pace_of m)

-- all that the steps write fits the format
abbrev pub AllFit : List (Step × Outcome) → Type 0
AllFit [] = ⊤
AllFit (made ∷ steps) = WritesFit made.0.kind × AllFit steps
