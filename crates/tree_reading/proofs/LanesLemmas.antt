-- The replay of two lanes, one behind the other.
use Rattle.std.proofs.Common.{◌≡◌, ℕ, ◌≤◌, List, [], ◌∷◌, length, take, refl, ap, sym, subst, Bool, IsTrue, Err}
use Rattle.blsm_model.specs.Sizes.{Sizes}
use Rattle.record_delta.specs.Entries.{Entries, entries_weight, replayed}
use Rattle.gated_log.specs.Lane.{Lane}
use Rattle.gated_log.specs.declared.replay.LaneBroken.{LaneBroken}
use Rattle.gated_log.specs.declared.replay.LaneBroken.TheVariants.{Damaged}
use Rattle.tree_reading.specs.declared.lane.LaneEnd.{LaneEnd}
use Rattle.tree_reading.specs.Lane.{IsDamagedLane, IsReplayed, TellsReplay}

all_taken : (es : Entries) → take (length es) es ≡ es
all_taken [] = refl
all_taken (e ∷ es) = ap (λ (l : Entries). e ∷ l) (all_taken es)

pub within_room : (sizes : Sizes) (room : ℕ) (of : Lane) (table : Entries) (end : LaneEnd) → IsReplayed sizes room of table end
    → entries_weight table ≤ room
within_room sizes room of table end is =
    subst (λ (l : Entries). entries_weight l ≤ room) (sym is.table_is)
    (subst (λ (l : Entries). entries_weight (replayed l) ≤ room) (all_taken of.entries) (is.within (length of.entries)))

pub lane_damage : (sizes : Sizes) (lane room : ℕ) (table : Entries) (honest : Bool) (file : List ℕ) {broken : LaneBroken} (n : ℕ) → broken ≡ Damaged n → TellsReplay sizes lane room table honest file (Err broken)
    → (n ≡ lane) × (IsTrue honest → IsDamagedLane sizes lane room file)
lane_damage sizes lane room table honest file n is told = subst (λ (b : LaneBroken). TellsReplay sizes lane room table honest file (Err b)) is told
