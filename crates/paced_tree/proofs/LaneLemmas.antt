-- A lane's fronts, one entry at a time.
use Rattle.std.proofs.Common.{◌≡◌, refl, sym, subst, ℕ, ◌≤◌, [], take, arith}
use Rattle.std.proofs.lemmas.Grind.{common_steps}
use Rattle.std.proofs.lemmas.Bool.Decides.{nat_tests}
use Rattle.std.proofs.lemmas.List.{append-nil, append_assoc, take_all}
use Rattle.record_delta.specs.Entries.{Entries, entries_weight, replayed, with_record}
use Rattle.record_delta.specs.Several.{with_records}
use Rattle.paced_tree.specs.Lanes.{IsLane}
use Rattle.std.specs.Prelude.{max, ◌∷◌, ◌++◌, ◌+◌}
use Rattle.blsm_model.specs.declared.key.Key.{Key}
use Rattle.record_delta.specs.declared.record.Rec.{Rec}
use Rattle.record_delta.specs.Replays.{ReplaysWithin}
use Rattle.pacing.specs.Pace.{Pace}
use Rattle.pacing.specs.Kept.{IsPaced}
use Rattle.pacing.specs.Fronts.{Fronts, AreFronts}
use Rattle.paced_tree.proofs.Terms.{most_on_way}

abbrev none : Entries
none = []

take_none : (n : ℕ) → take n none ≡ none
take_none n = take_all n none (omega arith)

pub empty_lane : IsLane [] [] 0
empty_lane = record { replays = refl; fronts = λ n. subst (λ es. entries_weight (replayed es) ≤ 0) (sym (take_none n)) (omega arith) }

-- one entry more
grows_by_one : (lane table : Entries) (most : ℕ) (key : Key) (rec : Rec) → IsLane lane table most → IsLane (lane ++ (key, rec) ∷ []) (with_record key rec table) (max most (entries_weight (with_record key rec table)))
grows_by_one lane table most key rec is = grind (arith, common_steps, nat_tests)

within_more : (lane table : Entries) (most more : ℕ) → most ≤ more → IsLane lane table most → IsLane lane table more
within_more lane table most more le is = record { replays = is.replays; fronts = λ n. omega (arith, is.fronts n, le) }

-- several more
pub lane_grows : (more lane table : Entries) (most : ℕ) → IsLane lane table most
    → IsLane (lane ++ more) (with_records more table) (max most (most_on_way more table))
lane_grows [] lane table most is =
    subst (λ (l : Entries). IsLane l table (max most (entries_weight table))) (sym (append-nil lane)) (within_more lane table most (max most (entries_weight table)) (omega arith) is)
lane_grows (e ∷ more) lane table most is =
    let then : Entries = with_record e.0 e.1 table in
    subst (λ (l : Entries). IsLane l (with_records more then) (max most (most_on_way (e ∷ more) table))) (append_assoc lane (e ∷ []) more)
    (within_more ((lane ++ e ∷ []) ++ more) (with_records more then) (max (max most (entries_weight then)) (most_on_way more then))
    (max most (most_on_way (e ∷ more) table)) (omega arith)
    (lane_grows more (lane ++ e ∷ []) then (max most (entries_weight then)) (grows_by_one lane table most e.0 e.1 is)))

pub lanes_replay : (pace : Pace) (fronts : Fronts) (lane_a lane_b a b : Entries) → IsPaced pace → AreFronts pace fronts → IsLane lane_a a fronts.lane_a → IsLane lane_b b fronts.lane_b
    → pace.a ≡ entries_weight a → ReplaysWithin pace.gears.sizes (pace.c1 + pace.c1x + pace.c2) lane_a lane_b
lanes_replay pace fronts lane_a lane_b a b paced are is_a is_b weighs = grind (arith, common_steps, nat_tests)
