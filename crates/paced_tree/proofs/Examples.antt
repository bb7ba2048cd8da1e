-- A hundred puts of one key and 512 bytes, each followed by two payments, run over the lists and told by the numbers: the 33rd, the
-- 66th and the 99th begin a pass and pay one quantum, and the next put swaps it in.
use Rattle.std.proofs.Common.{◌≡◌, ℕ, List, [], ◌∷◌, refl, replicate, take, true, false, arith}
use Rattle.std.specs.Prelude.{flat_map}
use Rattle.blsm_model.specs.Sizes.{default_sizes}
use Rattle.blsm_model.specs.declared.op.Op.TheVariants.{Put}
use Rattle.pacing.specs.Pace.{Pace, passes_begun, rotations, opened as pace_opened}
use Rattle.pacing.specs.Laws.{IsOpening}
use Rattle.pacing.specs.Steps.{Event, Admit, after}
use Rattle.blsm_model.specs.declared.key.Key.{Key}
use Rattle.record_delta.specs.declared.record.Rec.TheVariants.{Base, Tomb}
use Rattle.record_delta.specs.Entries.{Entries, entries_weight, replayed}
use Rattle.tree_machine.specs.declared.step.Kind.TheVariants as kind
use Rattle.tree_machine.specs.declared.step.Step.{Step}
use Rattle.tree_machine.specs.Machine.{Machine, opened}
use Rattle.tree_machine.specs.Steps.{Outcome, Well}
use Rattle.tree_machine.specs.Plays.{played}
use Rattle.paced_tree.specs.Numbers.{pace_of}
use Rattle.pacing.proofs.Terms.{no_fronts, fronts_after}

abbrev fresh : Machine
fresh = opened default_sizes [] [] (record { version = 1; lane_a = 0; lane_b = 1; lane_spare = 2 }) 0 (record { entries = replicate 16 1000; rows = replicate 16 1000 })

abbrev put_and_pay : List (Step × Outcome)
put_and_pay =
    (record { seat = 0; kind = kind.Admit (Put (replicate 64 107) (record { count = 9; text = replicate 435 120 })) }, Well)
    ∷ (record { seat = 0; kind = kind.Pay }, Well) ∷ (record { seat = 0; kind = kind.Pay }, Well) ∷ []

abbrev hundred : Pace
hundred = pace_of (played fresh (flat_map (λ (n : ℕ). put_and_pay) (replicate 100 0)))

hundred_weighs : hundred.a ∷ hundred.b ∷ hundred.c1 ∷ hundred.c1x ∷ hundred.c2 ∷ hundred.work ∷ hundred.peak ∷ hundred.passes ∷ hundred.deeps ∷ [] ≡ 512 ∷ 0 ∷ 512 ∷ 0 ∷ 0 ∷ 3 ∷ 512 ∷ 3 ∷ 0 ∷ []
hundred_weighs = refl

hundred_counts : hundred.writes ∷ hundred.admitted ∷ passes_begun hundred ∷ rotations hundred ∷ [] ≡ 100 ∷ 51200 ∷ 3 ∷ 0 ∷ []
hundred_counts = refl

-- the empty store of the default sizes may be opened
empty_opening : IsOpening default_sizes 0 0
empty_opening = record { geometry = record { half = (omega arith, omega arith); ratio = (omega arith, omega arith); low = omega arith; quantum = (omega arith, omega arith) }; mark = omega arith; full = omega arith }

-- A put of 512 bytes and then a del of its key, which weighs 77, leave a lane whose whole weighs 77, and whose front of one record weighs
-- 512: so much a replay meets on its way.
abbrev heavy_key : Key
heavy_key = replicate 64 107

abbrev put_then_del : Entries
put_then_del = (heavy_key, Base (record { count = 9; text = replicate 435 120 })) ∷ (heavy_key, Tomb) ∷ []

whole_weighs : entries_weight (replayed put_then_del) ≡ 77
whole_weighs = refl

front_weighs : entries_weight (replayed (take 1 put_then_del)) ≡ 512
front_weighs = refl

abbrev put_first : Event
put_first = Admit 0 (record { weight = 512; writes = 1; is_del = false; ahead = true; after = 512; most = 512 })

abbrev del_then : Event
del_then = Admit 0 (record { weight = 77; writes = 1; is_del = true; ahead = true; after = 77; most = 77 })

front_is_kept : (fronts_after (after (pace_opened default_sizes 0 0) put_first) del_then
    (fronts_after (pace_opened default_sizes 0 0) put_first no_fronts)).lane_a
    ≡ 512
front_is_kept = refl
