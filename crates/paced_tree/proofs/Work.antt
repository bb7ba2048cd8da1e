-- What the cursors pass is at most what the quanta can take.
use Rattle.std.proofs.Common.{◌≡◌, ◌∙◌, refl, sym, ap, subst, ℕ, ◌+◌, ◌*◌, ◌^◌, ◌<◌, ◌≤◌, ◌⊎◌, inl, inr, Bool, cond, true, false, List, [], ◌∷◌, Option, Some, None, length, set, sum, arith}
use Rattle.std.proofs.lemmas.Grind.{common_steps}
use Rattle.std.proofs.lemmas.Bool.Decides.{nat_tests}
use Rattle.std.specs.Prelude.{slice_index}
use Rattle.std.proofs.Math.Nat.{mul-add, mul-le-mul_left}
use Rattle.blsm_model.specs.Format.{most_weight, most_entries}
use Rattle.blsm_model.specs.Sizes.{Sizes, IsGeometry}
use Rattle.blsm_model.specs.Geometry.{capacity}
use Rattle.blsm_model.specs.Histories.{counted_writes}
use Rattle.blsm_model.specs.declared.key.Key.{Key}
use Rattle.blsm_model.specs.declared.row.Value.{Value}
use Rattle.blsm_model.specs.declared.room.Room.{Room}
use Rattle.blsm_model.proofs.OpLemmas.{few_counted}
use Rattle.record_delta.specs.Entries.{Entries, entries_weight}
use Rattle.pacing.specs.Kept.{most_taken}
use Rattle.pacing.proofs.Numbers.{sum_set, small}
use Rattle.tree_machine.specs.Lists.{map_in}
use Rattle.tree_machine.specs.Merges.{Merge, begun}
use Rattle.tree_machine.specs.Layers.{IsSound}
use Rattle.tree_machine.specs.Machine.{Machine, Catalogue, opened, seats}
use Rattle.tree_machine.specs.Moves.{pass_quantum, deep_quantum, pass_quantum_of, deep_quantum_of}
use Rattle.tree_machine.specs.Steps.{Outcome}
use Rattle.tree_machine.specs.Plays.{may, may_step, stepped, stepped_as, played, played_one}
use Rattle.tree_machine.specs.Effects.{passed_by, work_between}
use Rattle.tree_machine.specs.declared.step.Step.{Step}
use Rattle.tree_machine.specs.declared.step.Kind.{Kind}
use Rattle.tree_machine.proofs.CarryLemmas.{behind_none}
use Rattle.tree_machine.proofs.EffectLemmas.{step_works}
use Rattle.tree_machine.proofs.CommitLemmas.{step_commits}
use Rattle.tree_machine.proofs.GrowLemmas.{step_room}
use Rattle.tree_machine.proofs.FrameLemmas.{step_fixed}
use Rattle.tree_machine.proofs.QuantumLemmas.{quantum_weighs, quantum_few}
use Rattle.tree_machine.proofs.LightLemmas.{light_weighs}
use Rattle.paced_tree.specs.Kept.{AreComponents, IsPacedTree, AllFit}
use Rattle.paced_tree.specs.Laws.{work_in, AreSmall}
use Rattle.paced_tree.proofs.Promises.{has_way, opened_is_paced, one_is_paced, steps_are_paced, is_bounded}
use Rattle.tree_machine.proofs.Terms.{MergeStands, Rests, TakesQuantum, IsVersion}

-- ---- one merge

passed_same : (p : Option Merge) (newer older : Entries) → passed_by p p newer older ≡ 0
passed_same p newer older = grind (arith, common_steps, nat_tests)

passed_none : (p : Option Merge) (newer older : Entries) → passed_by p None newer older ≡ 0
passed_none p newer older = grind (arith, common_steps, nat_tests)

passed_begun : (p : Option Merge) (newer older : Entries) → passed_by p (Some begun) newer older ≡ 0
passed_begun None newer older = refl
passed_begun (Some merge) newer older = omega (arith, ap entries_weight (behind_none newer), ap entries_weight (behind_none older))

passed_stands : (done : Bool) (old new : Option Merge) (newer older : Entries) → MergeStands done old new → passed_by old new newer older ≡ 0
passed_stands done old new newer older h1 = grind (arith, common_steps, nat_tests, passed_same, passed_none, passed_begun)

-- ---- a quantum

pass_takes : (seat : ℕ) (m : Machine) → IsSound m → 1 ≤ m.gears.sizes.quantum → passed_by m.merges.pass (pass_quantum seat m).merges.pass m.lists.a m.lists.c1 ≤ most_taken m.gears.sizes
pass_takes seat m sound some = by m.merges.pass
  where
    by : (p : Option Merge) → passed_by p (pass_quantum_of p seat m).merges.pass m.lists.a m.lists.c1 ≤ most_taken m.gears.sizes
    by None = omega arith
    by (Some pass) =
        let weighs = quantum_weighs m.gears.sizes.quantum pass m.lists.a m.lists.c1 sound.layered.sorted_a sound.layered.sorted_c1 in
        let few = quantum_few m.gears.sizes.quantum most_weight pass m.lists.a m.lists.c1 some (light_weighs m.lists.a sound.light.a) (light_weighs m.lists.c1 sound.light.c1) in
        omega (arith, weighs, few)

deep_takes : (seat : ℕ) (m : Machine) → IsSound m → 1 ≤ m.gears.sizes.quantum → passed_by m.merges.deep (deep_quantum seat m).merges.deep m.lists.c1x m.lists.c2 ≤ most_taken m.gears.sizes
deep_takes seat m sound some = by m.merges.deep
  where
    by : (p : Option Merge) → passed_by p (deep_quantum_of p seat m).merges.deep m.lists.c1x m.lists.c2 ≤ most_taken m.gears.sizes
    by None = omega arith
    by (Some deep) =
        let weighs = quantum_weighs m.gears.sizes.quantum deep m.lists.c1x m.lists.c2 sound.layered.sorted_c1x sound.layered.sorted_c2 in
        let few = quantum_few m.gears.sizes.quantum most_weight deep m.lists.c1x m.lists.c2 some (light_weighs m.lists.c1x sound.light.c1x) (light_weighs m.lists.c2 sound.light.c2) in
        omega (arith, weighs, few)

-- the other merge's cursor stands
pass_leaves_deep : (seat : ℕ) (m : Machine) → (pass_quantum seat m).merges.deep ≡ m.merges.deep
pass_leaves_deep seat m = grind (arith, common_steps, nat_tests)

deep_leaves_pass : (seat : ℕ) (m : Machine) → (deep_quantum seat m).merges.pass ≡ m.merges.pass
deep_leaves_pass seat m = grind (arith, common_steps, nat_tests)

taken_work : (seat : ℕ) (m n : Machine) → IsSound m → 1 ≤ m.gears.sizes.quantum → (n.merges ≡ (pass_quantum seat m).merges) ⊎ (n.merges ≡ (deep_quantum seat m).merges) → work_between m n ≤ most_taken m.gears.sizes
taken_work seat m n h1 h2 h3 = grind (arith, common_steps, nat_tests, pass_leaves_deep, passed_same, pass_takes, deep_leaves_pass, deep_takes)

-- ---- a step

pub seat_below : (m : Machine) (seat : ℕ) (k : Kind) → may m seat k ≡ true → seat < seats
seat_below m seat k h1 = grind (arith, common_steps, nat_tests)

pub step_work : (opening : List (Key × Value)) (m : Machine) (seat : ℕ) (k : Kind) (outcome : Outcome) → IsPacedTree opening m → may m seat k ≡ true
    → work_between m (stepped_as m seat k outcome).state + most_taken m.gears.sizes * sum m.seats.quanta ≤ most_taken m.gears.sizes * sum (stepped_as m seat k outcome).state.seats.quanta
step_work opening m seat k outcome t ok = by (step_works m seat k outcome t.stands.sound (has_way opening m t))
  where
    some : 1 ≤ m.gears.sizes.quantum
    some = let fits = t.paced.within.sizes.quantum in omega (arith, fits)

    by : Rests m (stepped_as m seat k outcome).state ⊎ TakesQuantum seat m (stepped_as m seat k outcome).state
        → work_between m (stepped_as m seat k outcome).state + most_taken m.gears.sizes * sum m.seats.quanta ≤ most_taken m.gears.sizes * sum (stepped_as m seat k outcome).state.seats.quanta
    by (inl rests) =
        let same = ap (λ (xs : List ℕ). most_taken m.gears.sizes * sum xs) rests.quanta in
        omega (
          arith,
          same,
          passed_stands _ m.merges.pass (stepped_as m seat k outcome).state.merges.pass m.lists.a m.lists.c1 rests.pass,
          passed_stands _ m.merges.deep (stepped_as m seat k outcome).state.merges.deep m.lists.c1x m.lists.c2 rests.deep,
        )
    by (inr takes) =
        let there : seat < length m.seats.quanta = omega (arith, t.booked.seats, seat_below m seat k ok) in
        let more : sum (set m.seats.quanta seat (slice_index m.seats.quanta seat + 1)) ≡ sum m.seats.quanta + 1 = omega (arith, sum_set m.seats.quanta seat (slice_index m.seats.quanta seat + 1) there) in
        let after = ap (λ (xs : List ℕ). most_taken m.gears.sizes * sum xs) takes.quanta ∙ ap (λ n. most_taken m.gears.sizes * n) more in
        omega (arith, after, mul-add (most_taken m.gears.sizes) (sum m.seats.quanta) 1, taken_work seat m (stepped_as m seat k outcome).state t.stands.sound some takes.merge)

-- ---- a run

one_work : (opening : List (Key × Value)) (m : Machine) (made : Step × Outcome) → IsPacedTree opening m
    → work_between m (played_one m made) + most_taken m.gears.sizes * sum m.seats.quanta ≤ most_taken m.gears.sizes * sum (played_one m made).seats.quanta
one_work opening m made t = by (may_step m made.0) refl
  where
    by : (b : Bool) → may_step m made.0 ≡ b
        → work_between m (cond b (stepped m made.0 made.1).state m) + most_taken m.gears.sizes * sum m.seats.quanta ≤ most_taken m.gears.sizes * sum (cond b (stepped m made.0 made.1).state m).seats.quanta
    by true is = step_work opening m made.0.seat made.0.kind made.1 t is
    by false is = omega (arith, passed_same m.merges.pass m.lists.a m.lists.c1, passed_same m.merges.deep m.lists.c1x m.lists.c2)

one_sizes : (m : Machine) (made : Step × Outcome) → (played_one m made).gears.sizes ≡ m.gears.sizes
one_sizes m made = by (may_step m made.0) refl
  where
    by : (b : Bool) → may_step m made.0 ≡ b → (cond b (stepped m made.0 made.1).state m).gears.sizes ≡ m.gears.sizes
    by true is = (step_fixed m made.0.seat made.0.kind made.1 is).0
    by false is = refl

all_work : (opening : List (Key × Value)) (m : Machine) (steps : List (Step × Outcome)) → IsPacedTree opening m → AllFit steps
    → work_in m steps + most_taken m.gears.sizes * sum m.seats.quanta ≤ most_taken m.gears.sizes * sum (played m steps).seats.quanta
all_work opening m [] t fits = omega arith
all_work opening m (made ∷ steps) t fits = grind (arith, common_steps, nat_tests, all_work opening (played_one m made) steps (one_is_paced opening m made t fits.0) fits.1, one_work, one_is_paced, sum, one_sizes)

pub run_work : (sizes : Sizes) (c1 c2 : Entries) (catalogue : Catalogue) (faults : ℕ) (room : Room) (steps : List (Step × Outcome)) → AreComponents sizes c1 c2 → AllFit steps
    → work_in (opened sizes c1 c2 catalogue faults room) steps ≤ most_taken sizes * sum (played (opened sizes c1 c2 catalogue faults room) steps).seats.quanta
run_work sizes c1 c2 catalogue faults room steps are fits =
    let m = opened sizes c1 c2 catalogue faults room in
    let all = all_work (map_in (record { b = []; a = []; c1 = c1; c1x = []; c2 = c2 })) m steps (opened_is_paced sizes c1 c2 catalogue faults room are) fits in
    omega (arith, all)

-- ---- commits

all_commit : (first : ℕ) (opening : List (Key × Value)) (m : Machine) (steps : List (Step × Outcome)) → IsPacedTree opening m → AllFit steps → IsVersion first m → IsVersion first (played m steps)
all_commit first opening m [] t fits v = v
all_commit first opening m (made ∷ steps) t fits v = all_commit first opening (played_one m made) steps (one_is_paced opening m made t fits.0) fits.1 (by (may_step m made.0))
  where
    by : (b : Bool) → IsVersion first (cond b (stepped m made.0 made.1).state m)
    by true = step_commits first m made.0.seat made.0.kind made.1 t.stands.sound v
    by false = v

pub run_commits : (sizes : Sizes) (c1 c2 : Entries) (catalogue : Catalogue) (faults : ℕ) (room : Room) (steps : List (Step × Outcome)) → AreComponents sizes c1 c2 → AllFit steps
    → (played (opened sizes c1 c2 catalogue faults room) steps).catalogue.version ≤ catalogue.version + 3 * length (counted_writes (played (opened sizes c1 c2 catalogue faults room) steps).book.entries) + 5
run_commits sizes c1 c2 catalogue faults room steps are fits =
    let m = opened sizes c1 c2 catalogue faults room in
    let map = map_in (record { b = []; a = []; c1 = c1; c1x = []; c2 = c2 }) in
    let tree = opened_is_paced sizes c1 c2 catalogue faults room are in
    let v = all_commit catalogue.version map m steps tree fits (omega arith) in
    let b = is_bounded map (played m steps) (steps_are_paced map m steps tree fits) in
    omega (arith, v, b.begins, b.rotations)

-- ---- small numbers

one_room : (m : Machine) (made : Step × Outcome) → length (played_one m made).book.entries + sum (played_one m made).book.room.entries ≡ length m.book.entries + sum m.book.room.entries
one_room m made = by (may_step m made.0) refl
  where
    by : (b : Bool) → may_step m made.0 ≡ b
        → length (cond b (stepped m made.0 made.1).state m).book.entries + sum (cond b (stepped m made.0 made.1).state m).book.room.entries ≡ length m.book.entries + sum m.book.room.entries
    by true is = step_room m made.0.seat made.0.kind made.1 is
    by false is = refl

all_room : (m : Machine) (steps : List (Step × Outcome)) → length (played m steps).book.entries + sum (played m steps).book.room.entries ≡ length m.book.entries + sum m.book.room.entries
all_room m [] = refl
all_room m (made ∷ steps) = all_room (played_one m made) steps ∙ one_room m made

-- the capacity is a small number
capacity_small : (sizes : Sizes) → IsGeometry sizes → capacity sizes ≤ 2 ^ 33
capacity_small sizes fits = let few = small sizes.ratio (omega (arith, fits.ratio)) (omega (arith, fits.ratio)) sizes.half (omega (arith, fits.half)) in omega (arith, few)

pub run_small : (sizes : Sizes) (c1 c2 : Entries) (catalogue : Catalogue) (faults : ℕ) (room : Room) (steps : List (Step × Outcome)) → AreComponents sizes c1 c2 → AllFit steps
    → sum room.entries ≤ most_entries → catalogue.version ≤ 2 ^ 62 + 5 → AreSmall (played (opened sizes c1 c2 catalogue faults room) steps)
run_small sizes c1 c2 catalogue faults room steps are fits few low =
    let m = opened sizes c1 c2 catalogue faults room in
    let map = map_in (record { b = []; a = []; c1 = c1; c1x = []; c2 = c2 }) in
    let n = played m steps in
    let tree = opened_is_paced sizes c1 c2 catalogue faults room are in
    let b = is_bounded map n (steps_are_paced map m steps tree fits) in
    let entries : length n.book.entries ≤ most_entries = omega (arith, all_room m steps, few) in
    let writes : length (counted_writes n.book.entries) ≤ most_entries = omega (arith, entries, few_counted n.book.entries) in
    let commits = run_commits sizes c1 c2 catalogue faults room steps are fits in
    let narrow : capacity n.gears.sizes ≤ 2 ^ 33 = subst (λ s. capacity s ≤ 2 ^ 33) (sym (all_sizes m steps)) (capacity_small sizes are.numbers.geometry) in
    let product = mul-le-mul_left (capacity n.gears.sizes) (few_more (length (counted_writes n.book.entries)) writes) in
    record {
      entries = entries;
      version = omega (arith, commits, writes, low);
      quanta = omega (arith, b.quanta, product, narrow);
      passes = omega (arith, b.begins, writes);
      deeps = omega (arith, b.begins, b.rotations, writes);
    }
  where
    few_more : (n : ℕ) → n ≤ most_entries → 2 * n + 3 ≤ 131077
    few_more n le = omega (arith, le)

    all_sizes : (m : Machine) (steps : List (Step × Outcome)) → (played m steps).gears.sizes ≡ m.gears.sizes
    all_sizes m [] = refl
    all_sizes m (made ∷ steps) = all_sizes (played_one m made) steps ∙ one_sizes m made
