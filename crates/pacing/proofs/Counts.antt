-- The counts of merges.
use Rattle.std.proofs.Common.{◌≡◌, ◌⊎◌, refl, ℕ, ◌+◌, ◌<◌, ◌≤◌, ◌&&◌, ◌||◌, not, Bool, true, false, cond, eqb, ltb, List, [], ◌∷◌, inl, inr, arith}
use Rattle.std.proofs.lemmas.Grind.{common_steps}
use Rattle.std.proofs.lemmas.Bool.Decides.{nat_tests}
use Rattle.std.proofs.lemmas.Bool.{cases_Bool, cases_lt, cond_both, and_parts, not-true, eqb-true, eqb-false, ltb-true}
use Rattle.blsm_model.specs.Sizes.{Sizes}
use Rattle.blsm_model.specs.Geometry.{c1_mark}
use Rattle.gear_sched.specs.declared.Plan.{Plan}
use Rattle.pacing.specs.Pace.{Pace, Quantum, Written, passes_begun, rotations, opened, pass_done, deep_done, with_deep_swapped, with_pass_swapped, with_rotation, with_swap_and_rotation, with_pass, with_write, with_snow, with_deep, with_forgiven}
use Rattle.pacing.specs.Kept.{IsPaced}
use Rattle.gear_sched.specs.Gears.{deep_is_behind}
use Rattle.pacing.specs.Steps.{Event, Admit, Pay, Turn, MayAll, after, after_all, Lands, Move, SwapDeep, SwapPass, TakeDeep, TakeSnow, Begin, Rotate, Idle, turn_of, turn_at_rest, turned_by, may_begin, paid_by, plan_of, is_worker_seat, deep_settled, pass_settled, ready_for, May}
use Rattle.pacing.specs.Counts.{IsCounted, AreFew}
use Rattle.pacing.proofs.Flags.{sent}
use Rattle.pacing.proofs.InTime.{makes_way}
use Rattle.pacing.proofs.Admissions.{deep_settled_kept, pass_settled_kept}
use Rattle.pacing.proofs.Turns.{deep_left, no_deep_left}
use Rattle.pacing.proofs.Runs.{step_keeps, opened_paced}
use Rattle.pacing.specs.Laws.{IsOpening}
use Rattle.std.specs.Prelude.{◌*◌}

deep_swap : (p : Pace) → IsCounted p → p.gears.deep ≡ true → IsCounted (with_deep_swapped p)
deep_swap p h1 h2 = grind (arith, common_steps, nat_tests)

pass_swap : (p : Pace) → IsPaced p → IsCounted p → p.gears.pass ≡ true → IsCounted (with_pass_swapped p)
pass_swap p h1 h2 h3 = grind (arith, common_steps, nat_tests)

rotation : (p : Pace) → IsCounted p → p.gears.pass ≡ false → p.gears.deep ≡ false → rotations p ≤ p.passes → IsCounted (with_rotation p)
rotation p h1 h2 h3 h4 = grind (arith, common_steps, nat_tests)

swap_and_rotation : (p : Pace) → IsPaced p → IsCounted p → p.gears.pass ≡ true → (c1_mark p.gears.sizes ≤ p.made1 → p.gears.deep ≡ false) → IsCounted (with_swap_and_rotation p)
swap_and_rotation p h1 h2 h3 h4 = grind (arith, common_steps, nat_tests)

begin : (p : Pace) → IsPaced p → IsCounted p → p.gears.pass ≡ false → 0 < p.spring → IsCounted (with_pass p)
begin p h1 h2 h3 h4 = grind (arith, common_steps, nat_tests)

-- what an admission's moves leave before its write, which is still to be counted
record IsReadyCount (p : Pace) : Type 0 where
  pub begins : (passes_begun p ≤ p.writes) ⊎ ((p.gears.pass ≡ true) × (p.gears.pass_taken ≡ 0) × (p.b ≡ 0) × (passes_begun p ≤ p.writes + 1))
  pub turns : rotations p ≤ p.passes + 1
  pub turn_to_come : 0 < p.c1 → rotations p ≤ p.passes

begin_or_not : (p : Pace) → IsPaced p → IsCounted p → (test : Bool) → (test ≡ true → p.gears.pass ≡ false) → IsReadyCount (cond test (with_pass p) p)
begin_or_not p h1 h2 test h3 = grind (arith, common_steps, nat_tests)

begins_after : (p : Pace) → IsReadyCount p → passes_begun p ≤ p.writes + 1
begins_after p c = elim c.begins [ inl few ↦ omega arith | inr fresh ↦ fresh.3 ]

write : (p : Pace) (ahead : Bool) (seat : ℕ) (written : Written) → IsReadyCount p → 1 ≤ written.writes → Lands p (sent written ahead)
    → IsCounted (with_write p seat (sent written ahead))
write p ahead seat written h1 h2 h3 = grind (arith, common_steps, nat_tests)

-- a deep merge that isn't done keeps a full run from being swapped in
pub way : (p : Pace) → IsPaced p → p.gears.pass ≡ true → p.gears.pass_taken ≡ p.a + p.c1 → (p.gears.deep ≡ true → p.gears.deep_taken < p.c1x + p.c2) → c1_mark p.gears.sizes ≤ p.made1 → p.gears.deep ≡ false
way p k runs done going full = grind (arith, common_steps, nat_tests, cases_Bool, makes_way)

pub deep_counts : (p : Pace) → IsCounted p → IsCounted (deep_settled p)
deep_counts p h1 = grind (arith, common_steps, nat_tests)

settle_pass : (p : Pace) → IsPaced p → IsCounted p → (p.gears.deep ≡ true → p.gears.deep_taken < p.c1x + p.c2) → IsCounted (pass_settled p)
settle_pass p h1 h2 h3 = grind (arith, common_steps, nat_tests, cond_both, and_parts, swap_and_rotation, way, eqb-true)

pub admit : (p : Pace) (seat : ℕ) (written : Written) → IsPaced p → IsCounted p → 1 ≤ written.writes → Lands (ready_for p written.weight) written
    → IsCounted (with_write (ready_for p written.weight) seat written)
admit p seat written k c some lands =
    let one = deep_settled_kept p k in
    let two = pass_settled_kept p k in
    let c_two = settle_pass (deep_settled p) one.kept (deep_counts p c) one.going in
    write (ready_for p written.weight) written.ahead seat written
    (begin_or_not (pass_settled (deep_settled p)) two.kept c_two (not (pass_settled (deep_settled p)).gears.pass && ltb (pass_settled (deep_settled p)).gears.sizes.low ((pass_settled (deep_settled p)).spring + written.weight))
    (λ e. let parts = and_parts (not (pass_settled (deep_settled p)).gears.pass) (ltb (pass_settled (deep_settled p)).gears.sizes.low ((pass_settled (deep_settled p)).spring + written.weight)) e in not-true _ parts.0)) some lands

same_count : (p q : Pace) → IsCounted p → q.gears.pass ≡ p.gears.pass → q.gears.deep ≡ p.gears.deep → q.writes ≡ p.writes → q.passes ≡ p.passes → q.deeps ≡ p.deeps → q.b ≡ p.b → q.spring ≡ p.spring → q.c1 ≡ p.c1 → IsCounted q
same_count p q h1 h2 h3 h4 h5 h6 h7 h8 h9 = grind (arith, common_steps, nat_tests)

pub pay : (plan : Plan) (p : Pace) (seat : ℕ) (quantum : Quantum) → IsCounted p → IsCounted (paid_by plan (with_forgiven p seat) seat quantum)
pay plan p seat quantum h1 = grind (arith, common_steps, nat_tests)

-- what a turn's move counts
abbrev Counts : Pace → ℕ → Quantum → Move → Type 0
Counts p seat quantum move = IsCounted (turned_by move p seat quantum)

turn_rests : (p : Pace) (is_worker : Bool) (seat : ℕ) (quantum : Quantum) → IsPaced p → IsCounted p → p.gears.pass ≡ false → p.gears.deep ≡ false → Counts p seat quantum (turn_at_rest is_worker p)
turn_rests p true seat quantum k c rests no_deep =
    cond_both (may_begin true p) Begin Idle (Counts p seat quantum) (λ e. begin p k c rests (let past = ltb-true _ _ e in omega arith)) (λ e. c)
turn_rests p false seat quantum k c rests no_deep =
    cond_both (may_begin false p) Begin (cond (not (eqb p.c1 0)) Rotate Idle) (Counts p seat quantum)
    (λ e. begin p k c rests (let rest = k.within.resting rests in let some = eqb-false _ _ (not-true _ e) in elim (cases_lt 0 p.spring) [ inl more ↦ more | inr none ↦ absurd (some (omega arith)) ]))
    (λ e. cond_both (not (eqb p.c1 0)) Rotate Idle (Counts p seat quantum)
    (λ f. rotation p c rests no_deep (let some = eqb-false _ _ (not-true _ f) in elim (cases_lt 0 p.c1) [ inl more ↦ c.turn_to_come more | inr none ↦ absurd (some (omega arith)) ]))
    (λ f. c))

pub turn : (p : Pace) (is_worker : Bool) (seat : ℕ) (quantum : Quantum) → IsPaced p → IsCounted p → Counts p seat quantum (turn_of is_worker p)
turn p is_worker seat quantum k c =
    let after_two : Move = cond (p.gears.deep && (not p.gears.pass || deep_is_behind p.gears)) TakeDeep (cond p.gears.pass TakeSnow (turn_at_rest is_worker p)) in
    cond_both (p.gears.deep && deep_done p) SwapDeep (cond (p.gears.pass && pass_done p) SwapPass after_two) (Counts p seat quantum)
    (λ e. let parts = and_parts p.gears.deep (deep_done p) e in deep_swap p c parts.0)
    (λ no_swap. cond_both (p.gears.pass && pass_done p) SwapPass after_two (Counts p seat quantum)
    (λ e. let parts = and_parts p.gears.pass (pass_done p) e in swap_and_rotation p k c parts.0 (way p k parts.0 (eqb-true _ _ parts.1) (deep_left p k no_swap)))
    (λ still. cond_both (p.gears.deep && (not p.gears.pass || deep_is_behind p.gears)) TakeDeep (cond p.gears.pass TakeSnow (turn_at_rest is_worker p)) (Counts p seat quantum)
    (λ e. same_count p (with_deep p seat quantum) c refl refl refl refl refl refl refl refl)
    (λ none. cond_both p.gears.pass TakeSnow (turn_at_rest is_worker p) (Counts p seat quantum)
    (λ e. same_count p (with_snow p seat quantum) c refl refl refl refl refl refl refl refl)
    (λ e. turn_rests p is_worker seat quantum k c e (no_deep_left p.gears.deep p.gears.pass (deep_is_behind p.gears) none e)))))

pub step_counts : (pace : Pace) (event : Event) → IsPaced pace → IsCounted pace → May pace event → IsCounted (after pace event)
step_counts pace (Admit seat written) k c may = admit pace seat written k c may.some may.lands
step_counts pace (Pay seat quantum) k c may = pay (plan_of (with_forgiven pace seat) seat) pace seat quantum c
step_counts pace (Turn seat quantum) k c may = turn pace (is_worker_seat seat) seat quantum k c

all_count : (pace : Pace) (events : List Event) → IsPaced pace → IsCounted pace → MayAll pace events → IsCounted (after_all pace events)
all_count pace [] k c may = c
all_count pace (event ∷ events) k c may = all_count (after pace event) events (step_keeps pace event k may.0) (step_counts pace event k c may.0) may.1

pub opened_counted : (sizes : Sizes) (c1 c2 : ℕ) → IsCounted (opened sizes c1 c2)
opened_counted sizes c1 c2 = grind (arith, common_steps, nat_tests)

pub run_counts : (sizes : Sizes) (c1 c2 : ℕ) (events : List Event) → IsOpening sizes c1 c2 → MayAll (opened sizes c1 c2) events → IsCounted (after_all (opened sizes c1 c2) events)
run_counts sizes c1 c2 events opening may = all_count (opened sizes c1 c2) events (opened_paced sizes c1 c2 opening) (opened_counted sizes c1 c2) may

pub few_commits : (pace : Pace) → IsCounted pace → pace.passes + pace.deeps + rotations pace ≤ 3 * pace.writes + 2
few_commits = grind (arith, common_steps, nat_tests)

pub merged : (p : Pace) → p.deeps ≤ rotations p
merged p = grind (arith, common_steps, nat_tests)

pub passed : (p : Pace) → p.passes ≤ passes_begun p
passed p = grind (arith, common_steps, nat_tests)

pub counted_few : (pace : Pace) → IsCounted pace → AreFew pace
counted_few = grind (arith, common_steps, nat_tests)

ready_few : (p : Pace) → IsReadyCount p → AreFew p
ready_few p c = record { begins = begins_after p c; turns = c.turns }

pub moves_few : (pace : Pace) (w : ℕ) → IsPaced pace → IsCounted pace → AreFew (deep_settled pace) × AreFew (ready_for pace w)
moves_few p w k c =
    let one = deep_settled_kept p k in
    let two = pass_settled_kept p k in
    let c_two = settle_pass (deep_settled p) one.kept (deep_counts p c) one.going in (
      counted_few (deep_settled p) (deep_counts p c),
      ready_few (ready_for p w)
          (begin_or_not (pass_settled (deep_settled p)) two.kept c_two (not (pass_settled (deep_settled p)).gears.pass && ltb (pass_settled (deep_settled p)).gears.sizes.low ((pass_settled (deep_settled p)).spring + w))
          (λ e. let parts = and_parts (not (pass_settled (deep_settled p)).gears.pass) (ltb (pass_settled (deep_settled p)).gears.sizes.low ((pass_settled (deep_settled p)).spring + w)) e in not-true _ parts.0)),
    )
