-- What the quanta of a run take.
use Rattle.std.proofs.Common.{◌≡◌, refl, ap, subst, ℕ, ◌+◌, ◌*◌, ◌≤◌, Bool, true, false, cond, leb, List, [], ◌∷◌, arith}
use Rattle.std.proofs.Math.Nat.{mul-add}
use Rattle.blsm_model.specs.Sizes.{Sizes}
use Rattle.gear_sched.specs.declared.Plan.{Plan}
use Rattle.gear_sched.specs.declared.Plan.TheVariants.{Snow, Deep, Nothing}
use Rattle.blsm_model.specs.Geometry.{c1_mark}
use Rattle.pacing.specs.Pace.{Pace, Quantum, with_forgiven, with_pass_swapped, with_rotation}
use Rattle.pacing.specs.Kept.{most_taken}
use Rattle.pacing.specs.Steps.{Event, Admit, Pay, Turn, May, MayAll, after, after_all, Move, SwapDeep, SwapPass, TakeDeep, TakeSnow, Begin, Rotate, Idle, FitsMove, FitsPlan, turn_of, turned_by, plan_of, paid_by, is_worker_seat}
use Rattle.pacing.specs.Laws.{taken_by_plan, taken_by_move, taken_by, taken_in}
use Rattle.pacing.proofs.Promises.{same_ready, same_turn, admissions_are_short}

one_more : (most took work : ℕ) → took ≤ most → took + most * work ≤ most * (work + 1)
one_more most took work few = omega (arith, few, mul-add most work 1)

plan_takes : (plan : Plan) (p : Pace) (seat : ℕ) (quantum : Quantum) → FitsPlan plan p quantum → taken_by_plan plan quantum + most_taken p.gears.sizes * p.work ≤ most_taken p.gears.sizes * (paid_by plan p seat quantum).work
plan_takes Snow p seat quantum fits = one_more (most_taken p.gears.sizes) quantum.took p.work fits.0.few
plan_takes Deep p seat quantum fits = one_more (most_taken p.gears.sizes) quantum.took p.work fits.few
plan_takes Nothing p seat quantum fits = omega arith

swap_work : (p : Pace) (b : Bool) → (cond b (with_rotation (with_pass_swapped p)) (with_pass_swapped p)).work ≡ p.work
swap_work p true = refl
swap_work p false = refl

move_takes : (move : Move) (p : Pace) (seat : ℕ) (quantum : Quantum) → FitsMove move p quantum → taken_by_move move quantum + most_taken p.gears.sizes * p.work ≤ most_taken p.gears.sizes * (turned_by move p seat quantum).work
move_takes TakeSnow p seat quantum fits = one_more (most_taken p.gears.sizes) quantum.took p.work fits.0.few
move_takes TakeDeep p seat quantum fits = one_more (most_taken p.gears.sizes) quantum.took p.work fits.few
move_takes SwapPass p seat quantum fits = omega (arith, ap (λ n. most_taken p.gears.sizes * n) (swap_work p (leb (c1_mark p.gears.sizes) p.made1)))
move_takes SwapDeep p seat quantum fits = omega arith
move_takes Begin p seat quantum fits = omega arith
move_takes Rotate p seat quantum fits = omega arith
move_takes Idle p seat quantum fits = omega arith

sizes_paid : (plan : Plan) (p : Pace) (seat : ℕ) (quantum : Quantum) → (paid_by plan p seat quantum).gears.sizes ≡ p.gears.sizes
sizes_paid Snow p seat quantum = refl
sizes_paid Deep p seat quantum = refl
sizes_paid Nothing p seat quantum = refl

sizes_stay : (pace : Pace) (event : Event) → (after pace event).gears.sizes ≡ pace.gears.sizes
sizes_stay pace (Admit seat written) = (same_ready pace written.weight).0
sizes_stay pace (Pay seat quantum) = sizes_paid (plan_of (with_forgiven pace seat) seat) (with_forgiven pace seat) seat quantum
sizes_stay pace (Turn seat quantum) = (same_turn (turn_of (is_worker_seat seat) pace) pace seat quantum).0

one_takes : (pace : Pace) (event : Event) → May pace event → taken_by pace event + most_taken pace.gears.sizes * pace.work ≤ most_taken pace.gears.sizes * (after pace event).work
one_takes pace (Admit seat written) may = omega (arith, ap (λ n. most_taken pace.gears.sizes * n) (admissions_are_short pace seat written).work)
one_takes pace (Pay seat quantum) may = plan_takes (plan_of (with_forgiven pace seat) seat) (with_forgiven pace seat) seat quantum may.fits
one_takes pace (Turn seat quantum) may = move_takes (turn_of (is_worker_seat seat) pace) pace seat quantum may.fits

pub all_take : (pace : Pace) (events : List Event) → MayAll pace events → taken_in pace events + most_taken pace.gears.sizes * pace.work ≤ most_taken pace.gears.sizes * (after_all pace events).work
all_take pace [] may = omega arith
all_take pace (event ∷ events) may =
    let one = one_takes pace event may.0 in
    let rest = subst (λ (s : Sizes). taken_in (after pace event) events + most_taken s * (after pace event).work ≤ most_taken s * (after_all (after pace event) events).work) (sizes_stay pace event) (all_take (after pace event) events may.1) in
    omega (arith, one, rest)
