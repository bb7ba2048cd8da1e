-- The fronts of the log's lanes are within the opening's bounds.
use Rattle.std.proofs.Common.{◌≡◌, refl, ℕ, ◌+◌, ◌&&◌, ◌||◌, not, Bool, true, false, cond, ltb, arith}
use Rattle.std.proofs.lemmas.Grind.{common_steps}
use Rattle.std.proofs.lemmas.Bool.Decides.{nat_tests}
use Rattle.std.proofs.lemmas.Bool.{cond_both, and_parts, eqb-true, false≢true, true≢false, not-true}
use Rattle.gear_sched.specs.Gears.{deep_is_behind}
use Rattle.gear_sched.specs.declared.Plan.{Plan}
use Rattle.pacing.specs.Pace.{Pace, Quantum, Written, pass_done, deep_done, with_deep_swapped, with_pass_swapped, with_rotation, with_swap_and_rotation, with_pass, with_write, with_forgiven, opened}
use Rattle.pacing.specs.Kept.{IsPaced, IsWithin}
use Rattle.pacing.specs.Steps.{Admit, Pay, Turn, Lands, Move, SwapDeep, SwapPass, TakeDeep, TakeSnow, turn_of, turn_at_rest, turned_by, paid_by, plan_of, is_worker_seat, deep_settled, pass_settled, ready_for, Event, May, after}
use Rattle.pacing.specs.Fronts.{Fronts, AreFronts, FitAtEach}
use Rattle.pacing.proofs.Admissions.{deep_settled_kept, ready as admission_ready}
use Rattle.pacing.proofs.Flags.{at, sent}
use Rattle.blsm_model.specs.Sizes.{Sizes}
use Rattle.pacing.specs.Laws.{IsOpening}
use Rattle.pacing.proofs.Terms.{HasRoom, fronts_turned, fronts_written, fronts_ready, fronts_by, no_fronts, fronts_after}

-- ---- moves

deep_swap : (p : Pace) (f : Fronts) → IsPaced p → AreFronts p f → p.gears.deep ≡ true → AreFronts (with_deep_swapped p) f
deep_swap p f h1 h2 h3 = grind (arith, common_steps, nat_tests)

pass_swap : (p : Pace) (f : Fronts) → IsPaced p → AreFronts p f → p.gears.pass ≡ true → p.gears.pass_taken ≡ p.a + p.c1 → AreFronts (with_pass_swapped p) (fronts_turned f)
pass_swap p f h1 h2 h3 h4 = grind (arith, common_steps, nat_tests)

rotation : (p : Pace) (f : Fronts) → AreFronts p f → AreFronts (with_rotation p) f
rotation p f a = record { table = a.table; high = a.high; full = omega (arith, a.full); next = a.next; behind = a.behind; both = a.both; none = a.none }

swap_and_rotation : (p : Pace) (f : Fronts) → IsPaced p → AreFronts p f → p.gears.pass ≡ true → p.gears.pass_taken ≡ p.a + p.c1 → AreFronts (with_swap_and_rotation p) (fronts_turned f)
swap_and_rotation p f h1 h2 h3 h4 = grind (arith, common_steps, nat_tests)

settle_deep : (p : Pace) (f : Fronts) → IsPaced p → AreFronts p f → AreFronts (deep_settled p) f
settle_deep p f h1 h2 = grind (arith, common_steps, nat_tests)

settle_pass : (p : Pace) (f : Fronts) → IsPaced p → AreFronts p f → AreFronts (pass_settled p) (cond (p.gears.pass && pass_done p) (fronts_turned f) f)
settle_pass p f h1 h2 = grind (arith, common_steps, nat_tests)

begin : (p : Pace) (f : Fronts) → AreFronts p f → p.gears.pass ≡ false → AreFronts (with_pass p) f
begin p f h1 h2 = grind (arith, common_steps, nat_tests)

ready : (p : Pace) (w : ℕ) (f : Fronts) → IsPaced p → AreFronts p f → AreFronts (ready_for p w) (fronts_ready p f)
ready p w f k a =
    let one = deep_settled_kept p k in
    let n = pass_settled (deep_settled p) in
    let two = settle_pass (deep_settled p) f one.kept (settle_deep p f k a) in
    cond_both (not n.gears.pass && ltb n.gears.sizes.low (n.spring + w)) (with_pass n) n (λ q. AreFronts q (fronts_ready p f))
    (λ e. let parts = and_parts (not n.gears.pass) (ltb n.gears.sizes.low (n.spring + w)) e in begin n (fronts_ready p f) two (not-true _ parts.0))
    (λ e. two)

-- ---- a write

write_at : (p : Pace) (pass ahead : Bool) (seat : ℕ) (written : Written) (f : Fronts) → AreFronts (at p pass p.gears.deep) f
    → Lands (at p pass p.gears.deep) (sent written ahead) → IsWithin (at p pass p.gears.deep) → HasRoom (at p pass p.gears.deep) written.weight
    → AreFronts (with_write (at p pass p.gears.deep) seat (sent written ahead)) (fronts_written (sent written ahead) f)
write_at p true true seat written f a lands k r =
    let run = k.running refl in
    let half = k.sizes.half.0 in
    record {
      table = omega (arith, lands.1);
      high = omega (arith, a.high, lands.0, run.tables, run.begin, r.fits refl);
      full = omega (arith, a.full, lands.0, run.tables, r.room);
      next = a.next;
      behind = λ e. omega (arith, a.behind refl);
      both = λ e. omega (arith, a.both refl, lands.0, lands.1);
      none = λ e. absurd (true≢false e);
    }
write_at p true false seat written f a lands k r =
    let run = k.running refl in
    record {
      table = a.table;
      high = a.high;
      full = a.full;
      next = omega (arith, lands.3);
      behind = λ e. omega (arith, a.behind refl, lands.2, run.behind);
      both = λ e. omega (arith, a.both refl, lands.2, run.tables);
      none = λ e. absurd (true≢false e);
    }
write_at p false true seat written f a lands k r =
    let rest = k.resting refl in
    record {
      table = omega (arith, lands.1);
      high = omega (arith, a.high, lands.0, rest.spring, r.low refl);
      full = omega (arith, a.full, lands.0, r.room);
      next = a.next;
      behind = λ e. absurd (false≢true e);
      both = λ e. absurd (false≢true e);
      none = a.none;
    }
write_at p false false seat written f a lands k r = absurd (false≢true lands.0)

write : (p : Pace) (seat : ℕ) (written : Written) (f : Fronts) → AreFronts p f → Lands p written → IsWithin p → HasRoom p written.weight
    → AreFronts (with_write p seat written) (fronts_written written f)
write p seat written f a lands k r = write_at p p.gears.pass written.ahead seat written f a lands k r

-- ---- a turn

abbrev Turns : Pace → ℕ → Quantum → Fronts → Move → Type 0
Turns p seat quantum f move = AreFronts (turned_by move p seat quantum) (fronts_by move f)

same : (p q : Pace) (f : Fronts) → q.a ≡ p.a → q.b ≡ p.b → q.c1 ≡ p.c1 → q.c1x ≡ p.c1x → q.c2 ≡ p.c2 → q.gears.pass ≡ p.gears.pass → q.gears.pass_memory ≡ p.gears.pass_memory → q.gears.pass_admitted ≡ p.gears.pass_admitted → q.gears.sizes ≡ p.gears.sizes → AreFronts p f → AreFronts q f
same p q f h1 h2 h3 h4 h5 h6 h7 h8 h9 h10 = grind (arith, common_steps, nat_tests)

turn_rests : (p : Pace) (is_worker : Bool) (seat : ℕ) (quantum : Quantum) (f : Fronts) → AreFronts p f → p.gears.pass ≡ false → Turns p seat quantum f (turn_at_rest is_worker p)
turn_rests p is_worker seat quantum f h1 h2 = grind (arith, common_steps, nat_tests)

turn : (p : Pace) (is_worker : Bool) (seat : ℕ) (quantum : Quantum) (f : Fronts) → IsPaced p → AreFronts p f → Turns p seat quantum f (turn_of is_worker p)
turn p is_worker seat quantum f k a =
    let after_two : Move = cond (p.gears.deep && (not p.gears.pass || deep_is_behind p.gears)) TakeDeep (cond p.gears.pass TakeSnow (turn_at_rest is_worker p)) in
    cond_both (p.gears.deep && deep_done p) SwapDeep (cond (p.gears.pass && pass_done p) SwapPass after_two) (Turns p seat quantum f)
    (λ e. let parts = and_parts p.gears.deep (deep_done p) e in deep_swap p f k a parts.0)
    (λ no_swap. cond_both (p.gears.pass && pass_done p) SwapPass after_two (Turns p seat quantum f)
    (λ e. let parts = and_parts p.gears.pass (pass_done p) e in swap_and_rotation p f k a parts.0 (eqb-true _ _ parts.1))
    (λ still. cond_both (p.gears.deep && (not p.gears.pass || deep_is_behind p.gears)) TakeDeep (cond p.gears.pass TakeSnow (turn_at_rest is_worker p)) (Turns p seat quantum f)
    (λ e. same p (turned_by TakeDeep p seat quantum) f refl refl refl refl refl refl refl refl refl a)
    (λ none. cond_both p.gears.pass TakeSnow (turn_at_rest is_worker p) (Turns p seat quantum f)
    (λ e. same p (turned_by TakeSnow p seat quantum) f refl refl refl refl refl refl refl refl refl a)
    (λ e. turn_rests p is_worker seat quantum f a e))))

pay : (plan : Plan) (p : Pace) (seat : ℕ) (quantum : Quantum) (f : Fronts) → AreFronts p f → AreFronts (paid_by plan (with_forgiven p seat) seat quantum) f
pay plan p seat quantum f h1 = grind (arith, common_steps, nat_tests)

-- ---- steps

pub opening_fronts : (sizes : Sizes) (c1 c2 : ℕ) → IsOpening sizes c1 c2 → AreFronts (opened sizes c1 c2) no_fronts
opening_fronts sizes c1 c2 opening = record { table = omega arith; high = omega arith; full = omega (arith, opening.full); next = omega arith; behind = λ e. omega arith; both = λ e. omega arith; none = λ e. refl }

-- also where an admission stops between its moves
pub moves_fronts : (pace : Pace) (w : ℕ) (fronts : Fronts) → IsPaced pace → AreFronts pace fronts → AreFronts (deep_settled pace) fronts × AreFronts (ready_for pace w) (fronts_ready pace fronts)
moves_fronts pace w fronts k a = (settle_deep pace fronts k a, ready pace w fronts k a)

pub step_fronts : (pace : Pace) (event : Event) (fronts : Fronts) → IsPaced pace → AreFronts pace fronts → May pace event → AreFronts (after pace event) (fronts_after pace event fronts)
step_fronts pace (Admit seat written) fronts k a may =
    let now = admission_ready pace seat written k may in
    write (ready_for pace written.weight) seat written (fronts_ready pace fronts) (ready pace written.weight fronts k a) may.lands now.0.within
    now.1.has_room
step_fronts pace (Pay seat quantum) fronts k a may = pay (plan_of (with_forgiven pace seat) seat) pace seat quantum fronts a
step_fronts pace (Turn seat quantum) fronts k a may = turn pace (is_worker_seat seat) seat quantum fronts k a

pub fronts_fit : (pace : Pace) (fronts : Fronts) → IsPaced pace → AreFronts pace fronts → FitAtEach pace fronts
fronts_fit = grind (arith, common_steps, nat_tests)
