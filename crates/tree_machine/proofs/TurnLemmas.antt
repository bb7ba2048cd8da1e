-- Payments, turns and the end of a work: what the machine stands for before it stands for afterwards.
use Rattle.std.proofs.Common.{◌≡◌, ℕ, ◌+◌, ◌<◌, ◌≤◌, Bool, cond, true, false, not, ◌&&◌, ◌||◌, List, [], ◌∷◌, length, Some, None, Option, refl, sym, subst, ◌∙◌, arith}
use Rattle.std.proofs.lemmas.Grind.{common_steps}
use Rattle.std.proofs.lemmas.Bool.Decides.{nat_tests}
use Rattle.std.specs.Prelude.{◌==◌, nat_lt, IsSome, slice_set}
use Rattle.std.proofs.lemmas.Bool.{false≢true}
use Rattle.blsm_model.specs.Format.{callers}
use Rattle.blsm_model.specs.declared.key.Key.{Key}
use Rattle.blsm_model.specs.declared.row.Value.{Value}
use Rattle.blsm_model.specs.declared.history.Why.{Why}
use Rattle.blsm_model.specs.declared.history.Why.TheVariants as why
use Rattle.blsm_model.specs.declared.history.Entry.{Entry}
use Rattle.blsm_model.specs.Legal.{is_running, none_stopping, is_stopping, is_stopped}
use Rattle.gear_sched.specs.Gears.{plan_for, first_debt, second_debt}
use Rattle.gear_sched.specs.declared.Plan.{Plan}
use Rattle.gear_sched.specs.declared.Plan.TheVariants.{Snow, Deep, Nothing}
use Rattle.record_delta.specs.Entries.{entries_weight}
use Rattle.tree_machine.specs.Lists.{memory_weight}
use Rattle.tree_machine.specs.Layers.{HasWay}
use Rattle.tree_machine.specs.Machine.{Machine, WorkSoFar, work_of, is_closed}
use Rattle.tree_machine.specs.Moves.{stop, pass_quantum, deep_quantum}
use Rattle.tree_machine.specs.Steps.{
  Outcome,
  Well,
  FailedAfter,
  FailedLooking,
  Broken,
  NoRoom,
  Choice,
  choice,
  chosen,
  ended_as,
  forgive,
  count_for_write,
  do_pay,
  pay_planned,
  pay_forgiven,
  pay_running,
  pay,
  Turning,
  do_turn,
  work_turning,
  worker_turning,
  with_turn,
  is_idle,
  work_noted,
  work_turn,
  worker_turn,
}
use Rattle.tree_machine.specs.Stands.{AreWorks, Stands, work_at, is_failing}
use Rattle.tree_machine.proofs.CarryLemmas.{chosen_carries, pass_quantum_carries, deep_quantum_carries}
use Rattle.tree_machine.proofs.ToldLemmas.{none_is_some, stop_told}
use Rattle.tree_machine.proofs.AdmitLemmas.{carries_stands}
use Rattle.tree_machine.proofs.Terms.{Carries}

-- ---- a stop without an entry

pub stop_stands : (opening : List (Key × Value)) (m : Machine) (cause : Why) → Stands opening m → m.stopped ≡ None → Stands opening (stop cause m)
stop_stands opening m cause stands none = record {
  sound = record { layered = stands.sound.layered; light = stands.sound.light; charged = stands.sound.charged; pass = stands.sound.pass; deep = stands.sound.deep };
  values = stands.values;
  places = stands.places;
  held = stands.held;
  weighs = stands.weighs;
  told = stop_told opening m cause stands.told none;
}

-- ---- payments

forgive_stands : (opening : List (Key × Value)) (m : Machine) (seat : ℕ) → Stands opening m → Stands opening (forgive seat m)
forgive_stands opening m seat stands = grind (arith, common_steps, nat_tests)

counted_stands : (opening : List (Key × Value)) (m : Machine) (seat : ℕ) → Stands opening m → Stands opening (count_for_write seat m)
counted_stands opening m seat stands = grind (arith, common_steps, nat_tests)

do_pay_stands : (opening : List (Key × Value)) (m : Machine) (quantum : Machine → Machine) (seat : ℕ) (outcome : Outcome) → Stands opening m → m.stopped ≡ None
    → Carries m (quantum m) → Stands opening (do_pay m quantum seat outcome).state
do_pay_stands opening m quantum seat (FailedAfter commits faults) stands none c = stop_stands opening m (why.Faulted faults) stands none
do_pay_stands opening m quantum seat (Broken page) stands none c = stop_stands opening m (why.BadPage page) stands none
do_pay_stands opening m quantum seat (FailedLooking faults) stands none c = counted_stands opening (quantum m) seat
    (carries_stands opening m (quantum m) stands c)
do_pay_stands opening m quantum seat Well stands none c = counted_stands opening (quantum m) seat (carries_stands opening m (quantum m) stands c)
do_pay_stands opening m quantum seat NoRoom stands none c = counted_stands opening (quantum m) seat (carries_stands opening m (quantum m) stands c)

pay_forgiven_stands : (opening : List (Key × Value)) (m : Machine) (seat : ℕ) (outcome : Outcome) → Stands opening m → m.stopped ≡ None → Stands opening (pay_forgiven m seat outcome).state
pay_forgiven_stands opening m seat outcome stands none =
    by (plan_for (first_debt m.gears seat) (second_debt m.gears seat))
  where
    by : (plan : Plan) → Stands opening (pay_planned plan m seat outcome).state
    by Snow = do_pay_stands opening m (pass_quantum seat) seat outcome stands none (pass_quantum_carries m seat stands.sound)
    by Deep = do_pay_stands opening m (deep_quantum seat) seat outcome stands none (deep_quantum_carries m seat stands.sound)
    by Nothing = stands

pub pay_stands : (opening : List (Key × Value)) (m : Machine) (seat : ℕ) (outcome : Outcome) → Stands opening m → Stands opening (pay m seat outcome).state
pay_stands opening m seat outcome stands = by m.stopped refl
  where
    by : (o : Option Why) → m.stopped ≡ o → Stands opening (pay_running o m seat outcome).state
    by (Some cause) is = stands
    by None is = pay_forgiven_stands opening (forgive seat m) seat outcome (forgive_stands opening m seat stands) is

-- ---- works

pub work_set : (works : List WorkSoFar) (seat s : ℕ) (work : WorkSoFar) → seat < length works → work_at s (slice_set works seat work) ≡ cond (s == seat) work (work_at s works)
work_set works seat s work within = grind (arith, common_steps, nat_tests)

-- a work goes on: it fails only where nothing failed before
pub works_on : (works : List WorkSoFar) (stopped : Option Why) (history : List Entry) (seat : ℕ) (work : WorkSoFar) → seat < callers → length works ≡ callers
    → ((s : ℕ) → (work_at s works).worked ≤ (work_at s works).turns) → work.worked ≤ work.turns
    → ((s : ℕ) → is_failing (work_at s works).last ≡ true → (s == seat) ≡ false → (is_failing work.last ≡ false) × IsSome stopped × (none_stopping history ≡ true))
    → ((s t : ℕ) → is_failing (work_at s works).last ≡ true → is_failing (work_at t works).last ≡ true → s ≡ t)
    → (is_failing work.last ≡ true → IsSome stopped × (none_stopping history ≡ true))
    → AreWorks (slice_set works seat work) stopped history
works_on works stopped history seat work within places few light others one now = grind (arith, common_steps, nat_tests)

running_none : (before : List Entry) → is_running before ≡ true → none_stopping before ≡ true
running_none [] running = refl
running_none (e ∷ es) running = parts (is_stopping e.op e.reply) (is_stopped e.reply) (is_running es) running (running_none es)
  where
    parts : (stopping stopped rest : Bool) → (not (stopping || stopped) && rest) ≡ true → (rest ≡ true → none_stopping es ≡ true) → (not stopping && none_stopping es) ≡ true
    parts stopping stopped rest h1 h2 = grind (arith, common_steps, nat_tests)

-- ---- turns

-- how a turn leaves the machine, and how its failing shows
pub record IsTurned (opening : List (Key × Value)) (m : Machine) (turning : Turning) : Type 0 where
  pub stands : Stands opening turning.state
  pub work : turning.state.seats.work ≡ m.seats.work
  -- a turn that failed stopped the tree, which ran
  pub failed : is_failing turning.ended ≡ true → (m.stopped ≡ None) × IsSome turning.state.stopped × (none_stopping turning.state.book.entries ≡ true)
  -- where another work failed, the tree was stopped, and nothing happened
  pub halted : IsSome m.stopped → (is_failing turning.ended ≡ false) × IsSome turning.state.stopped × (turning.state.book.entries ≡ m.book.entries)

ended_well : (c : Choice) → is_failing (ended_as c) ≡ false
ended_well c = grind (arith, common_steps, nat_tests)

do_turn_turned : (opening : List (Key × Value)) (m : Machine) (c : Choice) (outcome : Outcome) (seat : ℕ) → Stands opening m → m.stopped ≡ None → Carries m (chosen c seat m)
    → IsTurned opening m (do_turn c outcome seat m)
do_turn_turned opening m c (FailedAfter commits faults) seat stands none carries = record {
  stands = stop_stands opening m (why.Faulted faults) stands none;
  work = refl;
  failed = λ is. (none, refl, running_none m.book.entries (stands.told.running none));
  halted = λ some. absurd (none_is_some m.stopped none some);
}
do_turn_turned opening m c (Broken page) seat stands none carries = record {
  stands = stop_stands opening m (why.BadPage page) stands none;
  work = refl;
  failed = λ is. (none, refl, running_none m.book.entries (stands.told.running none));
  halted = λ some. absurd (none_is_some m.stopped none some);
}
do_turn_turned opening m c (FailedLooking faults) seat stands none carries = record {
  stands = carries_stands opening m (chosen c seat m) stands carries;
  work = carries.work;
  failed = λ is. absurd (false≢true (sym (ended_well c) ∙ is));
  halted = λ some. absurd (none_is_some m.stopped none some);
}
do_turn_turned opening m c Well seat stands none carries = record {
  stands = carries_stands opening m (chosen c seat m) stands carries;
  work = carries.work;
  failed = λ is. absurd (false≢true (sym (ended_well c) ∙ is));
  halted = λ some. absurd (none_is_some m.stopped none some);
}
do_turn_turned opening m c NoRoom seat stands none carries = record {
  stands = carries_stands opening m (chosen c seat m) stands carries;
  work = carries.work;
  failed = λ is. absurd (false≢true (sym (ended_well c) ∙ is));
  halted = λ some. absurd (none_is_some m.stopped none some);
}

pub work_turned : (opening : List (Key × Value)) (m : Machine) (seat : ℕ) (outcome : Outcome) → Stands opening m → HasWay m → IsTurned opening m (work_turning m.stopped m seat outcome)
work_turned opening m seat outcome stands way = by m.stopped refl
  where
    by : (o : Option Why) → m.stopped ≡ o → IsTurned opening m (work_turning o m seat outcome)
    by (Some cause) is = record { stands = stands; work = refl; failed = λ f. absurd (false≢true f); halted = λ some. (refl, some, refl) }
    by None is = do_turn_turned opening m (choice (not (memory_weight m.lists == 0)) (not (entries_weight m.lists.c1 == 0)) m) outcome seat stands is
        (chosen_carries (not (memory_weight m.lists == 0)) (not (entries_weight m.lists.c1 == 0)) seat m stands.sound way)

pub worker_turned : (opening : List (Key × Value)) (m : Machine) (seat : ℕ) (outcome : Outcome) → Stands opening m → HasWay m → IsTurned opening m (worker_turning m.stopped (is_closed m) m seat outcome)
worker_turned opening m seat outcome stands way = by m.stopped refl (is_closed m)
  where
    by : (o : Option Why) → m.stopped ≡ o → (b : Bool) → IsTurned opening m (worker_turning o b m seat outcome)
    by (Some cause) is b = record { stands = stands; work = refl; failed = λ f. absurd (false≢true f); halted = λ some. (refl, some, refl) }
    by None is true = record { stands = stands; work = refl; failed = λ f. absurd (false≢true f); halted = λ some. (refl, some, refl) }
    by None is false = do_turn_turned opening m (choice (nat_lt m.gears.sizes.low m.spring) false m) outcome seat stands is
        (chosen_carries (nat_lt m.gears.sizes.low m.spring) false seat m stands.sound way)

pub worker_turn_stands : (opening : List (Key × Value)) (m : Machine) (seat : ℕ) (outcome : Outcome) → Stands opening m → HasWay m → Stands opening (worker_turn m seat outcome).state
worker_turn_stands opening m seat outcome stands way =
    let s = (worker_turned opening m seat outcome stands way).stands in
    record {
      sound = record { layered = s.sound.layered; light = s.sound.light; charged = s.sound.charged; pass = s.sound.pass; deep = s.sound.deep };
      values = s.values;
      places = s.places;
      held = s.held;
      weighs = s.weighs;
      told = record { legal = s.told.legal; running = s.told.running; one_why = s.told.one_why; works = s.told.works };
    }

-- with another work noted at the seat
work_noted_stands : (opening : List (Key × Value)) (m : Machine) (seat : ℕ) (work : WorkSoFar) → Stands opening m → AreWorks (slice_set m.seats.work seat work) m.stopped m.book.entries
    → Stands opening (work_noted seat work m)
work_noted_stands opening m seat work s works = grind (arith, common_steps, nat_tests)

counted_worked : (b : Bool) (worked turns : ℕ) → worked ≤ turns → cond b worked (worked + 1) ≤ turns + 1
counted_worked b worked turns h1 = grind (arith, common_steps, nat_tests)

pub work_turn_stands : (opening : List (Key × Value)) (m : Machine) (seat : ℕ) (outcome : Outcome) → Stands opening m → HasWay m → seat < callers → Stands opening (work_turn m seat outcome).state
work_turn_stands opening m seat outcome stands way within =
    let turning = work_turning m.stopped m seat outcome in
    let turned = work_turned opening m seat outcome stands way in
    work_noted_stands opening turning.state seat (with_turn (work_of seat m) turning) turned.stands
    (subst (λ works. AreWorks (slice_set works seat (with_turn (work_of seat m) turning)) turning.state.stopped turning.state.book.entries) (sym turned.work)
    (works_on m.seats.work turning.state.stopped turning.state.book.entries seat (with_turn (work_of seat m) turning) within stands.told.works.places stands.told.works.few
    (counted_worked (is_idle turning.ended) (work_of seat m).worked (work_of seat m).turns (stands.told.works.few seat))
    (λ s fails other.
    let before = stands.told.works.first s fails in
    let halt = turned.halted before.0 in
    (halt.0, halt.1, subst (λ h. none_stopping h ≡ true) (sym halt.2) before.1))
    stands.told.works.one
    (λ fails. let f = turned.failed fails in (f.1, f.2))))
