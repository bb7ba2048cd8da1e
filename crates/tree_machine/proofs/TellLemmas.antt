-- What a list of steps tells of the disk's faults and pages.
use Rattle.std.proofs.Common.{◌≡◌, ◌⊎◌, inl, inr, refl, ap, sym, subst, ◌∙◌, ℕ, ◌+◌, ◌≤◌, Bool, cond, true, false, not, List, [], ◌∷◌, ◌++◌, Option, Some, None, arith}
use Rattle.std.proofs.lemmas.Grind.{common_steps}
use Rattle.std.proofs.lemmas.Bool.Decides.{nat_tests}
use Rattle.std.specs.Prelude.{◌==◌, nat_lt, unwrap_or, slice_set, slice_index_or, IsTrue}
use Rattle.std.proofs.lemmas.Bool.{false≢true}
use Rattle.std.specs.List.{AllByRecursion}
use Rattle.blsm_model.specs.declared.key.Key.{Key}
use Rattle.blsm_model.specs.declared.row.Row.{Row}
use Rattle.blsm_model.specs.declared.row.Value.{Value}
use Rattle.blsm_model.specs.declared.op.Op.{Op}
use Rattle.blsm_model.specs.declared.op.Op.TheVariants.{Hold, Next, Release}
use Rattle.blsm_model.specs.declared.history.Why.{Why}
use Rattle.blsm_model.specs.declared.history.Why.TheVariants as why
use Rattle.blsm_model.specs.declared.history.Reply.{Reply}
use Rattle.blsm_model.specs.declared.history.Reply.TheVariants.{Damaged, Done, Fault, Full, FaultLost, FaultUnsure, Kept, Stopped}
use Rattle.blsm_model.specs.declared.history.Entry.{Entry}
use Rattle.blsm_model.specs.Book.{Book}
use Rattle.blsm_model.specs.declared.op.Write.{Write}
use Rattle.blsm_model.specs.Histories.{writes_of, answer_to_release, answer_to_look, is_met, is_refusal, looked_at, looks_first}
use Rattle.blsm_model.specs.Legal.{total_weight, may_look}
use Rattle.record_delta.specs.Entries.{entries_weight}
use Rattle.gear_sched.specs.Gears.{plan_for, first_debt, second_debt}
use Rattle.gear_sched.specs.declared.Plan.{Plan}
use Rattle.gear_sched.specs.declared.Plan.TheVariants.{Snow, Deep, Nothing}
use Rattle.tree_machine.specs.declared.step.Kind.{Kind}
use Rattle.tree_machine.specs.declared.step.Kind.TheVariants as kind
use Rattle.tree_machine.specs.declared.step.Step.{Step}
use Rattle.tree_machine.specs.Lists.{memory_weight, contents_in, value_in}
use Rattle.tree_machine.specs.Machine.{Machine, WorkSoFar, no_work, is_closed, charge, held_by, work_of}
use Rattle.tree_machine.specs.Moves.{pass_quantum, deep_quantum, with_peak, note, stop}
use Rattle.tree_machine.specs.Steps.{
  Outcome,
  Well,
  FailedAfter,
  FailedLooking,
  Broken,
  NoRoom,
  Stepped,
  Choice,
  DeepQuantum,
  PassQuantum,
  choice,
  chosen,
  ended_as,
  replied,
  unless_stopped,
  unless_refused,
  refused_first,
  told_by_look,
  swaps_due,
  one_if,
  admit,
  admit_met,
  admit_fitting,
  is_full,
  deep_swapped,
  ready_for,
  taken_together,
  reply_unless,
  do_hold,
  do_next,
  holding,
  forgive,
  pay,
  pay_running,
  pay_planned,
  do_pay,
  do_turn,
  work_turning,
  worker_turning,
  with_turn,
  work_turn,
  worker_turn,
  work_end,
  leave,
}
use Rattle.tree_machine.specs.Plays.{may_step, stepped, stepped_as, played, played_one}
use Rattle.tree_machine.specs.Outcomes.{Rose, last_count, IsPossible, AreTold, is_failed_lookup, faults_told, is_damaged, is_by_page, is_broken, NoneBroken}
use Rattle.tree_machine.proofs.ToldLemmas.{some_or_none}
use Rattle.tree_machine.proofs.GrowLemmas.{taken_book, ready_book, pass_quantum_book, deep_quantum_book}
use Rattle.blsm_model.proofs.LookLemmas.{look_answers}
use Rattle.tree_machine.proofs.Terms.{is_bad_page, FindsNone, IsReachedBy}

abbrev is_failed : Outcome → Bool
is_failed (FailedAfter commits faults) = true
is_failed (FailedLooking faults) = true
is_failed _ = false

-- the cause of a stop is the outcome's
abbrev IsCause : Outcome → Why → Type 0
IsCause (FailedAfter commits faults) cause = cause ≡ why.Faulted faults
IsCause (Broken page) cause = cause ≡ why.BadPage page
IsCause _ cause = ⊥

-- A step stops nothing, and the entry that it notes, if any, tells of a fault or a damaged page only where its outcome, or the work that it ends, does;
record Quiet (m : Machine) (seat : ℕ) (outcome : Outcome) (new : Machine) : Type 0 where
  pub stopped : new.stopped ≡ m.stopped
  pub entries : (new.book.entries ≡ m.book.entries)
      ⊎ ((entry : Entry) × (is_failed_lookup entry.op entry.reply ≡ true → is_failed outcome ≡ true) × (is_damaged entry.reply ≡ true → (is_broken outcome ≡ true) ⊎ (is_bad_page (work_of seat m).last ≡ true))
      × (new.book.entries ≡ m.book.entries ++ entry ∷ []))

-- or it stops for the outcome's cause, and notes no lookup and no damage.
record Stops (m : Machine) (outcome : Outcome) (new : Machine) : Type 0 where
  pub cause : Why
  pub is_cause : IsCause outcome cause
  pub was : m.stopped ≡ None
  pub stopped : new.stopped ≡ Some cause
  pub entries : (new.book.entries ≡ m.book.entries) ⊎ ((entry : Entry) × (is_failed_lookup entry.op entry.reply ≡ false) × (is_damaged entry.reply ≡ false) × (new.book.entries ≡ m.book.entries ++ entry ∷ []))

abbrev Tells : Machine → ℕ → Outcome → Machine → Type 0
Tells m seat outcome new = Quiet m seat outcome new ⊎ Stops m outcome new

-- ---- what the merges' moves leave

ready_stop : (weight : ℕ) (m : Machine) → (ready_for weight m).stopped ≡ m.stopped
ready_stop weight m = grind (arith, common_steps, nat_tests)

chosen_stop : (c : Choice) (seat : ℕ) (m : Machine) → (chosen c seat m).stopped ≡ m.stopped
chosen_stop c seat m = grind (arith, common_steps, nat_tests)

taken_stop : (seat : ℕ) (op : Op) (m : Machine) → (taken_together seat (writes_of op) m).stopped ≡ m.stopped
taken_stop seat op m = grind (arith, common_steps, nat_tests)

-- ---- each step

-- a reply that tells of neither
plain : (m : Machine) (seat : ℕ) (outcome : Outcome) (op : Op) (reply : Reply) (n : Machine) → is_failed_lookup op reply ≡ false → is_damaged reply ≡ false → n.stopped ≡ m.stopped → n.book.entries ≡ m.book.entries
    → Tells m seat outcome (note seat op reply n)
plain m seat outcome op reply n lookup damaged stopped entries = grind (arith, common_steps, nat_tests)

still : (m : Machine) (seat : ℕ) (outcome : Outcome) (n : Machine) → n.stopped ≡ m.stopped → n.book.entries ≡ m.book.entries → Tells m seat outcome n
still m seat outcome n stopped entries = inl (record { stopped = stopped; entries = inl entries })

unless_tells : (m : Machine) (seat : ℕ) (outcome : Outcome) (op : Op) (otherwise : Stepped) → ((why : Why) → is_failed_lookup op (Stopped why) ≡ false) → (m.stopped ≡ None → Tells m seat outcome otherwise.state)
    → Tells m seat outcome (unless_stopped m.stopped seat op m otherwise).state
unless_tells m seat outcome op otherwise no_lookup runs = grind (arith, common_steps, nat_tests)

-- what a lookup tells that comes first, its outcome does
refused_tells : (m : Machine) (seat : ℕ) (op : Op) (outcome : Outcome) (otherwise : Stepped) →
    (m.stopped ≡ None → Tells m seat outcome otherwise.state) → m.stopped ≡ None
    → Tells m seat outcome (unless_refused (refused_first m op outcome) seat op m otherwise).state
refused_tells m seat op outcome otherwise runs none = by (looks_first op) outcome runs
  where
    kept : (e : Outcome) (met : Bool) (found : Option Value) → (m.stopped ≡ None → Tells m seat e otherwise.state) → Tells m seat e
        (unless_refused (cond met None (Some (Kept found))) seat op m otherwise).state
    kept e true found runs = runs none
    kept e false found runs = plain m seat e op (Kept found) m refl refl refl refl

    by : (first : Bool) (e : Outcome) → (m.stopped ≡ None → Tells m seat e otherwise.state)
        → Tells m seat e (unless_refused (cond first (told_by_look e (is_met op (value_in m.lists)) (looked_at op (value_in m.lists))) None) seat op
        m otherwise).state
    by false e runs = runs none
    by true (FailedLooking faults) runs = inl (record {
      stopped = refl;
      entries = inr
          (record { seat = seat; op = op; reply = Fault }, λ failed. refl, λ damaged. absurd (false≢true damaged), refl);
    })
    by true (Broken page) runs = inl (record {
      stopped = refl;
      entries = inr
          (record { seat = seat; op = op; reply = Damaged page }, λ failed. absurd (false≢true failed), λ damaged. inl refl, refl);
    })
    by true (FailedAfter commits faults) runs = kept (FailedAfter commits faults) (is_met op (value_in m.lists)) (looked_at op (value_in m.lists))
        runs
    by true Well runs = kept Well (is_met op (value_in m.lists)) (looked_at op (value_in m.lists)) runs
    by true NoRoom runs = kept NoRoom (is_met op (value_in m.lists)) (looked_at op (value_in m.lists)) runs

admit_tells : (m : Machine) (seat : ℕ) (op : Op) (outcome : Outcome) → Tells m seat outcome (admit m seat op outcome).state
admit_tells m seat op outcome =
    unless_tells m seat outcome op (unless_refused (refused_first m op outcome) seat op m (admit_met m seat op outcome))
    (λ cause. refl) (λ none. refused_tells m seat op outcome (admit_met m seat op outcome) (λ runs. by runs (is_full m op)) none)
  where
    lost : (faults : ℕ) (c : Bool) → (stop (why.Faulted faults) (cond c m (deep_swapped m))).book.entries ≡ m.book.entries
    lost faults c = grind (arith, common_steps, nat_tests)

    failed : m.stopped ≡ None → (commits faults : ℕ) (b : Bool)
        → Stops m (FailedAfter commits faults) (cond b (replied seat op FaultLost (stop (why.Faulted faults) (cond (commits == 0) m (deep_swapped m)))) (replied seat op FaultUnsure (stop (why.Faulted faults) (ready_for (total_weight (writes_of op)) m)))).state
    failed none commits faults true = record {
      cause = why.Faulted faults;
      is_cause = refl;
      was = none;
      stopped = refl;
      entries = inr (record { seat = seat; op = op; reply = FaultLost }, refl, refl, ap (λ es. es ++ record { seat = seat; op = op; reply = FaultLost } ∷ []) (lost faults (commits == 0)));
    }
    failed none commits faults false = record {
      cause = why.Faulted faults;
      is_cause = refl;
      was = none;
      stopped = refl;
      entries = inr (record { seat = seat; op = op; reply = FaultUnsure }, refl, refl, ap (λ (b : Book). b.entries ++ record { seat = seat; op = op; reply = FaultUnsure } ∷ []) (ready_book (total_weight (writes_of op)) m));
    }

    done : (e : Outcome) → Tells m seat e (note seat op Done (with_peak (taken_together seat (writes_of op) (ready_for (total_weight (writes_of op)) m))))
    done e = grind (arith, common_steps, nat_tests, plain, taken_stop, ready_stop, taken_book, ready_book)

    fitting : m.stopped ≡ None → (e : Outcome) → Tells m seat e (admit_fitting m seat op (total_weight (writes_of op)) e).state
    fitting none (FailedAfter commits faults) = inr (failed none commits faults (nat_lt commits (swaps_due m)))
    fitting none (FailedLooking faults) = done (FailedLooking faults)
    fitting none Well = done Well
    fitting none (Broken page) = done (Broken page)
    fitting none NoRoom = done NoRoom

    by : m.stopped ≡ None → (b : Bool) → Tells m seat outcome (cond b (replied seat op (Full (charge m)) m) (admit_fitting m seat op (total_weight (writes_of op)) outcome)).state
    by none true = plain m seat outcome op (Full (charge m)) m refl refl refl refl
    by none false = fitting none outcome

pay_tells : (m : Machine) (seat : ℕ) (outcome : Outcome) → Tells m seat outcome (pay m seat outcome).state
pay_tells m seat outcome = by m.stopped refl
  where
    owing : (quantum : Machine → Machine) → (quantum (forgive seat m)).stopped ≡ m.stopped → (quantum (forgive seat m)).book ≡ m.book → m.stopped ≡ None → (e : Outcome) → Tells m seat e (do_pay (forgive seat m) quantum seat e).state
    owing quantum h1 h2 h3 e = grind (arith, common_steps, nat_tests)

    planned : m.stopped ≡ None → (plan : Plan) → Tells m seat outcome (pay_planned plan (forgive seat m) seat outcome).state
    planned none Snow = owing (pass_quantum seat) (chosen_stop PassQuantum seat (forgive seat m)) (pass_quantum_book seat (forgive seat m)) none outcome
    planned none Deep = owing (deep_quantum seat) (chosen_stop DeepQuantum seat (forgive seat m)) (deep_quantum_book seat (forgive seat m)) none outcome
    planned none Nothing = still m seat outcome (forgive seat m) refl refl

    by : (o : Option Why) → m.stopped ≡ o → Tells m seat outcome (pay_running o m seat outcome).state
    by (Some cause) is = still m seat outcome m refl refl
    by None is = planned is (plan_for (first_debt (forgive seat m).gears seat) (second_debt (forgive seat m).gears seat))

-- a command that only looks tells what its outcome does
look_tells : (m : Machine) (seat : ℕ) (op : Op) (reply : Reply) (outcome : Outcome) → is_refusal reply ≡ false → Tells m seat outcome (note seat op (reply_unless outcome reply) m)
look_tells m seat op reply outcome none = grind (arith, common_steps, nat_tests)

hold_tells : (m : Machine) (seat : ℕ) (low high : Key) (outcome : Outcome) → Tells m seat outcome (do_hold m seat low high outcome).state
hold_tells m seat low high outcome = grind (arith, common_steps, nat_tests)

next_tells : (m : Machine) (seat n : ℕ) (outcome : Outcome) (held : Option (List Row)) → Tells m seat outcome (do_next m seat n outcome held).state
next_tells m seat n outcome held = grind (arith, common_steps, nat_tests)

drop_tells : (m : Machine) (seat : ℕ) (outcome : Outcome) (held : Option (List Row)) → Tells m seat outcome (note seat Release (answer_to_release held) (holding seat None m))
drop_tells m seat outcome held = grind (arith, common_steps, nat_tests)

-- a state that differs in neither
tells_on : (m : Machine) (seat : ℕ) (outcome : Outcome) (n k : Machine) → k.stopped ≡ n.stopped → k.book.entries ≡ n.book.entries → Tells m seat outcome n → Tells m seat outcome k
tells_on m seat outcome n k h1 h2 h3 = grind (arith, common_steps, nat_tests)

turn_tells : (c : Choice) (m : Machine) (seat : ℕ) (outcome : Outcome) → m.stopped ≡ None → Tells m seat outcome (do_turn c outcome seat m).state
turn_tells c m seat outcome h1 = grind (arith, common_steps, nat_tests)

work_turn_tells : (m : Machine) (seat : ℕ) (outcome : Outcome) → Tells m seat outcome (work_turn m seat outcome).state
work_turn_tells m seat outcome = grind (arith, common_steps, nat_tests, tells_on, still, turn_tells)

worker_turn_tells : (m : Machine) (seat : ℕ) (outcome : Outcome) → Tells m seat outcome (worker_turn m seat outcome).state
worker_turn_tells m seat outcome =
    tells_on m seat outcome (worker_turning m.stopped (is_closed m) m seat outcome).state (worker_turn m seat outcome).state refl refl
    (by m.stopped refl (is_closed m))
  where
    by : (o : Option Why) → m.stopped ≡ o → (closed : Bool) → Tells m seat outcome (worker_turning o closed m seat outcome).state
    by (Some cause) is closed = still m seat outcome m refl refl
    by None is true = still m seat outcome m refl refl
    by None is false = turn_tells (choice (nat_lt m.gears.sizes.low m.spring) false m) m seat outcome is

-- a command that doesn't only look is no lookup that failed
pub no_look : (op : Op) (reply : Reply) → may_look op ≡ false → is_failed_lookup op reply ≡ false
no_look op reply h1 = grind (arith, common_steps, nat_tests)

work_end_tells : (m : Machine) (seat n : ℕ) (outcome : Outcome) → Tells m seat outcome (work_end m seat n).state
work_end_tells m seat n outcome = grind (arith, common_steps, nat_tests, no_look, common_steps, nat_tests)

step_tells : (m : Machine) (seat : ℕ) (k : Kind) (outcome : Outcome) → Tells m seat outcome (stepped_as m seat k outcome).state
step_tells m seat (kind.Admit op) outcome = admit_tells m seat op outcome
step_tells m seat kind.Pay outcome = pay_tells m seat outcome
step_tells m seat (kind.Look op) outcome =
    unless_tells m seat outcome op (replied seat op (reply_unless outcome (answer_to_look op (contents_in m.lists))) m) (λ cause. refl)
    (λ none. look_tells m seat op (answer_to_look op (contents_in m.lists)) outcome (look_answers op (contents_in m.lists)))
step_tells m seat (kind.Hold low high) outcome = unless_tells m seat outcome (Hold low high) (do_hold m seat low high outcome) (λ cause. refl) (λ none. hold_tells m seat low high outcome)
step_tells m seat (kind.Next n) outcome = unless_tells m seat outcome (Next n) (do_next m seat n outcome (held_by seat m)) (λ cause. refl) (λ none. next_tells m seat n outcome (held_by seat m))
step_tells m seat kind.Release outcome =
    unless_tells m seat outcome Release (replied seat Release (answer_to_release (held_by seat m)) (holding seat None m)) (λ cause. refl) (λ none. drop_tells m seat outcome (held_by seat m))
step_tells m seat kind.WorkTurn outcome = work_turn_tells m seat outcome
step_tells m seat (kind.WorkEnd n) outcome = work_end_tells m seat n outcome
step_tells m seat kind.WorkerTurn outcome = worker_turn_tells m seat outcome
step_tells m seat kind.Leave outcome = still m seat outcome (leave m seat).state refl refl

-- ---- faults

step_faults : (m : Machine) (seat : ℕ) (k : Kind) (outcome : Outcome) → faults_told (stepped_as m seat k outcome).state ≤ faults_told m + one_if (is_failed outcome)
step_faults m seat k outcome = grind (arith, common_steps, nat_tests, step_tells, common_steps, nat_tests)

told_le : (m : Machine) (old new : ℕ) (steps : List (Step × Outcome)) → AreTold m old steps new → old ≤ new
told_le m old new [] told = told
told_le m old new (made ∷ steps) told = let rest = told_le (played_one m made) told.0 new steps told.3 in omega (arith, told.1, rest)

-- one step of a list
one_faults : (m : Machine) (made : Step × Outcome) (old mid : ℕ) → old ≤ mid → (may_step m made.0 ≡ true → IsPossible m made.0.seat made.0.kind made.1 old mid)
    → (faults_told (played_one m made) + old ≤ faults_told m + mid) ⊎ (mid ≡ last_count)
one_faults m made old mid le possible = by (may_step m made.0) refl
  where
    of : (outcome : Outcome) → IsPossible m made.0.seat made.0.kind outcome old mid → faults_told (stepped m made.0 outcome).state ≤ faults_told m + one_if (is_failed outcome)
        → (faults_told (stepped m made.0 outcome).state + old ≤ faults_told m + mid) ⊎ (mid ≡ last_count)
    of outcome h1 h2 = grind (arith, common_steps, nat_tests)

    by : (b : Bool) → may_step m made.0 ≡ b → (faults_told (cond b (stepped m made.0 made.1).state m) + old ≤ faults_told m + mid) ⊎ (mid ≡ last_count)
    by true is = of made.1 (possible is) (step_faults m made.0.seat made.0.kind made.1)
    by false is = inl (omega (arith, le))

pub faults_are_counted : (m : Machine) (old new : ℕ) (steps : List (Step × Outcome)) → new ≤ last_count → AreTold m old steps new
    → (faults_told (played m steps) + old ≤ faults_told m + new) ⊎ (new ≡ last_count)
faults_are_counted m old new [] within told = inl (omega (arith, told))
faults_are_counted m old new (made ∷ steps) within told = both_parts (one_faults m made old told.0 told.1 told.2) (faults_are_counted (played_one m made) told.0 new steps within told.3)
  where
    both_parts : (faults_told (played_one m made) + old ≤ faults_told m + told.0) ⊎ (told.0 ≡ last_count)
        → (faults_told (played (played_one m made) steps) + told.0 ≤ faults_told (played_one m made) + new) ⊎ (new ≡ last_count)
        → (faults_told (played (played_one m made) steps) + old ≤ faults_told m + new) ⊎ (new ≡ last_count)
    both_parts first (inr last) = inr last
    both_parts (inr last) (inl rest) = inr (let le = told_le (played_one m made) told.0 new steps told.3 in omega (arith, le, last, within))
    both_parts (inl first) (inl rest) = inl (omega (arith, first, rest))

-- ---- stops

rose_on : (old mid faults : ℕ) → old ≤ mid → Rose mid faults → Rose old faults
rose_on old mid faults h1 h2 = grind (arith, common_steps, nat_tests)

-- ---- damage

damage_push : (es : List Entry) (e : Entry) → AllByRecursion (λ e. is_damaged e.reply ≡ false) es → is_damaged e.reply ≡ false → AllByRecursion (λ e. is_damaged e.reply ≡ false) (es ++ e ∷ [])
damage_push [] e all one = (one, tt)
damage_push (x ∷ xs) e all one = (all.0, damage_push xs e all.1 one)

cause_sound : (outcome : Outcome) (cause : Why) → is_broken outcome ≡ false → IsCause outcome cause → is_by_page (Some cause) ≡ false
cause_sound outcome cause h1 h2 = grind (arith, common_steps, nat_tests)

is_false : (b : Bool) → (b ≡ true → ⊥) → b ≡ false
is_false b h1 = grind (arith, common_steps, nat_tests)

-- works' last turns
turned_sound : (m : Machine) (seat : ℕ) (outcome : Outcome) → is_broken outcome ≡ false → is_bad_page (work_turning m.stopped m seat outcome).ended ≡ false
turned_sound m seat outcome whole = by m.stopped
  where
    ended : (c : Choice) → is_bad_page (ended_as c) ≡ false
    ended c = grind (arith, common_steps, nat_tests)

    of : (c : Choice) (e : Outcome) → is_broken e ≡ false → is_bad_page (do_turn c e seat m).ended ≡ false
    of c e h1 = grind (arith, common_steps, nat_tests)

    by : (o : Option Why) → is_bad_page (work_turning o m seat outcome).ended ≡ false
    by (Some cause) = refl
    by None = of (choice (not (memory_weight m.lists == 0)) (not (entries_weight m.lists.c1 == 0)) m) outcome whole

work_set : (works : List WorkSoFar) (seat : ℕ) (now : WorkSoFar) → is_bad_page now.last ≡ false → ((s : ℕ) → is_bad_page (slice_index_or works s no_work).last ≡ false)
    → (s : ℕ) → is_bad_page (slice_index_or (slice_set works seat now) s no_work).last ≡ false
work_set works seat now sound were s = grind (arith, common_steps, nat_tests)

ready_work : (weight : ℕ) (m : Machine) → (ready_for weight m).seats.work ≡ m.seats.work
ready_work weight m = grind (arith, common_steps, nat_tests)

turn_work : (c : Choice) (outcome : Outcome) (seat : ℕ) (m : Machine) → (do_turn c outcome seat m).state.seats.work ≡ m.seats.work
turn_work c outcome seat m = grind (arith, common_steps, nat_tests)

unless_work : (m : Machine) (seat : ℕ) (op : Op) (o : Option Why) (otherwise : Stepped) → otherwise.state.seats.work ≡ m.seats.work → (unless_stopped o seat op m otherwise).state.seats.work ≡ m.seats.work
unless_work m seat op o otherwise h1 = grind (arith, common_steps, nat_tests)

admit_work : (m : Machine) (seat : ℕ) (op : Op) (outcome : Outcome) → (admit m seat op outcome).state.seats.work ≡ m.seats.work
admit_work m seat op outcome =
    unless_work m seat op m.stopped (unless_refused (refused_first m op outcome) seat op m (admit_met m seat op outcome))
    (refused (refused_first m op outcome))
  where
    taken : (ws : List Write) (n : Machine) → (taken_together seat ws n).seats.work ≡ n.seats.work
    taken ws n = grind (arith, common_steps, nat_tests)

    done : (with_peak (taken_together seat (writes_of op) (ready_for (total_weight (writes_of op)) m))).seats.work ≡ m.seats.work
    done = taken (writes_of op) (ready_for (total_weight (writes_of op)) m) ∙ ready_work (total_weight (writes_of op)) m

    lost : (c : Bool) → (cond c m (deep_swapped m)).seats.work ≡ m.seats.work
    lost c = grind (arith, common_steps, nat_tests)

    failed : (commits faults : ℕ) (b : Bool)
        → (cond b (replied seat op FaultLost (stop (why.Faulted faults) (cond (commits == 0) m (deep_swapped m)))) (replied seat op FaultUnsure (stop (why.Faulted faults) (ready_for (total_weight (writes_of op)) m)))).state.seats.work ≡ m.seats.work
    failed commits faults true = lost (commits == 0)
    failed commits faults false = ready_work (total_weight (writes_of op)) m

    fitting : (e : Outcome) → (admit_fitting m seat op (total_weight (writes_of op)) e).state.seats.work ≡ m.seats.work
    fitting (FailedAfter commits faults) = failed commits faults (nat_lt commits (swaps_due m))
    fitting (FailedLooking faults) = done
    fitting Well = done
    fitting (Broken page) = done
    fitting NoRoom = done

    full : (b : Bool) → (cond b (replied seat op (Full (charge m)) m) (admit_fitting m seat op (total_weight (writes_of op)) outcome)).state.seats.work ≡ m.seats.work
    full true = refl
    full false = fitting outcome

    refused : (o : Option Reply) → (unless_refused o seat op m (admit_met m seat op outcome)).state.seats.work ≡ m.seats.work
    refused (Some reply) = refl
    refused None = full (is_full m op)

pay_work : (m : Machine) (seat : ℕ) (outcome : Outcome) → (pay m seat outcome).state.seats.work ≡ m.seats.work
pay_work m seat outcome = grind (arith, common_steps, nat_tests)

hold_work : (m : Machine) (seat : ℕ) (low high : Key) (outcome : Outcome) → (do_hold m seat low high outcome).state.seats.work ≡ m.seats.work
hold_work m seat low high outcome = grind (arith, common_steps, nat_tests)

next_work : (m : Machine) (seat n : ℕ) (outcome : Outcome) (held : Option (List Row)) → (do_next m seat n outcome held).state.seats.work ≡ m.seats.work
next_work m seat n outcome held = grind (arith, common_steps, nat_tests)

-- what changes the works: a turn of work and its end
works_sound : (m : Machine) (seat : ℕ) (k : Kind) (outcome : Outcome) → is_broken outcome ≡ false → ((s : ℕ) → is_bad_page (work_of s m).last ≡ false) → (s : ℕ) → is_bad_page (work_of s (stepped_as m seat k outcome).state).last ≡ false
works_sound m seat kind.WorkTurn outcome whole were s =
    subst (λ ws. is_bad_page (slice_index_or (slice_set ws seat (with_turn (work_of seat m) (work_turning m.stopped m seat outcome))) s no_work).last ≡ false) (sym (turning_work m.stopped))
    (work_set m.seats.work seat (with_turn (work_of seat m) (work_turning m.stopped m seat outcome)) (turned_sound m seat outcome whole) were s)
  where
    turning_work : (o : Option Why) → (work_turning o m seat outcome).state.seats.work ≡ m.seats.work
    turning_work (Some cause) = refl
    turning_work None = turn_work (choice (not (memory_weight m.lists == 0)) (not (entries_weight m.lists.c1 == 0)) m) outcome seat m
works_sound m seat (kind.WorkEnd n) outcome whole were s = work_set m.seats.work seat no_work refl were s
works_sound m seat kind.WorkerTurn outcome whole were s = ap (λ ws. is_bad_page (slice_index_or ws s no_work).last) (turning_work m.stopped (is_closed m)) ∙ were s
  where
    turning_work : (o : Option Why) (closed : Bool) → (worker_turning o closed m seat outcome).state.seats.work ≡ m.seats.work
    turning_work (Some cause) closed = refl
    turning_work None true = refl
    turning_work None false = turn_work (choice (nat_lt m.gears.sizes.low m.spring) false m) outcome seat m
works_sound m seat (kind.Admit op) outcome whole were s = ap (λ ws. is_bad_page (slice_index_or ws s no_work).last) (admit_work m seat op outcome) ∙ were s
works_sound m seat kind.Pay outcome whole were s = ap (λ ws. is_bad_page (slice_index_or ws s no_work).last) (pay_work m seat outcome) ∙ were s
works_sound m seat (kind.Look op) outcome whole were s = ap (λ ws. is_bad_page (slice_index_or ws s no_work).last) (unless_work m seat op m.stopped (replied seat op (reply_unless outcome (answer_to_look op (contents_in m.lists))) m) refl) ∙ were s
works_sound m seat (kind.Hold low high) outcome whole were s = ap (λ ws. is_bad_page (slice_index_or ws s no_work).last) (unless_work m seat (Hold low high) m.stopped (do_hold m seat low high outcome) (hold_work m seat low high outcome)) ∙ were s
works_sound m seat (kind.Next n) outcome whole were s = ap (λ ws. is_bad_page (slice_index_or ws s no_work).last) (unless_work m seat (Next n) m.stopped (do_next m seat n outcome (held_by seat m)) (next_work m seat n outcome (held_by seat m))) ∙ were s
works_sound m seat kind.Release outcome whole were s = ap (λ ws. is_bad_page (slice_index_or ws s no_work).last) (unless_work m seat Release m.stopped (replied seat Release (answer_to_release (held_by seat m)) (holding seat None m)) refl) ∙ were s
works_sound m seat kind.Leave outcome whole were s = were s

step_finds : (m : Machine) (seat : ℕ) (k : Kind) (outcome : Outcome) → is_broken outcome ≡ false → FindsNone m → FindsNone (stepped_as m seat k outcome).state
step_finds m seat k outcome whole f = by (step_tells m seat k outcome)
  where
    quiet : Quiet m seat outcome (stepped_as m seat k outcome).state → FindsNone (stepped_as m seat k outcome).state
    quiet q = record { entries = of q.entries; stopped = ap is_by_page q.stopped ∙ f.stopped; works = works_sound m seat k outcome whole f.works }
      where
        of : ((stepped_as m seat k outcome).state.book.entries ≡ m.book.entries)
            ⊎ ((entry : Entry) × (is_failed_lookup entry.op entry.reply ≡ true → is_failed outcome ≡ true) × (is_damaged entry.reply ≡ true → (is_broken outcome ≡ true) ⊎ (is_bad_page (work_of seat m).last ≡ true))
            × ((stepped_as m seat k outcome).state.book.entries ≡ m.book.entries ++ entry ∷ [])) → AllByRecursion (λ e. is_damaged e.reply ≡ false) (stepped_as m seat k outcome).state.book.entries
        of (inl same) = subst (λ es. AllByRecursion (λ (e : Entry). is_damaged e.reply ≡ false) es) (sym same) f.entries
        of (inr noted) = subst (λ es. AllByRecursion (λ (e : Entry). is_damaged e.reply ≡ false) es) (sym noted.3) (damage_push m.book.entries noted.0 f.entries (is_false (is_damaged noted.0.reply) (λ is. neither (noted.2 is))))
          where
            neither : (is_broken outcome ≡ true) ⊎ (is_bad_page (work_of seat m).last ≡ true) → ⊥
            neither h1 = grind (arith, common_steps, nat_tests)

    stops : Stops m outcome (stepped_as m seat k outcome).state → FindsNone (stepped_as m seat k outcome).state
    stops s = grind (arith, common_steps, nat_tests, cause_sound, works_sound, common_steps, nat_tests)

    by : Tells m seat outcome (stepped_as m seat k outcome).state → FindsNone (stepped_as m seat k outcome).state
    by (inl q) = quiet q
    by (inr s) = stops s

-- where no page was found damaged, nothing tells of one
pub none_damaged : (m : Machine) (steps : List (Step × Outcome)) → FindsNone m → NoneBroken steps → FindsNone (played m steps)
none_damaged m [] f whole = f
none_damaged m (made ∷ steps) f whole = none_damaged (played_one m made) steps (by (may_step m made.0)) whole.1
  where
    by : (b : Bool) → FindsNone (cond b (stepped m made.0 made.1).state m)
    by true = step_finds m made.0.seat made.0.kind made.1 whole.0 f
    by false = f

-- ---- states that are reached so

possible_from : (m : Machine) (seat : ℕ) (k : Kind) (outcome : Outcome) (old mid new : ℕ) → old ≤ mid → IsPossible m seat k outcome mid new → IsPossible m seat k outcome old new
possible_from m seat k outcome old mid new h1 h2 = grind (arith, common_steps, nat_tests)

told_on : (m : Machine) (old mid new : ℕ) (steps : List (Step × Outcome)) (made : Step × Outcome) → AreTold m old steps mid → mid ≤ new
    → (may_step (played m steps) made.0 ≡ true → IsPossible (played m steps) made.0.seat made.0.kind made.1 mid new) → AreTold m old (steps ++ made ∷ []) new
told_on m old mid new [] made told le possible = (new, omega (arith, told, le), λ ok. possible_from m made.0.seat made.0.kind made.1 old mid new told (possible ok), omega arith)
told_on m old mid new (first ∷ steps) made told le possible = (told.0, told.1, told.2, told_on (played_one m first) told.0 mid new steps made told.3 le possible)

-- a state that is reached so leads by each possible step to one that is
pub reaches_on_by : (start m : Machine) (old mid new : ℕ) (step : Step) (outcome : Outcome) → IsReachedBy start old m mid → IsTrue (may_step m step) → mid ≤ new
    → IsPossible m step.seat step.kind outcome mid new → IsReachedBy start old (played_one m (step, outcome)) new
reaches_on_by start m old mid new step outcome reached ok le possible = (
  reached.0 ++ (step, outcome) ∷ [],
  told_on start old mid new reached.0 (step, outcome) reached.1 le (λ may_be. subst (λ n. IsPossible n step.seat step.kind outcome mid new) (sym reached.2) possible),
  played_push start reached.0 (step, outcome) ∙ ap (λ n. played_one n (step, outcome)) reached.2,
)
  where
    played_push : (m : Machine) (steps : List (Step × Outcome)) (made : Step × Outcome) → played m (steps ++ made ∷ []) ≡ played_one (played m steps) made
    played_push m [] made = refl
    played_push m (first ∷ steps) made = played_push (played_one m first) steps made

-- ---- stops name more faults

played_stays : (m : Machine) (steps : List (Step × Outcome)) (cause : Why) → m.stopped ≡ Some cause → (played m steps).stopped ≡ Some cause
played_stays m [] cause is = is
played_stays m (made ∷ steps) cause is = played_stays (played_one m made) steps cause (by (may_step m made.0))
  where
    by : (b : Bool) → (cond b (stepped m made.0 made.1).state m).stopped ≡ Some cause
    by b = grind (arith, common_steps, nat_tests)

pub stops_name_more : (m : Machine) (old new faults : ℕ) (steps : List (Step × Outcome)) → AreTold m old steps new → m.stopped ≡ None → (played m steps).stopped ≡ Some (why.Faulted faults) → Rose old faults
stops_name_more m old new faults [] told none is = absurd (some_or_none m.stopped (why.Faulted faults) is none)
stops_name_more m old new faults (made ∷ steps) told none is = by (may_step m made.0) refl (λ none_then. rose_on old told.0 faults told.1 (stops_name_more (played_one m made) told.0 new faults steps told.3 none_then is))
  where
    named : (outcome : Outcome) (cause : Why) → IsPossible m made.0.seat made.0.kind outcome old told.0 → IsCause outcome cause → cause ≡ why.Faulted faults → Rose old faults
    named outcome cause h1 h2 h3 = grind (arith, common_steps, nat_tests)

    by : (b : Bool) → may_step m made.0 ≡ b → ((cond b (stepped m made.0 made.1).state m).stopped ≡ None → Rose old faults) → Rose old faults
    by false same rest = rest none
    by true ok rest = of (step_tells m made.0.seat made.0.kind made.1)
      where
        then_played : (cause : Why) → (stepped m made.0 made.1).state.stopped ≡ Some cause → (played m (made ∷ steps)).stopped ≡ Some cause
        then_played cause is = played_stays (played_one m made) steps cause (ap (λ b. (cond b (stepped m made.0 made.1).state m).stopped) ok ∙ is)

        of : Tells m made.0.seat made.1 (stepped m made.0 made.1).state → Rose old faults
        of (inl q) = rest (q.stopped ∙ none)
        of (inr s) = named made.1 s.cause (told.2 ok) s.is_cause (some_same (sym (then_played s.cause s.stopped) ∙ is))
          where
            some_same : Some s.cause ≡ Some (why.Faulted faults) → s.cause ≡ why.Faulted faults
            some_same same = ap (λ o. unwrap_or o s.cause) same
