-- What a paced tree keeps, over every list of steps.
use Rattle.std.proofs.Common.{◌≡◌, ◌≢◌, ◌∙◌, refl, sym, subst, ℕ, ◌+◌, ◌<◌, ◌≤◌, Bool, cond, true, false, not, ◌||◌, List, [], ◌∷◌, Option, Some, None, arith, replicate}
use Rattle.std.proofs.lemmas.Grind.{common_steps}
use Rattle.std.proofs.lemmas.Bool.Decides.{nat_tests}
use Rattle.std.specs.Prelude.{◌==◌, nat_lt, slice_index}
use Rattle.std.proofs.lemmas.Bool.{false≢true, eqb-true, eq-eqb}
use Rattle.blsm_model.specs.Sizes.{Sizes}
use Rattle.blsm_model.specs.Format.{callers}
use Rattle.blsm_model.specs.declared.key.Key.{Key}
use Rattle.blsm_model.specs.declared.row.Value.{Value}
use Rattle.blsm_model.specs.declared.room.Room.{Room}
use Rattle.blsm_model.specs.Geometry.{c1_mark, work_bound}
use Rattle.gear_sched.specs.Gears.{first_debt, second_debt}
use Rattle.pacing.specs.Pace.{Pace, opened as pace_opened, pass_done as pace_pass_done, deep_done as pace_deep_done, pass_over}
use Rattle.pacing.specs.Kept.{IsPaced, quanta_for}
use Rattle.pacing.proofs.Runs.{opened_paced, bounded, deep_in_time}
use Rattle.record_delta.specs.Entries.{Entries, entries_weight}
use Rattle.tree_machine.specs.Lists.{map_in, value_in}
use Rattle.tree_machine.specs.Layers.{IsSound, HasWay}
use Rattle.tree_machine.specs.Machine.{Machine, Catalogue, opened, fresh_seats, in_pass, in_deep, pass_done, deep_done}
use Rattle.tree_machine.specs.Stands.{Stands, WritesFit}
use Rattle.tree_machine.specs.Machine.{charge}
use Rattle.tree_machine.specs.Moves.{stop}
use Rattle.tree_machine.specs.Steps.{
  Outcome,
  Well,
  FailedAfter,
  FailedLooking,
  Broken,
  NoRoom,
  one_if,
  replied,
  unless_stopped,
  unless_refused,
  told_by_look,
  is_full,
  admit_met,
  admit_fitting,
  deep_swapped,
  ready_for,
  swaps_due,
}
use Rattle.tree_machine.specs.Plays.{may, may_step, stepped, stepped_as, played, played_one}
use Rattle.tree_machine.specs.declared.step.Step.{Step}
use Rattle.tree_machine.specs.declared.step.Kind.{Kind}
use Rattle.tree_machine.proofs.NumberLemmas.{way_by_numbers, pass_done_when_taken, deep_done_when_taken}
use Rattle.tree_machine.proofs.PlayLemmas.{opened_stands}
use Rattle.tree_machine.proofs.StepLemmas.{step_stands}
use Rattle.tree_machine.proofs.SettledLemmas.{step_settles}
use Rattle.paced_tree.specs.Numbers.{IsBooked, last_weight, last_quanta, pace_of}
use Rattle.paced_tree.specs.Booking.{IsBookOf}
use Rattle.blsm_model.specs.Book.{Book}
use Rattle.paced_tree.specs.Kept.{AreComponents, IsPacedTree, AllFit}
use Rattle.paced_tree.specs.Bounds.{IsBounded, KeepsPace, PassKeepsUp, NoPassRuns, DeepKeepsUp, quanta_owed_by}
use Rattle.paced_tree.proofs.Moves.{over_test, pass_test, deep_test}
use Rattle.pacing.specs.Spent.{IsSpent}
use Rattle.pacing.proofs.Spent.{opening_spends, quanta_are_few}
use Rattle.tree_machine.specs.declared.step.Kind.TheVariants as kind
use Rattle.blsm_model.specs.declared.history.Why.{Why}
use Rattle.blsm_model.specs.declared.history.Why.TheVariants.{Faulted}
use Rattle.blsm_model.specs.declared.history.Reply.TheVariants.{Full, FaultLost, FaultUnsure}
use Rattle.blsm_model.specs.Histories.{is_met, looked_at, looks_first, writes_of}
use Rattle.blsm_model.specs.Legal.{total_weight}
use Rattle.paced_tree.specs.Made.{IsMadeBy}
use Rattle.paced_tree.proofs.Made.{is_unsure, made_paced, made_spends, made_counts, made_few}
use Rattle.paced_tree.proofs.Steps.{step_makes, caller_below}
use Rattle.pacing.proofs.Counts.{opened_counted, counted_few}
use Rattle.pacing.specs.Counts.{AreFew, IsCounted}
use Rattle.paced_tree.proofs.Terms.{IsToldOf, Makes}

-- ---- the way of the deep merge

way_of : (m : Machine) → IsSound m → IsPaced (pace_of m) → HasWay m
way_of m sound k = way_by_numbers m sound (λ runs all heavy merges.
    let done = deep_in_time (pace_of m) k runs (eq-eqb m.gears.pass_taken (entries_weight m.lists.a + entries_weight m.lists.c1) all) heavy merges in
    let input = (k.within.merging merges).input in
    eqb-true m.gears.deep_taken (entries_weight m.lists.c1x + entries_weight m.lists.c2) done ∙ sym input)

pub has_way : (opening : List (Key × Value)) (m : Machine) → IsPacedTree opening m → HasWay m
has_way opening m t = way_of m t.stands.sound t.paced

-- ---- steps

told : (opening : List (Key × Value)) (m : Machine) → IsPacedTree opening m → IsToldOf m
told opening m t = record { booked = t.booked; started = t.started }

-- what a step makes of the numbers is told by its answer: one admission, payment or turn of the pacing, nothing, or where it failed as much
-- of that as was done
pub step_made : (opening : List (Key × Value)) (m : Machine) (seat : ℕ) (k : Kind) (outcome : Outcome) → IsPacedTree opening m → may m seat k ≡ true → WritesFit k
    → IsMadeBy seat k (stepped_as m seat k outcome).answer (pace_of m) (pace_of (stepped_as m seat k outcome).state)
step_made opening m seat k outcome t ok fits = (step_makes opening m seat k outcome t.stands (has_way opening m t) t.paced (told opening m t) ok fits).made

-- a tree that runs after a step ran before it
ran : (m : Machine) (seat : ℕ) (k : Kind) (outcome : Outcome) → (stepped_as m seat k outcome).state.stopped ≡ None → m.stopped ≡ None
ran m seat k outcome none = grind (arith, common_steps, nat_tests)

-- and where its answer is unsure it stopped
unsure_stops : (m : Machine) (seat : ℕ) (k : Kind) (outcome : Outcome) → (stepped_as m seat k outcome).state.stopped ≡ None → is_unsure k (stepped_as m seat k outcome).answer ≡ false
unsure_stops m seat (kind.Admit op) outcome none = by m.stopped (looks_first op) (is_met op (value_in m.lists)) (looked_at op (value_in m.lists))
    outcome none
  where
    stops : (faults : ℕ) (b d : Bool)
        → (cond b (replied seat op FaultLost (stop (Faulted faults) (cond d m (deep_swapped m)))) (replied seat op FaultUnsure (stop (Faulted faults) (ready_for (total_weight (writes_of op)) m)))).state.stopped ≡ None → ⊥
    stops faults b d h1 = grind (arith, common_steps, nat_tests)

    met : (b : Bool) (e : Outcome)
        → (let ended = cond b (replied seat op (Full (charge m)) m) (admit_fitting m seat op (total_weight (writes_of op)) e) in ended.state.stopped
        ≡ None → is_unsure (kind.Admit op) ended.answer ≡ false)
    met true e none = refl
    met false Well none = refl
    met false NoRoom none = refl
    met false (FailedLooking faults) none = refl
    met false (Broken page) none = refl
    met false (FailedAfter commits faults) none = absurd (stops faults (nat_lt commits (swaps_due m)) (commits == 0) none)

    by : (o : Option Why) (first holds : Bool) (found : Option Value) (e : Outcome)
        → (let ended = unless_stopped o seat op m (unless_refused (cond first (told_by_look e holds found) None) seat op m (admit_met m seat op e)) in
        ended.state.stopped ≡ None → is_unsure (kind.Admit op) ended.answer ≡ false)
    by (Some why) first holds found e none = refl
    by None false holds found e none = met (is_full m op) e none
    by None true holds found (FailedLooking faults) none = refl
    by None true holds found (Broken page) none = refl
    by None true false found Well none = refl
    by None true false found NoRoom none = refl
    by None true false found (FailedAfter commits faults) none = refl
    by None true true found Well none = met (is_full m op) Well none
    by None true true found NoRoom none = met (is_full m op) NoRoom none
    by None true true found (FailedAfter commits faults) none = met (is_full m op) (FailedAfter commits faults) none
unsure_stops m seat kind.Pay outcome none = refl
unsure_stops m seat (kind.Look op) outcome none = refl
unsure_stops m seat (kind.Hold low high) outcome none = refl
unsure_stops m seat (kind.Next n) outcome none = refl
unsure_stops m seat kind.Release outcome none = refl
unsure_stops m seat kind.WorkTurn outcome none = refl
unsure_stops m seat (kind.WorkEnd n) outcome none = refl
unsure_stops m seat kind.WorkerTurn outcome none = refl
unsure_stops m seat kind.Leave outcome none = refl

-- a stopped one makes nothing of the numbers
halted : (m : Machine) (seat : ℕ) (k : Kind) (outcome : Outcome) (why : Why) (old new : Pace) → m.stopped ≡ Some why → IsMadeBy seat k (stepped_as m seat k outcome).answer old new → new ≡ old
halted m seat k outcome why old new is made = grind (arith, common_steps, nat_tests)

-- each step that may be made keeps it so, whatever its outcome
pub step_is_paced : (opening : List (Key × Value)) (m : Machine) (step : Step) (outcome : Outcome) → IsPacedTree opening m → may_step m step ≡ true → WritesFit step.kind → IsPacedTree opening (stepped m step outcome).state
step_is_paced opening m step outcome t ok fits = record {
  stands = step_stands opening m step.seat step.kind outcome t.stands ok way fits;
  settled = step_settles m step.seat step.kind outcome t.stands.sound (omega (arith, t.paced.within.mark)) t.settled;
  started = makes.told.started;
  booked = makes.told.booked;
  paced = made_paced step.seat step.kind (stepped m step outcome).answer (pace_of m) (pace_of (stepped m step outcome).state) (λ pays. pays_caller step.kind pays ok) t.paced makes.made;
  few = few m.stopped refl;
  counted = λ runs. made_counts step.seat step.kind (stepped m step outcome).answer (pace_of m) (pace_of (stepped m step outcome).state) t.paced (t.counted (ran m step.seat step.kind outcome runs)) makes.made (unsure_stops m step.seat step.kind outcome runs);
  spent = made_spends step.seat step.kind (stepped m step outcome).answer (pace_of m) (pace_of (stepped m step outcome).state) t.paced t.spent makes.made;
}
  where
    way : HasWay m
    way = has_way opening m t

    makes : Makes step.seat step.kind (stepped m step outcome).answer m (stepped m step outcome).state
    makes = step_makes opening m step.seat step.kind outcome t.stands way t.paced (told opening m t) ok fits

    pays_caller : (k : Kind) → k ≡ kind.Pay → may m step.seat k ≡ true → step.seat < callers
    pays_caller k is ok = caller_below step.seat (subst (λ k. may m step.seat k ≡ true) is ok)

    few : (o : Option Why) → m.stopped ≡ o → AreFew (pace_of (stepped m step outcome).state)
    few None runs = made_few step.seat step.kind (stepped m step outcome).answer (pace_of m) (pace_of (stepped m step outcome).state) t.paced (t.counted runs) makes.made
    few (Some why) is = subst AreFew (sym (halted m step.seat step.kind outcome why (pace_of m) (pace_of (stepped m step outcome).state) is makes.made)) t.few

pub one_is_paced : (opening : List (Key × Value)) (m : Machine) (made : Step × Outcome) → IsPacedTree opening m → WritesFit made.0.kind → IsPacedTree opening (played_one m made)
one_is_paced opening m made t fits = by (may_step m made.0) refl
  where
    by : (b : Bool) → may_step m made.0 ≡ b → IsPacedTree opening (cond b (stepped m made.0 made.1).state m)
    by true is = step_is_paced opening m made.0 made.1 t is fits
    by false is = t

pub steps_are_paced : (opening : List (Key × Value)) (m : Machine) (steps : List (Step × Outcome)) → IsPacedTree opening m → AllFit steps → IsPacedTree opening (played m steps)
steps_are_paced opening m [] t fits = t
steps_are_paced opening m (made ∷ steps) t fits = steps_are_paced opening (played_one m made) steps (one_is_paced opening m made t fits.0) fits.1

-- ---- the opening

abbrev book_of : Room → Book
book_of room = record { entries = []; quanta = []; room = room }

pub opened_booked : (sizes : Sizes) (room : Room) → IsBooked sizes (book_of room) fresh_seats.quanta fresh_seats.work 0 0 0 (replicate callers 0) (replicate callers 0)
opened_booked sizes room = grind (arith, common_steps, nat_tests)

-- a store that was opened has an opening's pace
pub opened_pace : (sizes : Sizes) (c1 c2 : Entries) (catalogue : Catalogue) (faults : ℕ) (room : Room) → pace_opened sizes (entries_weight c1) (entries_weight c2) ≡ pace_of (opened sizes c1 c2 catalogue faults room)
opened_pace sizes c1 c2 catalogue faults room = refl

-- and is paced
pub opened_is_paced : (sizes : Sizes) (c1 c2 : Entries) (catalogue : Catalogue) (faults : ℕ) (room : Room) → AreComponents sizes c1 c2
    → IsPacedTree (map_in (record { b = []; a = []; c1 = c1; c1x = []; c2 = c2 })) (opened sizes c1 c2 catalogue faults room)
opened_is_paced sizes c1 c2 catalogue faults room are = record {
  stands = opened_stands sizes c1 c2 catalogue faults room are.sorted_c1 are.sorted_c2 are.light_c1 are.light_c2;
  settled = record { bases = are.bases; merging = λ runs. absurd (false≢true runs) };
  started = tt;
  booked = subst (λ (p : Pace). IsBookOf (book_of room) fresh_seats p) same (opened_booked sizes room);
  paced = subst IsPaced same (opened_paced sizes (entries_weight c1) (entries_weight c2) are.numbers);
  few = subst AreFew same (counted_few (pace_opened sizes (entries_weight c1) (entries_weight c2)) (opened_counted sizes (entries_weight c1) (entries_weight c2)));
  counted = λ runs. subst IsCounted same (opened_counted sizes (entries_weight c1) (entries_weight c2));
  spent = subst IsSpent same (opening_spends sizes (entries_weight c1) (entries_weight c2));
}
  where
    same : pace_opened sizes (entries_weight c1) (entries_weight c2) ≡ pace_of (opened sizes c1 c2 catalogue faults room)
    same = opened_pace sizes c1 c2 catalogue faults room

-- ---- what it promises

less : (n all : ℕ) → n ≤ all → n ≢ all → n < all
less n all le other = omega (arith, le, other)

pass_keeps_up : (m : Machine) → IsSound m → IsPaced (pace_of m) → in_pass m ≡ true → PassKeepsUp m
pass_keeps_up m sound k runs =
    let h = k.within.running runs in
    record {
      input = subst (λ n. n < c1_mark m.gears.sizes) (sym h.input) k.within.mark;
      begin = h.begin;
      since = h.since;
      table = h.tables;
      paced = λ not_done. k.pass runs (less m.gears.pass_taken (entries_weight m.lists.a + entries_weight m.lists.c1) (omega (arith, h.of_c1, h.of_table))
          (λ all. false≢true (sym not_done ∙ pass_done_when_taken m sound runs all)));
    }

no_pass_runs : (m : Machine) → IsPaced (pace_of m) → in_pass m ≡ false → NoPassRuns m
no_pass_runs m k rests = let h = k.within.resting rests in record { table = omega (arith, h.spring, h.behind); spring = h.low; nothing = k.no_pass rests }

deep_keeps_up : (m : Machine) → IsSound m → IsPaced (pace_of m) → in_deep m ≡ true → DeepKeepsUp m
deep_keeps_up m sound k runs =
    let h = k.within.merging runs in
    let d = k.deep runs in
    record {
      small = d.small;
      since = d.since;
      paced = λ not_done. d.paced (less m.gears.deep_taken (entries_weight m.lists.c1x + entries_weight m.lists.c2) h.taken
          (λ all. false≢true (sym not_done ∙ deep_done_when_taken m sound runs (all ∙ sym h.input))));
    }

last_of : (m : Machine) (seat : ℕ) → IsSound m → IsPaced (pace_of m) → IsBookOf m.book m.seats (pace_of m) → last_quanta m.book seat + quanta_owed_by seat m ≤ work_bound m.gears.sizes (last_weight m.book seat)
last_of m seat sound k booked =
    let has = booked.last seat in
    subst (λ w. last_quanta m.book seat + quanta_owed_by seat m ≤ work_bound m.gears.sizes w) has.0
    (subst (λ q. q + quanta_owed_by seat m ≤ work_bound m.gears.sizes (slice_index (pace_of m).weights seat)) has.1
    (subst (λ b. slice_index (pace_of m).quanta seat + (cond b 0 (quanta_for m.gears.sizes (first_debt m.gears seat)) + cond (not (in_deep m) || deep_done m) 0 (quanta_for m.gears.sizes (second_debt m.gears seat))) ≤ work_bound m.gears.sizes (slice_index (pace_of m).weights seat))
    (sym (over_test (pass_done m) m.gears.pass (pace_pass_done (pace_of m)) (pass_test m sound)))
    (subst (λ b. slice_index (pace_of m).quanta seat + (cond (pass_over (pace_of m)) 0 (quanta_for m.gears.sizes (first_debt m.gears seat)) + cond b 0 (quanta_for m.gears.sizes (second_debt m.gears seat))) ≤ work_bound m.gears.sizes (slice_index (pace_of m).weights seat))
    (sym (over_test (deep_done m) m.gears.deep (pace_deep_done (pace_of m)) (deep_test m sound)))
    (k.bound seat))))

keeps_pace : (m : Machine) → IsSound m → IsPaced (pace_of m) → IsBookOf m.book m.seats (pace_of m) → KeepsPace m
keeps_pace m sound k booked =
    let all = bounded (pace_of m) k in
    record {
      debts = k.debts;
      first = all.first;
      second = all.second;
      last = λ seat. last_of m seat sound k booked;
      running = pass_keeps_up m sound k;
      resting = no_pass_runs m k;
      merging = deep_keeps_up m sound k;
      unmerged = k.no_deep;
    }

one_more : (b : Bool) (n : ℕ) → n + one_if b ≡ cond b (n + 1) n
one_more b n = grind (arith, common_steps, nat_tests)

pub is_bounded : (opening : List (Key × Value)) (m : Machine) → IsPacedTree opening m → IsBounded m
is_bounded opening m t =
    let k = t.paced in
    let all = bounded (pace_of m) k in
    record {
      way = has_way opening m t;
      settled = t.settled;
      mark = k.within.mark;
      table = k.within.within_peak;
      peak = all.most;
      full = all.full;
      worked = all.work;
      by_callers = t.booked.by_callers;
      writes = t.booked.bound;
      begins = omega (arith, t.few.begins, one_more m.gears.pass m.counts.passes);
      rotations = omega (arith, t.few.turns, one_more m.gears.deep m.counts.deeps);
      quanta = quanta_are_few (pace_of m) k t.spent t.few;
      pace = keeps_pace m t.stands.sound k t.booked;
    }

pub run_is_paced : (sizes : Sizes) (c1 c2 : Entries) (catalogue : Catalogue) (faults : ℕ) (room : Room) (steps : List (Step × Outcome)) → AreComponents sizes c1 c2 → AllFit steps
    → Stands (map_in (record { b = []; a = []; c1 = c1; c1x = []; c2 = c2 })) (played (opened sizes c1 c2 catalogue faults room) steps)
    × IsBounded (played (opened sizes c1 c2 catalogue faults room) steps)
run_is_paced sizes c1 c2 catalogue faults room steps are fits =
    let m = opened sizes c1 c2 catalogue faults room in
    let map = map_in (record { b = []; a = []; c1 = c1; c1x = []; c2 = c2 }) in
    let t = steps_are_paced map m steps (opened_is_paced sizes c1 c2 catalogue faults room are) fits in
    (t.stands, is_bounded map (played m steps) t)
