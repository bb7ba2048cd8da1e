-- A turn of the lists is one of the numbers.
use Rattle.std.proofs.Common.{◌≡◌, ◌∙◌, refl, sym, ap, subst, ℕ, ◌+◌, ◌-◌, ◌<◌, ◌≤◌, Bool, cond, true, false, not, ◌&&◌, ◌||◌, Option, Some, None, length, sum, arith}
use Rattle.std.proofs.lemmas.Grind.{common_steps}
use Rattle.std.proofs.lemmas.Bool.Decides.{nat_tests}
use Rattle.std.specs.Prelude.{◌==◌, nat_le, slice_index, slice_set}
use Rattle.std.proofs.lemmas.Bool.{le-leb}
use Rattle.blsm_model.specs.Format.{callers}
use Rattle.blsm_model.specs.Geometry.{c1_mark}
use Rattle.blsm_model.specs.declared.history.Why.{Why}
use Rattle.gear_sched.specs.Gears.{deep_is_behind, first_debt, second_debt}
use Rattle.pacing.specs.Pace.{with_snow, with_deep}
use Rattle.pacing.specs.Kept.{IsPaced}
use Rattle.pacing.specs.Steps as pacing
use Rattle.pacing.specs.Steps.{Move, FitsMove, IsSnow, IsDeep, turn_of, turned_by, may_begin, is_worker_seat}
use Rattle.pacing.proofs.Numbers.{sum_set}
use Rattle.record_delta.specs.Entries.{entries_weight}
use Rattle.tree_machine.specs.declared.step.Kind.TheVariants as kind
use Rattle.tree_machine.specs.Merges.{Merge}
use Rattle.tree_machine.specs.Layers.{IsSound}
use Rattle.tree_machine.specs.Machine.{Machine, is_closed, Worked, WorkSoFar, seats, pass_done, deep_done, work_of, turn_more}
use Rattle.tree_machine.specs.Moves.{end_pass, output_of, rotate, pass_quantum_of, deep_quantum_of}
use Rattle.tree_machine.specs.Steps as machine
use Rattle.tree_machine.specs.Steps.{
  Choice,
  SwapDeep,
  SwapPass,
  DeepQuantum,
  PassQuantum,
  Begin,
  Rotate,
  Rest,
  choice,
  chosen,
  ended_as,
  quanta_of,
  work_noted,
  with_turn,
  work_turn,
  work_turning,
  worker_turn,
  worker_turning,
  do_turn,
  Outcome,
  Well,
  FailedAfter,
  FailedLooking,
  Broken,
  NoRoom,
}
use Rattle.paced_tree.specs.Booking.{IsBookOf}
use Rattle.paced_tree.specs.Made.{IsTurnedBy}
use Rattle.paced_tree.specs.Numbers.{HasTaken, pace_of}
use Rattle.paced_tree.proofs.Terms.{IsToldOf, Makes, snow_of, deep_of, quantum_for_move}
use Rattle.paced_tree.proofs.Books.{worked_booked, helped_booked, idle_booked}
use Rattle.paced_tree.proofs.Quanta.{has_taken_on, snow_is, deep_is, pass_counted}
use Rattle.paced_tree.proofs.Moves.{pass_test, deep_test, swap_pass_pace, swap_pass_told, begin_pace, begin_told}
use Rattle.paced_tree.proofs.Payments.{pass_of, deep_run_of, table_taken}

-- ---- which turn it is

abbrev pub move_of : Choice → Move
move_of SwapDeep = pacing.SwapDeep
move_of SwapPass = pacing.SwapPass
move_of DeepQuantum = pacing.TakeDeep
move_of PassQuantum = pacing.TakeSnow
move_of Begin = pacing.Begin
move_of Rotate = pacing.Rotate
move_of Rest = pacing.Idle

same_choice : (b1 b2 b3 b4 b5 b6 : Bool)
    → cond b1 pacing.SwapDeep (cond b2 pacing.SwapPass (cond b3 pacing.TakeDeep (cond b4 pacing.TakeSnow (cond b5 pacing.Begin (cond b6 pacing.Rotate pacing.Idle)))))
    ≡ move_of (cond b1 SwapDeep (cond b2 SwapPass (cond b3 DeepQuantum (cond b4 PassQuantum (cond b5 Begin (cond b6 Rotate Rest))))))
same_choice b1 b2 b3 b4 b5 b6 = grind (arith, common_steps, nat_tests)

-- the turn that the numbers ask for, in the machine's words
abbrev pub due : Bool → Machine → Choice
due is_worker m = choice (may_begin is_worker (pace_of m)) (not is_worker && not (entries_weight m.lists.c1 == 0)) m

pub turn_is : (is_worker : Bool) (m : Machine) → IsSound m → turn_of is_worker (pace_of m) ≡ move_of (due is_worker m)
turn_is is_worker m sound = grind (arith, common_steps, nat_tests, deep_test, pass_test, same_choice)

abbrev takes_deep : Choice → Bool
takes_deep DeepQuantum = true
takes_deep _ = false

abbrev takes_pass : Choice → Bool
takes_pass PassQuantum = true
takes_pass _ = false

deep_due : (b1 b2 b3 e b4 b5 b6 : Bool) → takes_deep (cond b1 SwapDeep (cond b2 SwapPass (cond (b3 && e) DeepQuantum (cond b4 PassQuantum (cond b5 Begin (cond b6 Rotate Rest)))))) ≡ true → b3 ≡ true
deep_due b1 b2 b3 e b4 b5 b6 h1 = grind (arith, common_steps, nat_tests)

pass_due : (b1 b2 b3 b4 b5 b6 : Bool) → takes_pass (cond b1 SwapDeep (cond b2 SwapPass (cond b3 DeepQuantum (cond b4 PassQuantum (cond b5 Begin (cond b6 Rotate Rest)))))) ≡ true → b4 ≡ true
pass_due b1 b2 b3 b4 b5 b6 h1 = grind (arith, common_steps, nat_tests)

-- which seats are workers'
pub no_worker : (seat : ℕ) → seat < callers → is_worker_seat seat ≡ false
no_worker seat caller = grind (arith, common_steps, nat_tests)

pub a_worker : (seat : ℕ) → callers ≤ seat → is_worker_seat seat ≡ true
a_worker seat worker = le-leb callers seat worker

-- ---- how it leaves the numbers

module _ (is_worker : Bool) (m : Machine) (seat : ℕ) (sound : IsSound m) (paced : IsPaced (pace_of m)) (t : IsToldOf m) (there : seat < seats) where
  some : 1 ≤ m.gears.sizes.quantum
  some = let fits = paced.within.sizes.quantum in omega arith

  runs_pass : due is_worker m ≡ PassQuantum → (pass : Merge) × (m.merges.pass ≡ Some pass)
  runs_pass is = pass_of m sound
      (pass_due (deep_done m) (pass_done m) (m.gears.deep && (not m.gears.pass || deep_is_behind m.gears)) m.gears.pass (may_begin is_worker (pace_of m)) (not is_worker && not (entries_weight m.lists.c1 == 0)) (ap takes_pass is))

  runs_deep : due is_worker m ≡ DeepQuantum → (deep : Merge) × (m.merges.deep ≡ Some deep)
  runs_deep is = deep_run_of m sound
      (deep_due (deep_done m) (pass_done m) m.gears.deep (not m.gears.pass || deep_is_behind m.gears) m.gears.pass (may_begin is_worker (pace_of m)) (not is_worker && not (entries_weight m.lists.c1 == 0)) (ap takes_deep is))

  fits_move : (c : Choice) → due is_worker m ≡ c → FitsMove (move_of c) (pace_of m) (quantum_for_move (move_of c) m)
  fits_move SwapDeep is = tt
  fits_move SwapPass is = tt
  fits_move Begin is = tt
  fits_move Rotate is = tt
  fits_move Rest is = tt
  fits_move DeepQuantum is = let deep = runs_deep is in subst (λ q. IsDeep (pace_of m) (deep_of q m)) (sym deep.1) (deep_is m deep.0 deep.1 sound some)
  fits_move PassQuantum is = let pass = runs_pass is in subst (λ q. IsSnow (pace_of m) (snow_of q m)) (sym pass.1) (snow_is m pass.0 pass.1 sound some)

  -- one quantum more for the seat
  one_more : sum (slice_set m.seats.quanta seat (slice_index m.seats.quanta seat + 1)) ≡ sum m.seats.quanta + 1
  one_more = omega (arith, sum_set m.seats.quanta seat (slice_index m.seats.quanta seat + 1) (omega (arith, t.booked.seats, there)))

  snow_pace : (pass : Merge) → m.merges.pass ≡ Some pass → pace_of (pass_quantum_of (Some pass) seat m) ≡ with_snow (pace_of m) seat (snow_of (Some pass) m)
  snow_pace pass is =
      ap (λ (n : ℕ). record (pace_of (pass_quantum_of (Some pass) seat m)) { work = n }) one_more
      ∙ ap (λ (n : ℕ). record (with_snow (pace_of m) seat (snow_of (Some pass) m)) { taken = n }) (table_taken m pass is sound)

  deep_pace : (deep : Merge) → pace_of (deep_quantum_of (Some deep) seat m) ≡ with_deep (pace_of m) seat (deep_of (Some deep) m)
  deep_pace deep = ap (λ (n : ℕ). record (with_deep (pace_of m) seat (deep_of (Some deep) m)) { work = n }) one_more

  chosen_pace : (c : Choice) → due is_worker m ≡ c → pace_of (chosen c seat m) ≡ turned_by (move_of c) (pace_of m) seat (quantum_for_move (move_of c) m)
  chosen_pace SwapDeep is = refl
  chosen_pace SwapPass is = swap_pass_pace m
  chosen_pace Begin is = begin_pace m
  chosen_pace Rotate is = refl
  chosen_pace Rest is = refl
  chosen_pace DeepQuantum is = let deep = runs_deep is in subst (λ q. pace_of (deep_quantum_of q seat m) ≡ with_deep (pace_of m) seat (deep_of q m)) (sym deep.1) (deep_pace deep.0)
  chosen_pace PassQuantum is = let pass = runs_pass is in subst (λ q. pace_of (pass_quantum_of q seat m) ≡ with_snow (pace_of m) seat (snow_of q m)) (sym pass.1) (snow_pace pass.0 pass.1)

  chosen_started : (c : Choice) → due is_worker m ≡ c → HasTaken (chosen c seat m).merges.pass (chosen c seat m).gears.pass_taken
  chosen_started SwapDeep is = t.started
  chosen_started SwapPass is = (swap_pass_told m t).started
  chosen_started Begin is = (begin_told m t).started
  chosen_started Rotate is = t.started
  chosen_started Rest is = t.started
  chosen_started DeepQuantum is = let deep = runs_deep is in subst (λ q. HasTaken (deep_quantum_of q seat m).merges.pass (deep_quantum_of q seat m).gears.pass_taken) (sym deep.1) t.started
  chosen_started PassQuantum is =
      let pass = runs_pass is in
      subst (λ q. HasTaken (pass_quantum_of q seat m).merges.pass (pass_quantum_of q seat m).gears.pass_taken) (sym pass.1)
      (has_taken_on m.gears.sizes.quantum pass.0 m.lists.a m.lists.c1 m.gears.pass_taken sound.layered.sorted_a sound.layered.sorted_c1 some (pass_counted m pass.0 pass.1 sound).2 (subst (λ q. HasTaken q m.gears.pass_taken) pass.1 t.started))

  -- what the pacing has of it
  module _ (is : is_worker_seat seat ≡ is_worker) (settled : first_debt m.gears seat + second_debt m.gears seat ≡ 0) where
    worked : (c : Choice) → due is_worker m ≡ c → IsTurnedBy (machine.Turn Worked) seat (pace_of m) (pace_of (chosen c seat m))
    worked c due_is =
        let moves : turn_of (is_worker_seat seat) (pace_of m) ≡ move_of c = ap (λ b. turn_of b (pace_of m)) is ∙ turn_is is_worker m sound ∙ ap move_of due_is in (
          quantum_for_move (move_of c) m,
          record { settled = settled; fits = subst (λ x. FitsMove x (pace_of m) (quantum_for_move (move_of c) m)) (sym moves) (fits_move c due_is) },
          chosen_pace c due_is ∙ ap (λ x. turned_by x (pace_of m) seat (quantum_for_move (move_of c) m)) (sym moves),
        )

    pub chosen_made : (c : Choice) → due is_worker m ≡ c → IsTurnedBy (machine.Turn (ended_as c)) seat (pace_of m) (pace_of (chosen c seat m))
    chosen_made Rest due_is = refl
    chosen_made SwapDeep due_is = worked SwapDeep due_is
    chosen_made SwapPass due_is = worked SwapPass due_is
    chosen_made Begin due_is = worked Begin due_is
    chosen_made Rotate due_is = worked Rotate due_is
    chosen_made DeepQuantum due_is = worked DeepQuantum due_is
    chosen_made PassQuantum due_is = worked PassQuantum due_is

  -- ---- of a caller's work

  module _ (caller : seat < callers) (places : length m.seats.work ≡ callers) (now : WorkSoFar) where
    idle : now.quanta ≡ (work_of seat m).quanta + 0 → IsBookOf m.book (record m.seats { work = slice_set m.seats.work seat now }) (pace_of m)
    idle same = idle_booked m.gears.sizes m.book m.seats.quanta m.seats.work (sum m.seats.quanta) (pace_of m).admitted (pace_of m).writes (pace_of m).weights (pace_of m).quanta seat now caller places same t.booked

    taken : now.quanta ≡ (work_of seat m).quanta + 1
        → IsBookOf m.book (record m.seats { work = slice_set m.seats.work seat now; quanta = slice_set m.seats.quanta seat (slice_index m.seats.quanta seat + 1) })
        (record (pace_of m) { work = sum (slice_set m.seats.quanta seat (slice_index m.seats.quanta seat + 1)) })
    taken same = subst (λ (n : ℕ). IsBookOf m.book (record m.seats { work = slice_set m.seats.work seat now; quanta = slice_set m.seats.quanta seat (slice_index m.seats.quanta seat + 1) }) (record (pace_of m) { work = n })) (sym one_more)
        (worked_booked m.gears.sizes m.book m.seats.quanta m.seats.work (sum m.seats.quanta) (pace_of m).admitted (pace_of m).writes (pace_of m).weights (pace_of m).quanta seat 1 now caller places same t.booked)

    work_booked : (c : Choice) → due is_worker m ≡ c → now.quanta ≡ (work_of seat m).quanta + quanta_of c
        → IsBookOf (work_noted seat now (chosen c seat m)).book (work_noted seat now (chosen c seat m)).seats (pace_of (work_noted seat now (chosen c seat m)))
    work_booked SwapDeep due_is same = idle same
    work_booked SwapPass due_is same = by (nat_le (c1_mark m.gears.sizes) (entries_weight (output_of m.merges.pass)))
      where
        by : (b : Bool) → (let n = work_noted seat now (cond b (rotate (end_pass m)) (end_pass m)) in IsBookOf n.book n.seats (pace_of n))
        by true = idle same
        by false = idle same
    work_booked Begin due_is same = idle same
    work_booked Rotate due_is same = idle same
    work_booked Rest due_is same = idle same
    work_booked DeepQuantum due_is same = subst (λ q. (let n = work_noted seat now (deep_quantum_of q seat m) in IsBookOf n.book n.seats (pace_of n))) (sym (runs_deep due_is).1) (taken same)
    work_booked PassQuantum due_is same = subst (λ q. (let n = work_noted seat now (pass_quantum_of q seat m) in IsBookOf n.book n.seats (pace_of n))) (sym (runs_pass due_is).1) (taken same)

  -- ---- of a worker

  module _ (worker : callers ≤ seat) where
    helped : IsBookOf m.book (record m.seats { quanta = slice_set m.seats.quanta seat (slice_index m.seats.quanta seat + 1) }) (record (pace_of m) { work = sum (slice_set m.seats.quanta seat (slice_index m.seats.quanta seat + 1)) })
    helped = subst (λ (n : ℕ). IsBookOf m.book (record m.seats { quanta = slice_set m.seats.quanta seat (slice_index m.seats.quanta seat + 1) }) (record (pace_of m) { work = n })) (sym one_more)
        (helped_booked m.gears.sizes m.book m.seats.quanta m.seats.work (sum m.seats.quanta) (pace_of m).admitted (pace_of m).writes (pace_of m).weights (pace_of m).quanta seat 1 worker there t.booked)

    help_booked : (c : Choice) → due is_worker m ≡ c → IsBookOf (chosen c seat m).book (chosen c seat m).seats (pace_of (chosen c seat m))
    help_booked SwapDeep due_is = t.booked
    help_booked SwapPass due_is = (swap_pass_told m t).booked
    help_booked Begin due_is = (begin_told m t).booked
    help_booked Rotate due_is = t.booked
    help_booked Rest due_is = t.booked
    help_booked DeepQuantum due_is = subst (λ q. (let n = deep_quantum_of q seat m in IsBookOf n.book n.seats (pace_of n))) (sym (runs_deep due_is).1) helped
    help_booked PassQuantum due_is = subst (λ q. (let n = pass_quantum_of q seat m in IsBookOf n.book n.seats (pace_of n))) (sym (runs_pass due_is).1) helped

-- ---- a caller's turn

pub work_turn_makes : (m : Machine) (seat : ℕ) (outcome : Outcome) → IsSound m → IsPaced (pace_of m) → IsToldOf m → seat < callers → length m.seats.work ≡ callers
    → (m.stopped ≡ None → first_debt m.gears seat + second_debt m.gears seat ≡ 0) → Makes seat kind.WorkTurn (work_turn m seat outcome).answer m (work_turn m seat outcome).state
work_turn_makes m seat outcome sound paced t caller places settled = by m.stopped refl outcome
  where
    there : seat < seats
    there = omega (arith, caller)

    -- the turn counts, and nothing else has changed that the numbers tell
    still : (now : WorkSoFar) → now.quanta ≡ (work_of seat m).quanta + 0 → IsBookOf m.book (record m.seats { work = slice_set m.seats.work seat now }) (pace_of m)
    still now same = idle false m seat sound paced t there caller places now same

    well : m.stopped ≡ None
        → (let turning = do_turn (due false m) Well seat m in Makes seat kind.WorkTurn (machine.Turn turning.ended) m (work_noted seat (with_turn (work_of seat m) turning) turning.state))
    well runs =
        let now = with_turn (work_of seat m) (do_turn (due false m) Well seat m) in
        record {
          made = chosen_made false m seat sound paced t there (no_worker seat caller) (settled runs) (due false m) refl;
          told = record {
            booked = work_booked false m seat sound paced t there caller places now (due false m) refl refl;
            started = chosen_started false m seat sound paced t there (due false m) refl;
          };
        }

    by : (o : Option Why) → m.stopped ≡ o → (e : Outcome)
        → (let turning = work_turning o m seat e in Makes seat kind.WorkTurn (machine.Turn turning.ended) m (work_noted seat (with_turn (work_of seat m) turning) turning.state))
    by (Some why) is e = record { made = refl; told = record { booked = still (with_turn (work_of seat m) (work_turning (Some why) m seat e)) refl; started = t.started } }
    by None runs (FailedAfter commits faults) = record { made = refl; told = record { booked = still (with_turn (work_of seat m) (work_turning None m seat (FailedAfter commits faults))) refl; started = t.started } }
    by None runs (Broken page) = record { made = refl; told = record { booked = still (with_turn (work_of seat m) (work_turning None m seat (Broken page))) refl; started = t.started } }
    by None runs (FailedLooking faults) = well runs
    by None runs Well = well runs
    by None runs NoRoom = well runs

-- ---- a worker's turn

-- a worker has no desk
no_desk : (m : Machine) (seat : ℕ) → IsPaced (pace_of m) → callers ≤ seat → first_debt m.gears seat + second_debt m.gears seat ≡ 0
no_desk m seat k worker = grind (arith, common_steps, nat_tests)

pub worker_turn_makes : (m : Machine) (seat : ℕ) (outcome : Outcome) → IsSound m → IsPaced (pace_of m) → IsToldOf m → callers ≤ seat → seat < seats
    → Makes seat kind.WorkerTurn (worker_turn m seat outcome).answer m (worker_turn m seat outcome).state
worker_turn_makes m seat outcome sound paced t worker there = by m.stopped (is_closed m) outcome
  where
    well : (let n = chosen (due true m) seat m in Makes seat kind.WorkerTurn (machine.Turn (ended_as (due true m))) m (record n { seats = record n.seats { turns = slice_set n.seats.turns (seat - callers) (turn_more (slice_index n.seats.turns (seat - callers))) } }))
    well = record {
      made = chosen_made true m seat sound paced t there (a_worker seat worker) (no_desk m seat paced worker) (due true m) refl;
      told = record { booked = help_booked true m seat sound paced t there worker (due true m) refl; started = chosen_started true m seat sound paced t there (due true m) refl };
    }

    by : (o : Option Why) (b : Bool) (e : Outcome)
        → (let turning = worker_turning o b m seat e in
        Makes seat kind.WorkerTurn (machine.Turn turning.ended) m (record turning.state { seats = record turning.state.seats { turns = slice_set turning.state.seats.turns (seat - callers) (turn_more (slice_index turning.state.seats.turns (seat - callers))) } }))
    by (Some why) b e = record { made = refl; told = record { booked = t.booked; started = t.started } }
    by None true e = record { made = refl; told = record { booked = t.booked; started = t.started } }
    by None false (FailedAfter commits faults) = record { made = refl; told = record { booked = t.booked; started = t.started } }
    by None false (Broken page) = record { made = refl; told = record { booked = t.booked; started = t.started } }
    by None false (FailedLooking faults) = well
    by None false Well = well
    by None false NoRoom = well
