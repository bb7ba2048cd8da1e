-- On an honest disk a turn is the machine's own step.
use Rattle.std.proofs.Common.{◌≡◌, ◌∙◌, inl, ⊎_elim, ℕ, Bool, true, false, cond, not, ◌&&◌, List, Some, None, Option, Ok, Err, refl, ap, sym, subst, arith}
use Rattle.std.proofs.lemmas.Grind.{common_steps}
use Rattle.std.proofs.lemmas.Bool.Decides.{nat_tests}
use Rattle.std.specs.Prelude.{⊤, IfOk, OnOk, IsErr, IsTrue, is_some}
use Rattle.std.specs.declared.result.Result.{Result}
use Rattle.blsm_model.specs.declared.key.Key.{Key}
use Rattle.blsm_model.specs.declared.row.Value.{Value}
use Rattle.blsm_model.specs.declared.history.Why.{Why}
use Rattle.blsm_model.specs.declared.history.Why.TheVariants.{Faulted}
use Rattle.blsm_model.specs.Book.{Book}
use Rattle.blsm_model.specs.Sizes.{Sizes}
use Rattle.disk_trait.specs.Disk.{DiskState}
use Rattle.disk_trait.specs.Moments.{IsTimed}
use Rattle.gear_sched.specs.Gears.{GearState}
use Rattle.page_file.specs.declared.file.Broken.{Broken}
use Rattle.page_file.specs.declared.file.Broken.TheVariants.{Fault, Damaged}
use Rattle.pacing.specs.Pace.{Pace}
use Rattle.pacing.specs.Fronts.{Fronts}
use Rattle.pacing.specs.Steps as pacing
use Rattle.pacing.specs.Steps.{Move}
use Rattle.tree_machine.specs.declared.step.Kind.TheVariants as kind
use Rattle.tree_machine.specs.Machine as machine
use Rattle.tree_machine.specs.Machine.{Machine, Turned, Seats, charge, deep_done, is_closed}
use Rattle.tree_machine.specs.Moves.{stop, swap_deep}
use Rattle.tree_machine.specs.Steps as steps
use Rattle.tree_machine.specs.Steps.{Stepped, Outcome, Well, FailedAfter, Turn, ended_as, deep_swapped, work_turning, worker_turning}
use Rattle.tree_machine.specs.Plays.{may, stepped_as}
use Rattle.tree_machine.specs.Outcomes.{Rose, IsPossible, calls_disk}
use Rattle.paced_tree.specs.Kept.{IsPacedTree}
use Rattle.paced_tree.specs.Booking.{quanta_of_move}
use Rattle.paced_tree.proofs.Promises.{has_way, step_is_paced}
use Rattle.seat_book.specs.State.{BookState, book_of, is_closed_in, stopped_in, helped_in}
use Rattle.tree_file.specs.Tree.{Tree, HoldsTree}
use Rattle.tree_file.specs.Places.{HoldsEither}
use Rattle.tree_runs.specs.Holding.{AreOf, StandOver}
use Rattle.core_moves.specs.declared.held.Held.{Held}
use Rattle.core_moves.specs.Held.{IsDeepDone}
use Rattle.core_moves.specs.Needs.{IsOn}
use Rattle.core_moves.specs.Moves.{KeepsAllButMerges, with_book}
use Rattle.core_pace.specs.Pacing.{IsPacedHeld}
use Rattle.core_pace.specs.Turns.{MayMove, TurnsBy, move_in, end_of_move}
use Rattle.core_lists.specs.Shown.{ShowsWhole}
use Rattle.core_lists.specs.Steps.{TurnsTree, choice_of}
use Rattle.core_lists.specs.Going.{GoesOn}
use Rattle.core_lists.proofs.FileWeights.{weighs_as}
use Rattle.core_lists.proofs.TestLemmas.{tests_agree_with_lists}
use Rattle.core_lists.proofs.StepLands.{choices_agree, help_lands, work_lands}
use Rattle.core_lists.proofs.ImageLemmas.{deep_swap_images, pass_swap_images, rotation_images}
use Rattle.core_lists.proofs.GoingLemmas.{turn_goes_on}
use Rattle.tree_core.specs.Core.{HoldsPace}
use Rattle.tree_core.specs.Quanta.{MakesTree, LeavesMoved, ended_by, quanta_by, stopped_by}
use Rattle.tree_core.specs.Standing.{AnyRows, StandsFor}
use Rattle.tree_core.specs.Steps.{IsStep}
use Rattle.tree_core.proofs.QuantumLemmas.{charge_kept, kept_once}
use Rattle.tree_core.proofs.QuantumSteps.{RunsAt, stands_running, standing_at, steady_at, shows_at, leaves_same, step_by}
use Rattle.tree_core.specs.Turning.{counted_by}
use Rattle.tree_core.proofs.VersionLemmas.{either_commits, moved_version, version_of}
use Rattle.tree_core.proofs.TurnLemmas.{Turns, Ends, KeepsOpen, counted_book, counted_stops, moved_open, ended_moves}
use Rattle.disk_trait.proofs.ReadLemmas.{only_reads_start}
use Rattle.tree_core.proofs.QuietLemmas.{quiet_step}
use Rattle.tree_machine.specs.Stands.{WritesFit}
use Rattle.core_lists.proofs.Terms.{IsAt, turn_noted, helped, IsSteady, chosen_by, IsOpenTo, kind_of_turn}

-- ---- a store that is stopped

-- the seats of the machine once the turn counts, which took no quantum
counted_seats : Bool → ℕ → Turned → Machine → Seats
counted_seats true seat ended m = (helped seat m).seats
counted_seats false seat ended m = (turn_noted seat ended 0 m).seats

counted_is : (w : Bool) (seat : ℕ) (ended : Turned) (m : Machine) (b : BookState) → book_of m ≡ b → record { book = m.book; seats = counted_seats w seat ended m; counts = m.counts; stopped = m.stopped } ≡ counted_by w seat ended 0 b
unfolding counted_seats
counted_is true seat ended m b is = ap (λ (x : BookState). counted_by true seat ended 0 x) is
counted_is false seat ended m b is = ap (λ (x : BookState). counted_by false seat ended 0 x) is

-- so a file shows as much of it
counted_quanta : (w : Bool) (seat : ℕ) (ended : Turned) (m : Machine) → (counted_seats w seat ended m).quanta ≡ m.seats.quanta
unfolding counted_seats
counted_quanta true seat ended m = refl
counted_quanta false seat ended m = refl

counted_shows : (w : Bool) (opening : List (Key × Value)) (seat : ℕ) (ended : Turned) (m : Machine) (file : List ℕ) → ShowsWhole opening m file → ShowsWhole opening (record m { seats = counted_seats w seat ended m }) file
counted_shows w opening seat ended m file shows = (
  shows.0,
  weighs_as m (record m { seats = counted_seats w seat ended m }) m.book.entries m.book.entries file refl (record { charge = refl; peak = refl; quanta = counted_quanta w seat ended m }) (omega arith) shows.1,
)

halted_as : (w : Bool) (seat : ℕ) (why : Why) (m : Machine) → m.stopped ≡ Some why
    → stepped_as m seat (kind_of_turn w) Well ≡ record { state = record m { seats = counted_seats w seat (machine.Halted why) m }; answer = Turn (machine.Halted why) }
unfolding counted_seats
halted_as true seat why m is = ap (λ (o : Option Why). record { state = helped seat (worker_turning o (is_closed m) m seat Well).state; answer = Turn (worker_turning o (is_closed m) m seat Well).ended }) is
halted_as false seat why m is =
    ap (λ (o : Option Why). record { state = steps.work_noted seat (steps.with_turn (machine.work_of seat m) (work_turning o m seat Well)) (work_turning o m seat Well).state; answer = Turn (work_turning o m seat Well).ended }) is

turn_fits : (w : Bool) → WritesFit (kind_of_turn w)
turn_fits true = tt
turn_fits false = tt

then_paced : (w : Bool) (opening : List (Key × Value)) (m : Machine) (seat : ℕ) (outcome : Outcome) → IsTrue (may m seat (kind_of_turn w)) → IsPacedTree opening m
    → IsPacedTree opening (stepped_as m seat (kind_of_turn w) outcome).state
then_paced w opening m seat outcome ok paced = step_is_paced opening m (record { seat = seat; kind = kind_of_turn w }) outcome paced ok (turn_fits w)

possible_well : (w : Bool) (m : Machine) (seat old new : ℕ) → IsPossible m seat (kind_of_turn w) Well old new
possible_well w m seat old new = tt

pub halted_turn : (w : Bool) (opening : List (Key × Value)) (seat : ℕ) (why : Why) (old : Held) (b : BookState) (m : Machine) (d : DiskState) → IsTimed d → IsTrue d.is_honest → old.book.stopped ≡ Some why
    → b ≡ counted_by w seat (machine.Halted why) 0 old.book → StandsFor AnyRows opening old m d → IsTrue (may m seat (kind_of_turn w)) → IsStep AnyRows opening seat (kind_of_turn w) (Turn (machine.Halted why)) (with_book b old) d d m
halted_turn w opening seat why old b m d timed honest is counts stands ok =
    let stop_is : m.stopped ≡ Some why = ap (λ (x : BookState). x.stopped) stands.book ∙ is in
    let then = record m { seats = counted_seats w seat (machine.Halted why) m } in
    let book_is : book_of then ≡ b = counted_is w seat (machine.Halted why) m old.book stands.book ∙ sym counts in
    quiet_step {end = 0} {most = 0} opening seat (kind_of_turn w) Well (Turn (machine.Halted why)) old old.runs.space b m then (only_reads_start d timed) honest stands ok (turn_fits w) (possible_well w m seat d.faults d.faults) refl
    (halted_as w seat why m stop_is)
    (record { same = record { lists = refl; merges = refl; gears = refl; spring = refl; catalogue = refl }; counts = record { charge = refl; peak = refl; quanta = counted_quanta w seat (machine.Halted why) m }; book = book_is; stopped = sym (ap (λ (x : BookState). x.stopped) book_is) ∙ ap (λ (x : BookState). x.stopped) stands.book; noted = inl refl })
    (λ tree file of. of) (λ none. tt)

-- ---- what the images show of a move

-- a pass is swapped in where no deep merge is done
pub not_deep_done : (w : Bool) (old : Held) → pacing.SwapPass ≡ move_in w old → IsDeepDone old → ⊥
not_deep_done w old is done = grind (arith, common_steps, nat_tests)

stays_shown : (opening : List (Key × Value)) (old : Held) (m : Machine) (d : DiskState) (tree next : Tree) (file : List ℕ) → RunsAt opening old m d tree → next ≡ tree → HoldsEither old.runs.sizes tree next file → ShowsWhole opening m file
stays_shown opening old m d tree next file r same either =
    ⊎_elim (λ (here : HoldsTree old.runs.sizes tree file). shows_at opening old m d tree file r here)
    (λ (here : HoldsTree old.runs.sizes next file). shows_at opening old m d tree file r (subst (λ (t : Tree). HoldsTree old.runs.sizes t file) same here)) either

move_shown : (mv : Move) (w : Bool) (opening : List (Key × Value)) (old : Held) (m : Machine) (d : DiskState) (tree next : Tree) (file : List ℕ) → (r : RunsAt opening old m d tree) → mv ≡ move_in w old → MayMove mv old
    → MakesTree mv old tree next → m.gears.sizes ≡ old.runs.sizes → HoldsEither old.runs.sizes tree next file → ShowsWhole opening m file
move_shown pacing.SwapDeep w opening old m d tree next file r is may_move makes sizes either =
    deep_swap_images opening old m r.fronts tree next d.bytes file (standing_at opening old m d tree r) may_move makes (subst (λ (s : Sizes). HoldsEither s tree next file) (sym sizes) either)
move_shown pacing.SwapPass w opening old m d tree next file r is may_move makes sizes either =
    pass_swap_images opening old old m r.fronts tree tree next d.bytes d.bytes file (record {
      stood = standing_at opening old m d tree r;
      moves = record { done = λ done. absurd (not_deep_done w old is done); rests = λ rests. refl };
      at = subst (λ (s : Machine). IsAt old tree s d.bytes) (sym rests) (record { are_of = r.over.are_of; holds = r.holds });
      numbers = r.numbers;
      has = r.has;
      one = r.one;
    }) may_move.0 makes (subst (λ (s : Sizes). HoldsEither s tree next file) (sym sizes) either)
  where
    by : (b : Bool) → deep_done m ≡ b → cond b (swap_deep m) m ≡ m
    by true done = absurd (not_deep_done w old is ((tests_agree_with_lists old tree m d.bytes r.numbers (record { are_of = r.over.are_of; holds = r.holds }) r.goes.paced.stands.sound r.has).deep_is_done.1 done))
    by false undone = refl

    rests : deep_swapped m ≡ m
    rests = by (deep_done m) refl
move_shown pacing.Rotate w opening old m d tree next file r is may_move makes sizes either =
    rotation_images opening old m r.fronts tree next d.bytes file (standing_at opening old m d tree r) may_move.0 may_move.1 makes (subst (λ (s : Sizes). HoldsEither s tree next file) (sym sizes) either)
move_shown pacing.TakeDeep w opening old m d tree next file r is may_move makes sizes either = stays_shown opening old m d tree next file r makes either
move_shown pacing.TakeSnow w opening old m d tree next file r is may_move makes sizes either = stays_shown opening old m d tree next file r makes either
move_shown pacing.Begin w opening old m d tree next file r is may_move makes sizes either = stays_shown opening old m d tree next file r makes either
move_shown pacing.Idle w opening old m d tree next file r is may_move makes sizes either = stays_shown opening old m d tree next file r makes either

-- ---- a turn that went well

well_at : (w : Bool) (opening : List (Key × Value)) (seat n : ℕ) (old moved : Held) (tree next : Tree) (m : Machine) (file after : List ℕ) → IsSteady old tree m file → IsPacedTree opening m → IsOpenTo w m
    → TurnsBy (move_in w old) seat n old moved → TurnsTree (move_in w old) n old moved tree next → AreOf moved.runs next after
    → IsAt (with_book (counted_by w seat (end_of_move (move_in w old)) (quanta_of_move (move_in w old)) moved.book) moved) next (stepped_as m seat (kind_of_turn w) Well).state after
well_at true opening seat n old moved tree next m file after steady paced opened moves trees are_of =
    help_lands seat n old moved (with_book (counted_by true seat (end_of_move (move_in true old)) (quanta_of_move (move_in true old)) moved.book) moved) tree next m file after steady opened (record { moves = moves; counted = refl }) trees are_of
well_at false opening seat n old moved tree next m file after steady paced opened moves trees are_of =
    work_lands seat n old moved (with_book (counted_by false seat (end_of_move (move_in false old)) (quanta_of_move (move_in false old)) moved.book) moved) tree next m file after steady (has_way opening m paced)
    (record { moves = moves; counted = refl }) trees are_of

well_answer : (w : Bool) (m : Machine) (seat : ℕ) → m.stopped ≡ None → IsOpenTo w m → (stepped_as m seat (kind_of_turn w) Well).answer ≡ Turn (ended_as (chosen_by w m))
well_answer w m seat h1 h2 = grind (arith, common_steps, nat_tests)

same_end : (mv : Move) → end_of_move mv ≡ ended_as (choice_of mv)
same_end mv = grind (arith, common_steps, nat_tests)

-- What a turn finds on an honest disk, and what its move left there.
pub record TurnsOver (w : Bool) (opening : List (Key × Value)) (seat : ℕ) (mv : Move) (made : Result ℕ Broken) (old moved : Held) (m : Machine) (tree : Tree) (before after : DiskState) : Type 0 where
  pub runs : RunsAt opening old m before tree
  pub opened : IsOpenTo w m
  pub ok : IsTrue (may m seat (kind_of_turn w))
  pub may_move : MayMove mv old
  pub next : Tree
  pub leaves : LeavesMoved mv made old moved tree next before after

machine_runs : (opening : List (Key × Value)) (old : Held) (m : Machine) (d : DiskState) (tree : Tree) → RunsAt opening old m d tree → m.stopped ≡ None
machine_runs opening old m d tree r = ap (λ (b : BookState). b.stopped) r.holds.book ∙ r.ran

same_sizes : (opening : List (Key × Value)) (old : Held) (m : Machine) (d : DiskState) (tree : Tree) → RunsAt opening old m d tree → m.gears.sizes ≡ old.runs.sizes
same_sizes opening old m d tree r = ap (λ (g : GearState). g.sizes) r.holds.gears ∙ r.one.gears

well_turn : (w : Bool) (opening : List (Key × Value)) (seat n : ℕ) (old moved : Held) (m : Machine) (numbers : Pace) (tree : Tree) (before after : DiskState) (made : Result ℕ Broken) → made ≡ Ok n → Turns w seat (move_in w old) old
    → TurnsBy (move_in w old) seat n old moved → IsPacedHeld (with_book (counted_by w seat (end_of_move (move_in w old)) (quanta_of_move (move_in w old)) moved.book) moved) numbers
    → TurnsOver w opening seat (move_in w old) made old moved m tree before after
    → IsStep AnyRows opening seat (kind_of_turn w) (Turn (end_of_move (move_in w old))) (with_book (counted_by w seat (end_of_move (move_in w old)) (quanta_of_move (move_in w old)) moved.book) moved) before after m
well_turn w opening seat n old moved m numbers tree before after made made_is t moves k o =
    step_by opening seat (kind_of_turn w) (Turn (end_of_move mv)) new before after m Well (stepped_as m seat (kind_of_turn w) Well) refl
    (possible_well w m seat before.faults after.faults) refl
    (stands_running opening new (stepped_as m seat (kind_of_turn w) Well).state after o.next
    (record { fronts = goes.0; over = left.2; holds = at.holds; goes = goes.1; numbers = numbers; has = k.numbers; one = k.one; ran = counted_stops w seat (end_of_move mv) (quanta_of_move mv) moved.book ∙ kept.stopped ∙ t.ran }))
    (sym (well_answer w m seat (machine_runs opening old m before tree o.runs) o.opened ∙ ap (λ c. Turn (ended_as c)) (choices_agree w old tree m before.bytes steady) ∙ ap (λ e. Turn e) (sym (same_end mv))))
    (leaves_same opening m before after (stepped_as m seat (kind_of_turn w) Well).state.book.entries (HoldsEither old.runs.sizes tree o.next)
    (ap (λ (x : BookState). x.book.entries) at.holds.book ∙ ap (λ (x : Book). x.entries) (counted_book w seat (end_of_move mv) (quanta_of_move mv) moved.book ∙ kept.entries) ∙ sym (ap (λ (x : BookState). x.book.entries) o.runs.holds.book))
    (λ c here. move_shown mv w opening old m before tree o.next c o.runs refl o.may_move o.leaves.makes (same_sizes opening old m before tree o.runs) here) o.leaves.each)
  where
    mv : Move
    mv = move_in w old

    new : Held
    new = with_book (counted_by w seat (end_of_move (move_in w old)) (quanta_of_move (move_in w old)) moved.book) moved

    kept : KeepsOpen old.book moved.book
    kept = moved_open (move_in w old) seat n old moved moves

    steady : IsSteady old tree m before.bytes
    steady = steady_at opening old m before tree o.runs

    left_any : (x : ℕ) × (made ≡ Ok x) × StandOver moved.runs o.next after × TurnsTree (move_in w old) x old moved tree o.next
    left_any = o.leaves.moved (λ same. cc (same, made_is))

    same_n : left_any.0 ≡ n
    same_n = let e = left_any.1 in cc (e, made_is)

    left : (x : ℕ) × (made ≡ Ok x) × StandOver moved.runs o.next after × TurnsTree (move_in w old) n old moved tree o.next
    left = (left_any.0, left_any.1, left_any.2, subst (λ (x : ℕ). TurnsTree (move_in w old) x old moved tree o.next) same_n left_any.3)

    at : IsAt (with_book (counted_by w seat (end_of_move (move_in w old)) (quanta_of_move (move_in w old)) moved.book) moved) o.next (stepped_as m seat (kind_of_turn w) Well).state after.bytes
    at = well_at w opening seat n old moved tree o.next m before.bytes after.bytes steady o.runs.goes.paced o.opened moves left.3 left.2.are_of

    goes : (then : Fronts) × GoesOn opening (stepped_as m seat (kind_of_turn w) Well).state then o.next
    goes = turn_goes_on w opening m o.runs.fronts seat n old moved tree o.next before.bytes o.ok o.opened steady left.3 o.runs.goes

-- ---- a turn whose move failed

failed_as : (w : Bool) (seat f : ℕ) (m : Machine) → m.stopped ≡ None → IsOpenTo w m
    → stepped_as m seat (kind_of_turn w) (FailedAfter 0 f) ≡ record { state = record (stop (Faulted f) m) { seats = counted_seats w seat machine.Failed (stop (Faulted f) m) }; answer = Turn machine.Failed }
unfolding counted_seats
failed_as true seat f m runs opened =
    ap (λ (o : Option Why). record { state = helped seat (worker_turning o (is_closed m) m seat (FailedAfter 0 f)).state; answer = Turn (worker_turning o (is_closed m) m seat (FailedAfter 0 f)).ended }) runs
    ∙ ap (λ (b : Bool). record { state = helped seat (worker_turning None b m seat (FailedAfter 0 f)).state; answer = Turn (worker_turning None b m seat (FailedAfter 0 f)).ended }) opened
failed_as false seat f m runs opened =
    ap (λ (o : Option Why). record { state = steps.work_noted seat (steps.with_turn (machine.work_of seat m) (work_turning o m seat (FailedAfter 0 f))) (work_turning o m seat (FailedAfter 0 f)).state; answer = Turn (work_turning o m seat (FailedAfter 0 f)).ended }) runs

failed_possible : (w : Bool) (seat f old new : ℕ) (m : Machine) → m.stopped ≡ None → IsOpenTo w m → calls_disk (chosen_by w m) ≡ true → Rose old new → f ≡ new → IsPossible m seat (kind_of_turn w) (FailedAfter 0 f) old new
failed_possible true seat f old new m runs opened called rose counted = (
  ap (λ (o : Option Why). not (is_some o) && (not (is_closed m) && calls_disk (chosen_by true m))) runs ∙ ap (λ (b : Bool). not b && calls_disk (chosen_by true m)) opened ∙ called,
  omega arith,
  rose,
  counted,
)
failed_possible false seat f old new m runs opened called rose counted = (ap (λ (o : Option Why). not (is_some o) && calls_disk (chosen_by false m)) runs ∙ called, omega arith, rose, counted)

failed_turn : (w : Bool) (opening : List (Key × Value)) (seat f : ℕ) (old moved : Held) (m : Machine) (tree : Tree) (before after : DiskState) (made : Result ℕ Broken) → KeepsAllButMerges ⊤ old moved → f ≡ after.faults
    → Rose before.faults after.faults → calls_disk (choice_of (move_in w old)) ≡ true → TurnsOver w opening seat (move_in w old) made old moved m tree before after
    → IsStep AnyRows opening seat (kind_of_turn w) (Turn machine.Failed) (with_book (counted_by w seat machine.Failed 0 (stopped_in (Faulted f) moved.book)) moved) before after m
failed_turn w opening seat f old moved m tree before after made kept counted rose called o =
    step_by opening seat (kind_of_turn w) (Turn machine.Failed) (with_book b moved) before after m (FailedAfter 0 f) stepped same possible refl stands refl
    (leaves_same opening m before after m.book.entries (HoldsEither old.runs.sizes tree o.next) refl shows o.leaves.each)
  where
    b : BookState
    b = counted_by w seat machine.Failed 0 (stopped_in (Faulted f) moved.book)

    runs : m.stopped ≡ None
    runs = machine_runs opening old m before tree o.runs

    stepped : Stepped
    stepped = record { state = record (stop (Faulted f) m) { seats = counted_seats w seat machine.Failed (stop (Faulted f) m) }; answer = Turn machine.Failed }

    same : stepped_as m seat (kind_of_turn w) (FailedAfter 0 f) ≡ record { state = record (stop (Faulted f) m) { seats = counted_seats w seat machine.Failed (stop (Faulted f) m) }; answer = Turn machine.Failed }
    same = failed_as w seat f m runs o.opened

    possible : IsPossible m seat (kind_of_turn w) (FailedAfter 0 f) before.faults after.faults
    possible = failed_possible w seat f before.faults after.faults m runs o.opened (ap calls_disk (choices_agree w old tree m before.bytes (steady_at opening old m before tree o.runs)) ∙ called) rose counted

    shows : (c : List ℕ) → HoldsEither old.runs.sizes tree o.next c → ShowsWhole opening m c
    shows c here = move_shown (move_in w old) w opening old m before tree o.next c o.runs refl o.may_move o.leaves.makes (same_sizes opening old m before tree o.runs) here

    stop_shows : (file : List ℕ) → ShowsWhole opening m file → ShowsWhole opening stepped.state file
    stop_shows file shown = counted_shows w opening seat machine.Failed (stop (Faulted f) m) file shown

    book_is : book_of stepped.state ≡ counted_by w seat machine.Failed 0 (stopped_in (Faulted f) moved.book)
    book_is =
        counted_is w seat machine.Failed (stop (Faulted f) m) (stopped_in (Faulted f) old.book) (ap (λ (x : BookState). stopped_in (Faulted f) x) o.runs.holds.book)
        ∙ ap (λ (x : BookState). counted_by w seat machine.Failed 0 (stopped_in (Faulted f) x)) (sym (kept.book tt))

    stands : StandsFor AnyRows opening (with_book (counted_by w seat machine.Failed 0 (stopped_in (Faulted f) moved.book)) moved) stepped.state after
    stands = record {
      paced = subst (λ (s : Stepped). IsPacedTree opening s.state) same (then_paced w opening m seat (FailedAfter 0 f) o.ok o.runs.goes.paced);
      sizes = same_sizes opening old m before tree o.runs ∙ sym (kept.sizes tt);
      gears = o.runs.holds.gears ∙ sym (kept.gears tt);
      book = book_is;
      charge_is = (tests_agree_with_lists old tree m before.bytes o.runs.numbers (record { are_of = o.runs.over.are_of; holds = o.runs.holds }) o.runs.goes.paced.stands.sound o.runs.has).charge_is ∙ sym (charge_kept old moved kept);
      runs = λ none. absurd (let e = ap (λ (x : BookState). x.stopped) book_is in cc (e, none));
      rows = λ none. tt;
      stopped = λ some. record {
        reads = stop_shows after.bytes (shows after.bytes o.leaves.either.reads);
        each = λ c here. stop_shows c (shows c (o.leaves.either.each c here));
        commits = either_commits m.gears.sizes old.runs.sizes m.catalogue.version tree o.next after (same_sizes opening old m before tree o.runs)
            (version_of old tree m before.bytes o.runs.over.are_of o.runs.holds)
            (moved_version (move_in w old) old tree o.next o.leaves.makes) o.leaves.either;
      };
    }

-- ---- any turn

turn_by : (w : Bool) (opening : List (Key × Value)) (seat : ℕ) (made : Result ℕ Broken) (faults : ℕ) (old moved : Held) (m : Machine) (numbers : Pace) (tree : Tree) (before after : DiskState)
    → Turns w seat (move_in w old) old → IfOk made (λ n. TurnsBy (move_in w old) seat n old moved) → OnOk made (IsOn moved after) → KeepsAllButMerges (IsErr made) old moved → HoldsPace old numbers before → faults ≡ after.faults
    → (made ≡ Err Fault → Rose before.faults after.faults) → (IsErr made → calls_disk (choice_of (move_in w old)) ≡ true) → TurnsOver w opening seat (move_in w old) made old moved m tree before after
    → IsStep AnyRows opening seat (kind_of_turn w) (Turn (ended_by made (move_in w old))) (with_book (counted_by w seat (ended_by made (move_in w old)) (quanta_by made (move_in w old)) (stopped_by made faults moved.book)) moved) before after m
turn_by w opening seat (Ok n) faults old moved m numbers tree before after t moves on kept holds counted rose called o =
    let next = ended_moves w seat (Ok n) faults old moved numbers before after t moves on kept holds in
    let runs = counted_stops w seat (end_of_move (move_in w old)) (quanta_of_move (move_in w old)) moved.book ∙ (moved_open (move_in w old) seat n old moved moves).stopped ∙ t.ran in
    well_turn w opening seat n old moved m next.next tree before after (Ok n) refl t moves (next.holds.live runs).paced o
turn_by w opening seat (Err Fault) faults old moved m numbers tree before after t moves on kept holds counted rose called o =
    failed_turn w opening seat faults old moved m tree before after (Err Fault) (kept_once old moved refl kept) counted (rose refl) (called refl) o
turn_by w opening seat (Err (Damaged page)) faults old moved m numbers tree before after t moves on kept holds counted rose called o =
    let left = o.leaves.moved (λ same. cc same) in
    let e = left.1 in
    absurd (cc e)

pub turn_step : (w : Bool) (opening : List (Key × Value)) (seat : ℕ) (mv : Move) (made : Result ℕ Broken) (faults : ℕ) (old moved : Held) (ended : Turned) (b : BookState) (m : Machine) (numbers : Pace) (tree : Tree)
    (before after : DiskState) → Ends w seat mv made faults old moved ended b before after → HoldsPace old numbers before → faults ≡ after.faults → (made ≡ Err Fault → Rose before.faults after.faults)
    → (IsErr made → calls_disk (choice_of mv) ≡ true) → TurnsOver w opening seat mv made old moved m tree before after → IsStep AnyRows opening seat (kind_of_turn w) (Turn ended) (with_book b moved) before after m
turn_step w opening seat mv made faults old moved ended b m numbers tree before after e holds counted rose called o =
    subst (λ (x : BookState). IsStep AnyRows opening seat (kind_of_turn w) (Turn ended) (with_book x moved) before after m) (sym e.counts)
    (subst (λ (t : Turned). IsStep AnyRows opening seat (kind_of_turn w) (Turn t) (with_book (counted_by w seat t (quanta_by made mv) (stopped_by made faults moved.book)) moved) before after m) (sym e.ended_is)
    (subst (λ (y : Move). IsStep AnyRows opening seat (kind_of_turn w) (Turn (ended_by made y)) (with_book (counted_by w seat (ended_by made y) (quanta_by made y) (stopped_by made faults moved.book)) moved) before after m) (sym e.turns.is)
    (turn_by w opening seat made faults old moved m numbers tree before after (subst (λ (y : Move). Turns w seat y old) e.turns.is e.turns)
    (subst (λ (y : Move). IfOk made (λ n. TurnsBy y seat n old moved)) e.turns.is e.moves) e.on e.kept holds counted rose
    (subst (λ (y : Move). IsErr made → calls_disk (choice_of y) ≡ true) e.turns.is called)
    (subst (λ (y : Move). TurnsOver w opening seat y made old moved m tree before after) e.turns.is o))))

-- ---- a worker's turn where the store is closed

closed_as : (seat : ℕ) (m : Machine) → m.stopped ≡ None → is_closed m ≡ true → stepped_as m seat kind.WorkerTurn Well ≡ record { state = helped seat m; answer = Turn machine.Closed }
closed_as seat m runs closed = grind (arith, common_steps, nat_tests)

pub closed_turn : (opening : List (Key × Value)) (seat : ℕ) (old : Held) (b : BookState) (m : Machine) (d : DiskState) → IsTimed d → IsTrue d.is_honest → old.book.stopped ≡ None → is_closed_in old.book ≡ true
    → b ≡ counted_by true seat machine.Closed 0 old.book → StandsFor AnyRows opening old m d → IsTrue (may m seat kind.WorkerTurn) → IsStep AnyRows opening seat kind.WorkerTurn (Turn machine.Closed) (with_book b old) d d m
closed_turn opening seat old b m d timed honest ran closed counts stands ok =
    let runs : m.stopped ≡ None = ap (λ (x : BookState). x.stopped) stands.book ∙ ran in
    let closed_is : is_closed m ≡ true = ap is_closed_in stands.book ∙ closed in
    quiet_step {end = 0} {most = 0} opening seat kind.WorkerTurn Well (Turn machine.Closed) old old.runs.space b m (helped seat m) (only_reads_start d timed) honest stands ok tt tt refl (closed_as seat m runs closed_is)
    (record { same = record { lists = refl; merges = refl; gears = refl; spring = refl; catalogue = refl }; counts = record { charge = refl; peak = refl; quanta = refl }; book = ap (helped_in seat) stands.book ∙ sym counts; stopped = ap (λ (x : BookState). x.stopped) counts; noted = inl refl })
    (λ tree file of. of) (λ none. tt)
