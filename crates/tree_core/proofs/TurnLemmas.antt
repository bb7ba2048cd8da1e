-- A turn of a caller's work or of a worker: what its move requires, and the numbers that it leaves.
use Rattle.std.proofs.Common.{◌≡◌, ◌∙◌, ℕ, ◌≤◌, ◌<◌, Bool, true, false, Some, None, Ok, Err, refl, ap, sym, subst, arith}
use Rattle.std.proofs.lemmas.Grind.{common_steps}
use Rattle.std.proofs.lemmas.Bool.Decides.{nat_tests}
use Rattle.std.specs.Prelude.{⊤, IfOk, OnOk, IsErr, IsTrue, length, nat_lt, replicate, slice_index, if◌then◌else◌}
use Rattle.std.specs.declared.result.Result.{Result}
use Rattle.std.proofs.lemmas.Bool.{ltb-true}
use Rattle.tree_machine.proofs.FoldLemmas.{both_hold}
use Rattle.blsm_model.specs.Format.{callers, most_turns}
use Rattle.blsm_model.specs.Facts.{Follows}
use Rattle.blsm_model.specs.declared.history.Why.{Why}
use Rattle.blsm_model.specs.declared.history.Why.TheVariants.{Faulted}
use Rattle.blsm_model.specs.declared.history.Why.TheVariants as why
use Rattle.disk_trait.specs.Disk.{DiskState, TellsFaultsBy}
use Rattle.gear_sched.specs.Gears.{GearState, first_debt, second_debt, deep_ended, pass_ended, passing, rotated}
use Rattle.page_file.specs.declared.file.Broken.{Broken}
use Rattle.page_file.specs.declared.file.Broken.TheVariants.{Fault, Damaged}
use Rattle.pacing.specs.Pace.{Pace}
use Rattle.pacing.specs.Steps as pacing
use Rattle.pacing.specs.Steps.{Move}
use Rattle.paced_tree.specs.Booking.{quanta_of_move}
use Rattle.paced_tree.specs.Made.{IsMadeBy}
use Rattle.tree_machine.specs.Machine as machine
use Rattle.tree_machine.specs.Machine.{Turned, is_caller, seats}
use Rattle.tree_machine.proofs.PlayLemmas.{of_replicate}
use Rattle.tree_machine.specs.Steps.{Turn}
use Rattle.seat_book.specs.State.{BookState, helped_in, may_turn_in, stopped_in, turned_in, work_in}
use Rattle.seat_book.specs.Places.{HasPlaces}
use Rattle.seat_book.specs.Seats.{KeepsSeats}
use Rattle.seat_book.proofs.KeepLemmas.{keeps_both}
use Rattle.core_moves.specs.declared.held.Held.{Held}
use Rattle.core_moves.specs.Held.{is_run_full}
use Rattle.core_moves.specs.Needs.{IsOn, IsReady}
use Rattle.core_moves.specs.Moves.{KeepsAllButMerges, with_book}
use Rattle.core_pace.specs.Pacing.{IsRunBook, IsPacedHeld}
use Rattle.core_pace.specs.Turns.{MayMove, TurnsBy, move_in, end_of_move}
use Rattle.core_pace.proofs.CallLemmas.{between_is_ready, paced_is_between}
use Rattle.core_pace.proofs.MadeLemmas.{failed_work_is_told, failed_help_is_told}
use Rattle.core_pace.proofs.TurnLemmas.{turn_may_move, work_is_paced, help_is_paced, turn_is_told, help_is_told}
use Rattle.tree_core.specs.Causes.{IsDamageAhead, TurnsBecause, merge_of}
use Rattle.tree_core.specs.Core.{HoldsPace, facts_of_held}
use Rattle.tree_core.specs.Quanta.{ended_by, quanta_by, stopped_by}
use Rattle.tree_core.specs.Steps.{MovesPace}
use Rattle.tree_core.specs.Turning.{IsEven, MayCount, counted_by}
use Rattle.tree_core.proofs.QuietLemmas.{read_holds}
use Rattle.tree_core.proofs.QuantumLemmas.{holds_running, holds_stopped, on_rebooked, told_after_failure, kept_once, LeavesDebts, debts_stay, debts_first, debts_second, follows_by}
use Rattle.tree_core.specs.Notes.{CountsCommits, rotations}
use Rattle.tree_core.proofs.KeepLemmas.{commits_beside, move_keeps_pins, rotated_by}
use Rattle.core_lists.proofs.Terms.{kind_of_turn}

-- ---- whose turn it is

-- a worker's, or a caller's whose work has its place
abbrev pub IsSeat : Bool → ℕ → BookState → Type 0
IsSeat true seat b = (callers ≤ seat) × (seat < seats)
IsSeat false seat b = (seat < callers) × (length b.seats.work ≡ callers)

-- A turn in a store that runs, and its move.
pub record Turns (w : Bool) (seat : ℕ) (mv : Move) (old : Held) : Type 0 where
  pub ran : old.book.stopped ≡ None
  pub is_seat : IsSeat w seat old.book
  pub even : IsEven w seat old
  pub is : mv ≡ move_in w old

-- what it requires
pub turn_may : (w : Bool) (seat : ℕ) (mv : Move) (old : Held) (pace : Pace) (d : DiskState) → Turns w seat mv old → HoldsPace old pace d → MayMove mv old
turn_may w seat mv old pace d t holds = subst (λ (x : Move). MayMove x old) (sym t.is) (turn_may_move w old pace (holds.live t.ran).paced)

pub turn_ready : (w : Bool) (seat : ℕ) (mv : Move) (old : Held) (pace : Pace) (d : DiskState) → Turns w seat mv old → HoldsPace old pace d → IsReady old d
turn_ready w seat mv old pace d t holds = let live = holds.live t.ran in between_is_ready old pace d (paced_is_between old pace live.paced) live.on

-- ---- the book of a move that went well

-- no entry, no stop, and no turn
pub record KeepsOpen (old new : BookState) : Type 0 where
  pub stopped : new.stopped ≡ old.stopped
  pub work : new.seats.work ≡ old.seats.work
  pub entries : new.book ≡ old.book
  pub turns : new.seats.turns ≡ old.seats.turns

pub moved_open : (mv : Move) (seat n : ℕ) (old moved : Held) → TurnsBy mv seat n old moved → KeepsOpen old.book moved.book
moved_open mv seat n old moved h1 = grind (arith, common_steps, nat_tests)

-- ---- its debts

none_owed : (other debt : ℕ) → slice_index (replicate callers 0) other ≤ debt
none_owed other debt = let none : slice_index (replicate callers 0) other ≡ 0 = of_replicate {A = ℕ} 16 other 0 in omega (arith, none)

debts_deep_ended : (seat : ℕ) (gears : GearState) → LeavesDebts seat gears (deep_ended gears)
debts_deep_ended seat gears = record { first = λ other apart. omega arith; second = λ other apart. none_owed other (second_debt gears other) }

debts_rotated : (seat input : ℕ) (gears : GearState) → LeavesDebts seat gears (rotated gears input)
debts_rotated seat input gears = record { first = λ other apart. omega arith; second = λ other apart. none_owed other (second_debt gears other) }

debts_passing : (seat c1 memory : ℕ) (gears : GearState) → LeavesDebts seat gears (passing gears c1 memory)
debts_passing seat c1 memory gears = record { first = λ other apart. none_owed other (first_debt gears other); second = λ other apart. omega arith }

debts_after_pass : (seat input : ℕ) (gears : GearState) (full : Bool) → LeavesDebts seat gears (if full then rotated (pass_ended gears) input else pass_ended gears)
debts_after_pass seat input gears full = grind (arith, common_steps, nat_tests)

moved_debts : (mv : Move) (seat n : ℕ) (old moved : Held) → TurnsBy mv seat n old moved → LeavesDebts seat old.gears moved.gears
moved_debts pacing.SwapDeep seat n old moved moves = subst (λ (g : GearState). LeavesDebts seat old.gears g) (sym moves.gears) (debts_deep_ended seat old.gears)
moved_debts pacing.SwapPass seat n old moved moves = subst (λ (g : GearState). LeavesDebts seat old.gears g) (sym moves.gears) (debts_after_pass seat _ old.gears (is_run_full old))
moved_debts pacing.TakeDeep seat n old moved moves = subst (λ (g : GearState). LeavesDebts seat old.gears g) (sym moves.gears) (debts_second seat n old.gears)
moved_debts pacing.TakeSnow seat n old moved moves = subst (λ (g : GearState). LeavesDebts seat old.gears g) (sym moves.gears) (debts_first seat n old.gears)
moved_debts pacing.Begin seat n old moved moves = subst (λ (h : Held). LeavesDebts seat old.gears h.gears) (sym moves) (debts_passing seat _ _ old.gears)
moved_debts pacing.Rotate seat n old moved moves = subst (λ (g : GearState). LeavesDebts seat old.gears g) (sym moves.gears) (debts_rotated seat _ old.gears)
moved_debts pacing.Idle seat n old moved moves = subst (λ (h : Held). LeavesDebts seat old.gears h.gears) (sym moves) (debts_stay seat old.gears)

-- ---- what its count leaves

counted_keeps : (w : Bool) (seat : ℕ) (ended : Turned) (quanta : ℕ) (b c : BookState) → IsSeat w seat b → KeepsSeats seat 0 0 c (counted_by w seat ended quanta c)
counted_keeps w seat ended quanta b c h1 = grind (arith, common_steps, nat_tests)

pub counted_stops : (w : Bool) (seat : ℕ) (ended : Turned) (quanta : ℕ) (b : BookState) → (counted_by w seat ended quanta b).stopped ≡ b.stopped
counted_stops w seat ended quanta b = grind (arith, common_steps, nat_tests)

pub counted_counts : (w : Bool) (seat : ℕ) (ended : Turned) (quanta : ℕ) (b : BookState) → (counted_by w seat ended quanta b).counts ≡ b.counts
counted_counts w seat ended quanta b = grind (arith, common_steps, nat_tests)

pub counted_book : (w : Bool) (seat : ℕ) (ended : Turned) (quanta : ℕ) (b : BookState) → (counted_by w seat ended quanta b).book ≡ b.book
counted_book w seat ended quanta b = grind (arith, common_steps, nat_tests)

counted_told : (w : Bool) (seat : ℕ) (ended : Turned) (b : BookState) (pace : Pace) → IsSeat w seat b → IsRunBook b pace → IsRunBook (counted_by w seat ended 0 b) pace
counted_told true seat ended b pace is told = help_is_told b pace seat told
counted_told false seat ended b pace is told = turn_is_told b pace seat ended is.0 is.1 told

-- ---- a turn of a store that is stopped, and one of a worker where it is closed

pub halted_moves : (w : Bool) (seat : ℕ) (why : Why) (old : Held) (b : BookState) (pace : Pace) (d : DiskState) → old.book.stopped ≡ Some why → IsSeat w seat old.book → HoldsPace old pace d
    → b ≡ counted_by w seat (machine.Halted why) 0 old.book → MovesPace seat (kind_of_turn w) (Turn (machine.Halted why)) (with_book b old) d pace
halted_moves w seat why old b pace d stopped is holds counts = grind (arith, common_steps, nat_tests, holds_stopped, counted_stops, counted_told, counted_counts)

pub halted_follows : (w : Bool) (seat : ℕ) (ended : Turned) (old : Held) (b : BookState) → IsSeat w seat old.book → b ≡ counted_by w seat ended 0 old.book → Follows seat (facts_of_held old) (facts_of_held (with_book b old))
halted_follows w seat ended old b is counts = grind (arith, common_steps, nat_tests)

pub closed_moves : (seat : ℕ) (old : Held) (b : BookState) (pace : Pace) (d : DiskState) → old.book.stopped ≡ None → HoldsPace old pace d → b ≡ helped_in seat old.book → MovesPace seat (kind_of_turn true) (Turn machine.Closed) (with_book b old) d pace
closed_moves seat old b pace d ran holds counts = record {
  next = pace;
  made = refl;
  holds = read_holds old old.runs.space b pace d d holds (ap (λ (x : BookState). x.counts) counts) (ap (λ (x : BookState). x.stopped) counts)
      (subst (λ (x : BookState). IsRunBook x pace) (sym counts) (help_is_told old.book pace seat holds.told.told)) (λ on. on);
}

-- ---- a turn that moves

-- What its move made, and the turn's end.
pub record Ends (w : Bool) (seat : ℕ) (mv : Move) (made : Result ℕ Broken) (faults : ℕ) (old moved : Held) (ended : Turned) (b : BookState) (before after : DiskState) : Type 0 where
  pub turns : Turns w seat mv old
  pub moves : IfOk made (λ n. TurnsBy mv seat n old moved)
  pub on : OnOk made (IsOn moved after)
  pub kept : KeepsAllButMerges (IsErr made) old moved
  pub told : TellsFaultsBy (Err Fault) made before after
  pub ended_is : ended ≡ ended_by made mv
  pub counts : b ≡ counted_by w seat ended (quanta_by made mv) (stopped_by made faults moved.book)

went_well : (w : Bool) (seat n : ℕ) (old moved : Held) (pace : Pace) → IsPacedHeld old pace → IsSeat w seat old.book → IsEven w seat old → TurnsBy (move_in w old) seat n old moved
    → (next : Pace) × IsMadeBy seat (kind_of_turn w) (Turn (end_of_move (move_in w old))) pace next
    × IsPacedHeld (with_book (counted_by w seat (end_of_move (move_in w old)) (quanta_of_move (move_in w old)) moved.book) moved) next
went_well true seat n old moved pace k is even moves = help_is_paced seat n old moved (with_book (helped_in seat moved.book) moved) pace k (record { worker = is.0; there = is.1 }) (record { moves = moves; counted = refl })
went_well false seat n old moved pace k is even moves =
    work_is_paced seat n old moved (with_book (turned_in seat (end_of_move (move_in false old)) (quanta_of_move (move_in false old)) moved.book) moved) pace k
    (record { caller = is.0; settled = even; works = is.1 }) (record { moves = moves; counted = refl })

failed_told : (w : Bool) (seat : ℕ) (why : Why) (ended : Turned) (old failed : Held) (pace : Pace) → IsSeat w seat old.book → IsPacedHeld old pace → failed.book ≡ old.book → IsRunBook (counted_by w seat ended 0 (stopped_in why failed.book)) pace
failed_told true seat why ended old failed pace is k same = failed_help_is_told seat why old failed pace k same
failed_told false seat why ended old failed pace is k same = failed_work_is_told seat why ended old failed pace is.0 is.1 k same

failed_moves : (w : Bool) (seat : ℕ) (why : Why) (ended : Turned) (old failed : Held) (pace : Pace) (before after : DiskState) → old.book.stopped ≡ None → IsSeat w seat old.book → HoldsPace old pace before → KeepsAllButMerges ⊤ old failed
    → IsMadeBy seat (kind_of_turn w) (Turn ended) pace pace → MovesPace seat (kind_of_turn w) (Turn ended) (with_book (counted_by w seat ended 0 (stopped_in why failed.book)) failed) after pace
failed_moves w seat why ended old failed pace before after ran is holds kept made =
    let k = (holds.live ran).paced in
    let b = counted_by w seat ended 0 (stopped_in why failed.book) in
    record {
      next = pace;
      made = made;
      holds = holds_stopped (with_book b failed) pace after why (counted_stops w seat ended 0 (stopped_in why failed.book))
          (told_after_failure old failed b pace kept k.numbers k.one (counted_counts w seat ended 0 (stopped_in why failed.book) ∙ ap (λ (x : BookState). x.counts) (kept.book tt))
          (failed_told w seat why ended old failed pace is k (kept.book tt)));
    }

stays_made : (w : Bool) (seat : ℕ) (pace : Pace) → IsMadeBy seat (kind_of_turn w) (Turn machine.Failed) pace pace
stays_made w seat pace = grind (arith, common_steps, nat_tests)

stays_by_page : (w : Bool) (seat page : ℕ) (pace : Pace) → IsMadeBy seat (kind_of_turn w) (Turn (machine.BadPage page)) pace pace
stays_by_page w seat page pace = grind (arith, common_steps, nat_tests)

pub ended_moves : (w : Bool) (seat : ℕ) (made : Result ℕ Broken) (faults : ℕ) (old moved : Held) (pace : Pace) (before after : DiskState) → Turns w seat (move_in w old) old → IfOk made (λ n. TurnsBy (move_in w old) seat n old moved)
    → OnOk made (IsOn moved after) → KeepsAllButMerges (IsErr made) old moved → HoldsPace old pace before
    → MovesPace seat (kind_of_turn w) (Turn (ended_by made (move_in w old))) (with_book (counted_by w seat (ended_by made (move_in w old)) (quanta_by made (move_in w old)) (stopped_by made faults moved.book)) moved) after pace
ended_moves w seat (Ok n) faults old moved pace before after t moves on kept holds =
    let next = went_well w seat n old moved pace (holds.live t.ran).paced t.is_seat t.even moves in
    let b = counted_by w seat (end_of_move (move_in w old)) (quanta_of_move (move_in w old)) moved.book in
    record { next = next.0; made = next.1; holds = holds_running (with_book b moved) next.0 after next.2 (on_rebooked moved b after on) }
ended_moves w seat (Err Fault) faults old moved pace before after t moves on kept holds = failed_moves w seat (why.Faulted faults) machine.Failed old moved pace before after t.ran t.is_seat holds (kept_once old moved refl kept) (stays_made w seat pace)
ended_moves w seat (Err (Damaged page)) faults old moved pace before after t moves on kept holds =
    failed_moves w seat (why.BadPage page) (machine.BadPage page) old moved pace before after t.ran t.is_seat holds (kept_once old moved refl kept) (stays_by_page w seat page pace)

pub turn_moves : (w : Bool) (seat : ℕ) (mv : Move) (made : Result ℕ Broken) (faults : ℕ) (old moved : Held) (ended : Turned) (b : BookState) (pace : Pace) (before after : DiskState) → Ends w seat mv made faults old moved ended b before after
    → HoldsPace old pace before → MovesPace seat (kind_of_turn w) (Turn ended) (with_book b moved) after pace
turn_moves w seat mv made faults old moved ended b pace before after e holds =
    subst (λ (x : BookState). MovesPace seat (kind_of_turn w) (Turn ended) (with_book x moved) after pace) (sym e.counts)
    (subst (λ (t : Turned). MovesPace seat (kind_of_turn w) (Turn t) (with_book (counted_by w seat t (quanta_by made mv) (stopped_by made faults moved.book)) moved) after pace) (sym e.ended_is)
    (subst (λ (y : Move). MovesPace seat (kind_of_turn w) (Turn (ended_by made y)) (with_book (counted_by w seat (ended_by made y) (quanta_by made y) (stopped_by made faults moved.book)) moved) after pace) (sym e.turns.is)
    (ended_moves w seat made faults old moved pace before after (subst (λ (y : Move). Turns w seat y old) e.turns.is e.turns)
    (subst (λ (y : Move). IfOk made (λ n. TurnsBy y seat n old moved)) e.turns.is e.moves) e.on e.kept holds)))

-- ---- its commits

rotates_as : (w : Bool) (mv : Move) (made : Result ℕ Broken) (old : Held) → mv ≡ move_in w old → rotations (Turn (ended_by made mv)) (kind_of_turn w) old ≡ rotated_by made mv
rotates_as w mv made old is = grind (arith, common_steps, nat_tests)

stopped_counts : (made : Result ℕ Broken) (faults : ℕ) (b : BookState) → (stopped_by made faults b).counts ≡ b.counts
stopped_counts made faults b = grind (arith, common_steps, nat_tests)

pub turn_commits : (w : Bool) (seat : ℕ) (mv : Move) (made : Result ℕ Broken) (faults : ℕ) (old moved : Held) (ended : Turned) (b : BookState) (before after : DiskState) → Ends w seat mv made faults old moved ended b before after
    → CountsCommits (rotations (Turn ended) (kind_of_turn w) old) old (with_book b moved)
turn_commits w seat mv made faults old moved ended b before after e =
    let counts = ap (λ (x : BookState). x.counts) e.counts ∙ counted_counts w seat ended (quanta_by made mv) (stopped_by made faults moved.book) ∙ stopped_counts made faults moved.book in
    subst (λ (t : Turned). CountsCommits (rotations (Turn t) (kind_of_turn w) old) old (with_book b moved)) (sym e.ended_is)
    (subst (λ (n : ℕ). CountsCommits n old (with_book b moved)) (sym (rotates_as w mv made old e.turns.is))
    (commits_beside (rotated_by made mv) old moved b counts (move_keeps_pins mv made seat old moved e.moves e.kept).commits))

-- ---- what the count of a turn requires

-- whoever might take the turn may count it
pub count_open : (w : Bool) (mv : Move) (seat : ℕ) (made : Result ℕ Broken) (faults : ℕ) (old moved : Held) (b : BookState) → IfOk made (λ n. TurnsBy mv seat n old moved) → KeepsAllButMerges (IsErr made) old moved → b ≡ stopped_by made faults moved.book
    → MayCount w seat old.book → MayCount w seat b
count_open w mv seat made faults old moved b h1 h2 h3 h4 = grind (arith, common_steps, nat_tests)

-- ---- what it leaves to the other seats

ended_keeps : (mv : Move) (seat : ℕ) (made : Result ℕ Broken) (faults : ℕ) (old moved : Held) → IfOk made (λ n. TurnsBy mv seat n old moved) → KeepsAllButMerges (IsErr made) old moved → KeepsSeats seat 0 1 old.book (stopped_by made faults moved.book)
ended_keeps mv seat made faults old moved h1 h2 = grind (arith, common_steps, nat_tests)

ended_debts : (mv : Move) (seat : ℕ) (made : Result ℕ Broken) (old moved : Held) → IfOk made (λ n. TurnsBy mv seat n old moved) → KeepsAllButMerges (IsErr made) old moved → LeavesDebts seat old.gears moved.gears
ended_debts mv seat (Ok n) old moved moves kept = moved_debts mv seat n old moved moves
ended_debts mv seat (Err broken) old moved moves kept = subst (λ (g : GearState). LeavesDebts seat old.gears g) (sym (kept.gears refl)) (debts_stay seat old.gears)

pub turn_follows : (w : Bool) (seat : ℕ) (mv : Move) (made : Result ℕ Broken) (faults : ℕ) (old moved : Held) (ended : Turned) (b : BookState) (before after : DiskState) → Ends w seat mv made faults old moved ended b before after
    → Follows seat (facts_of_held old) (facts_of_held (with_book b moved))
turn_follows w seat mv made faults old moved ended b before after e =
    let stopped = stopped_by made faults moved.book in
    let counted = counted_by w seat ended (quanta_by made mv) stopped in
    follows_by seat 0 1 old (with_book b moved) (omega arith) (omega arith)
    (subst (λ (x : BookState). KeepsSeats seat 0 1 old.book x) (sym e.counts)
    (keeps_both seat 0 0 1 0 old.book stopped counted (ended_keeps mv seat made faults old moved e.moves e.kept) (counted_keeps w seat ended (quanta_by made mv) old.book stopped e.turns.is_seat)))
    (ended_debts mv seat made old moved e.moves e.kept)

-- ---- why it ends so

pub turn_because : (w : Bool) (seat : ℕ) (mv : Move) (made : Result ℕ Broken) (faults : ℕ) (old moved : Held) (ended : Turned) (b : BookState) (before after : DiskState) → Ends w seat mv made faults old moved ended b before after
    → ((n : ℕ) → made ≡ Err (Damaged n) → IsTrue before.tells_bytes → IsDamageAhead (merge_of mv) moved.runs n after.bytes) → faults ≡ after.faults → TurnsBecause ended w seat old (with_book b moved) before after
turn_because w seat mv made faults old moved ended b before after e ahead counted = grind (arith, common_steps, nat_tests)

-- ---- what a caller's turn begins with

pub working_caller : (seat : ℕ) (b : BookState) → IsTrue (may_turn_in seat b) → seat < callers
working_caller seat b ok = ltb-true seat callers (both_hold (is_caller seat) (nat_lt (work_in seat b).turns most_turns) ok).0

pub counts_as : (w : Bool) (seat : ℕ) (ended : Turned) (quanta n : ℕ) (b c d : BookState) → b ≡ counted_by w seat ended quanta c → quanta ≡ n → c ≡ d → b ≡ counted_by w seat ended n d
counts_as w seat ended quanta n b c d is same_n same = is ∙ ap (λ (k : ℕ). counted_by w seat ended k c) same_n ∙ ap (λ (x : BookState). counted_by w seat ended n x) same

-- ---- a turn, as its conditions are told

seat_is : (w : Bool) (seat : ℕ) (b : BookState) → MayCount w seat b → HasPlaces b → IsSeat w seat b
seat_is w seat b h1 h2 = grind (arith, common_steps, nat_tests)

pub turns_at : (w : Bool) (seat : ℕ) (mv : Move) (held : Held) → MayCount w seat held.book → (held.book.stopped ≡ None → IsEven w seat held) → HasPlaces held.book → None ≡ held.book.stopped → mv ≡ move_in w held → Turns w seat mv held
turns_at w seat mv held may even places ran is = record { ran = sym ran; is_seat = seat_is w seat held.book may places; even = even (sym ran); is = is }

pub turn_seat : (w : Bool) (seat : ℕ) (b : BookState) → MayCount w seat b → seat < seats
turn_seat w seat b h1 = grind (arith, common_steps, nat_tests)
