-- What a call leaves of the annals, of the callers' open works, and of its own seat's debts.
use Rattle.std.specs.Prelude.{IfOk, IsErr, length, slice_index, slice_set}
use Rattle.std.proofs.lemmas.Grind.{common_steps}
use Rattle.std.proofs.lemmas.Bool.Decides.{nat_tests}
use Rattle.std.specs.declared.result.Result.{Result}
use Rattle.std.proofs.Common.{◌≡◌, ◌∙◌, ℕ, ◌+◌, ◌-◌, ◌≤◌, ◌<◌, Bool, true, false, cond, List, Some, Ok, Err, replicate, refl, ap, sym, subst, arith}
use Rattle.blsm_model.specs.Book.{counted_up}
use Rattle.blsm_model.specs.Format.{callers}
use Rattle.blsm_model.specs.declared.op.Op.{Op}
use Rattle.blsm_model.specs.declared.history.Reply.{Reply}
use Rattle.blsm_model.specs.declared.history.Why.{Why}
use Rattle.disk_trait.specs.Disk.{DiskState}
use Rattle.gear_sched.specs.Gears.{GearState, first_debt, second_debt, pass_ended, plan_for, rotated}
use Rattle.gear_sched.specs.declared.Plan.{Plan}
use Rattle.gear_sched.specs.declared.Plan.TheVariants.{Nothing}
use Rattle.page_file.specs.declared.file.Broken.{Broken}
use Rattle.pacing.specs.Steps as pacing
use Rattle.pacing.specs.Steps.{Move}
use Rattle.tree_machine.specs.Machine.{Turned, seats}
use Rattle.tree_machine.specs.Steps.{last_write}
use Rattle.tree_machine.proofs.PlayLemmas.{of_replicate}
use Rattle.seat_book.specs.State.{BookState, helped_in, noted_in, paid_in, stopped_in, turned_in}
use Rattle.core_moves.specs.declared.held.Held.{Held}
use Rattle.core_moves.specs.Held.{is_run_full}
use Rattle.core_moves.specs.Moves.{KeepsAllButMerges, with_book, with_debts_forgiven}
use Rattle.core_pace.specs.Turns.{TurnsBy, move_in}
use Rattle.tree_core.specs.Notes.{NotesOne, NotesNone, CountsPayment, CountsTurn, HelpsOnce, OwesNothing, quanta_of_turn}
use Rattle.tree_core.specs.Quanta.{ended_by, quanta_by, stopped_by}
use Rattle.tree_core.specs.declared.answers.Payment.TheVariants as payment
use Rattle.tree_core.proofs.PaymentLemmas.{Took, FailedToTake, book_taken}
use Rattle.tree_core.proofs.TurnLemmas.{Ends}
use Rattle.core_pace.proofs.Terms.{KeepsBook}

-- ---- an entry

pub notes_by : (seat : ℕ) (op : Op) (reply : Reply) (old between new : BookState) → KeepsBook old between → new ≡ noted_in seat op reply between → NotesOne seat op reply old new
notes_by seat op reply old between new keeps is = grind (arith, common_steps, nat_tests)

pub notes_at_once : (seat : ℕ) (op : Op) (reply : Reply) (old new : BookState) → new ≡ noted_in seat op reply old → NotesOne seat op reply old new
notes_at_once seat op reply old new is = notes_by seat op reply old old new (record { book = refl; seats = refl; stopped = refl }) is

-- a stop before it changes neither
pub notes_stopped : (seat : ℕ) (op : Op) (reply : Reply) (why : Why) (old between new : BookState) → KeepsBook old between → new ≡ noted_in seat op reply (stopped_in why between) → NotesOne seat op reply old new
notes_stopped seat op reply why old between new keeps is = grind (arith, common_steps, nat_tests)

-- ---- a payment

pub payment_counts : (seat n : ℕ) (plan : Plan) (old forgiven taken : Held) (b : BookState) → Took seat n plan old forgiven taken → b ≡ paid_in seat taken.book → CountsPayment payment.Paid seat old.book b
payment_counts seat n plan old forgiven taken b took counted =
    let book = book_taken seat n plan old forgiven taken took in
    record {
      annals = ap (λ (x : BookState). x.book) counted ∙ ap (λ (x : BookState). counted_up x.book (last_write seat x.book.entries) 1) book;
      work = ap (λ (x : BookState). x.seats.work) counted ∙ ap (λ (x : BookState). x.seats.work) book;
    }

pub settling_counts : (seat : ℕ) (old forgiven : Held) → forgiven ≡ with_debts_forgiven seat old → CountsPayment payment.Settled seat old.book forgiven.book
settling_counts seat old forgiven is = record { annals = ap (λ (h : Held). h.book.book) is; work = ap (λ (h : Held). h.book.seats.work) is }

pub failed_payment_counts : (seat : ℕ) (plan : Plan) (why : Why) (old forgiven failed : Held) (b : BookState) → FailedToTake seat plan why old forgiven failed b → NotesNone old.book b
failed_payment_counts seat plan why old forgiven failed b f = grind (arith, common_steps, nat_tests)

-- where nothing is planned, nothing is owed
pub plans_nothing : (first second : ℕ) → plan_for first second ≡ Nothing → first + second ≡ 0
plans_nothing first second is = grind (arith, common_steps, nat_tests)

-- ---- a turn

ended_quanta : (mv : Move) (made : Result ℕ Broken) → quanta_by made mv ≡ quanta_of_turn (ended_by made mv) mv
ended_quanta mv made = grind (arith, common_steps, nat_tests)

ended_notes : (w : Bool) (seat : ℕ) (mv : Move) (made : Result ℕ Broken) (faults : ℕ) (old moved : Held) (ended : Turned) (b : BookState) (before after : DiskState) → Ends w seat mv made faults old moved ended b before after
    → NotesNone old.book (stopped_by made faults moved.book)
ended_notes w seat mv made faults old moved ended b before after e = grind (arith, common_steps, nat_tests)

-- a worker's
pub help_notes : (seat : ℕ) (mv : Move) (made : Result ℕ Broken) (faults : ℕ) (old moved : Held) (ended : Turned) (b : BookState) (before after : DiskState) → Ends true seat mv made faults old moved ended b before after
    → NotesNone old.book b
help_notes seat mv made faults old moved ended b before after e = grind (arith, common_steps, nat_tests)

pub helped_notes : (seat : ℕ) (old b : BookState) → b ≡ helped_in seat old → NotesNone old b
helped_notes seat old b is = record { annals = ap (λ (x : BookState). x.book) is; work = ap (λ (x : BookState). x.seats.work) is }

-- a turn of a caller's work, as it is counted over annals and works that stand
pub turned_counts : (seat quanta : ℕ) (ended : Turned) (old between new : Held) → seat < callers → length old.book.seats.work ≡ callers → NotesNone old.book between.book
    → ((why : Why) → old.book.stopped ≡ Some why → between.book.stopped ≡ Some why) → new.book ≡ turned_in seat ended quanta between.book → quanta ≡ quanta_of_turn ended (move_in false old) → CountsTurn seat ended old new
turned_counts seat quanta ended old between new caller places notes stays is same = grind (arith, common_steps, nat_tests)

pub turn_counts : (seat : ℕ) (mv : Move) (made : Result ℕ Broken) (faults : ℕ) (old moved : Held) (ended : Turned) (b : BookState) (before after : DiskState) → Ends false seat mv made faults old moved ended b before after
    → CountsTurn seat ended old (with_book b moved)
turn_counts seat mv made faults old moved ended b before after e =
    turned_counts seat (quanta_by made mv) ended old (with_book (stopped_by made faults moved.book) moved) (with_book b moved) e.turns.is_seat.0 e.turns.is_seat.1 (ended_notes false seat mv made faults old moved ended b before after e)
    (λ why was. absurd (cc (e.turns.ran, was))) e.counts
    (ended_quanta mv made ∙ ap (λ (t : Turned). quanta_of_turn t mv) (sym e.ended_is) ∙ ap (λ (y : Move). quanta_of_turn ended y) e.turns.is)

-- ---- the seat's own debts after a turn

record OwesNoMore (seat : ℕ) (old new : GearState) : Type 0 where
  first : first_debt new seat ≤ first_debt old seat
  second : second_debt new seat ≤ second_debt old seat

lowered : (xs : List ℕ) (seat n : ℕ) → slice_index (slice_set xs seat (slice_index xs seat - n)) seat ≤ slice_index xs seat
lowered xs seat n = grind (arith, common_steps, nat_tests)

none_left : (seat debt : ℕ) → slice_index (replicate callers 0) seat ≤ debt
none_left seat debt = let none : slice_index (replicate callers 0) seat ≡ 0 = of_replicate {A = ℕ} 16 seat 0 in omega (arith, none)

pass_ended_owes : (seat input : ℕ) (gears : GearState) (full : Bool) → OwesNoMore seat gears (cond full (rotated (pass_ended gears) input) (pass_ended gears))
pass_ended_owes seat input gears full = grind (arith, common_steps, nat_tests)

moved_owes : (mv : Move) (seat n : ℕ) (old moved : Held) → TurnsBy mv seat n old moved → OwesNoMore seat old.gears moved.gears
moved_owes pacing.SwapDeep seat n old moved moves = subst (λ (g : GearState). OwesNoMore seat old.gears g) (sym moves.gears) (record { first = omega arith; second = none_left seat (second_debt old.gears seat) })
moved_owes pacing.SwapPass seat n old moved moves = subst (λ (g : GearState). OwesNoMore seat old.gears g) (sym moves.gears) (pass_ended_owes seat _ old.gears (is_run_full old))
moved_owes pacing.TakeDeep seat n old moved moves = subst (λ (g : GearState). OwesNoMore seat old.gears g) (sym moves.gears) (record { first = omega arith; second = lowered old.gears.second_debts seat n })
moved_owes pacing.TakeSnow seat n old moved moves = subst (λ (g : GearState). OwesNoMore seat old.gears g) (sym moves.gears) (record { first = lowered old.gears.first_debts seat n; second = omega arith })
moved_owes pacing.Begin seat n old moved moves = subst (λ (h : Held). OwesNoMore seat old.gears h.gears) (sym moves) (record { first = none_left seat (first_debt old.gears seat); second = omega arith })
moved_owes pacing.Rotate seat n old moved moves = subst (λ (g : GearState). OwesNoMore seat old.gears g) (sym moves.gears) (record { first = omega arith; second = none_left seat (second_debt old.gears seat) })
moved_owes pacing.Idle seat n old moved moves = subst (λ (h : Held). OwesNoMore seat old.gears h.gears) (sym moves) (record { first = omega arith; second = omega arith })

ended_owes : (mv : Move) (seat : ℕ) (made : Result ℕ Broken) (old moved : Held) → IfOk made (λ n. TurnsBy mv seat n old moved) → KeepsAllButMerges (IsErr made) old moved → OwesNoMore seat old.gears moved.gears
ended_owes mv seat (Ok n) old moved moves kept = moved_owes mv seat n old moved moves
ended_owes mv seat (Err broken) old moved moves kept = subst (λ (g : GearState). OwesNoMore seat old.gears g) (sym (kept.gears refl)) (record { first = omega arith; second = omega arith })

pub turn_owes : (seat : ℕ) (mv : Move) (made : Result ℕ Broken) (faults : ℕ) (old moved : Held) (ended : Turned) (b : BookState) (before after : DiskState) → Ends false seat mv made faults old moved ended b before after
    → OwesNothing seat (with_book b moved)
turn_owes seat mv made faults old moved ended b before after e = grind (arith, common_steps, nat_tests, ended_owes)

-- ---- a worker's turn counts

stopped_turns : (made : Result ℕ Broken) (faults : ℕ) (b : BookState) → (stopped_by made faults b).seats.turns ≡ b.seats.turns
stopped_turns made faults b = grind (arith, common_steps, nat_tests)

moved_turns : (mv : Move) (seat : ℕ) (made : Result ℕ Broken) (old moved : Held) → IfOk made (λ n. TurnsBy mv seat n old moved) → KeepsAllButMerges (IsErr made) old moved → moved.book.seats.turns ≡ old.book.seats.turns
moved_turns mv seat made old moved h1 h2 = grind (arith, common_steps, nat_tests)

pub helps_once : (seat : ℕ) (old between b : BookState) → callers ≤ seat → seat < seats → length old.seats.turns ≡ seats - callers → between.seats.turns ≡ old.seats.turns → b ≡ helped_in seat between → HelpsOnce seat old b
helps_once seat old between b above below places same is = grind (arith, common_steps, nat_tests)

pub turn_helps : (seat : ℕ) (mv : Move) (made : Result ℕ Broken) (faults : ℕ) (old moved : Held) (ended : Turned) (b : BookState) (before after : DiskState) → callers ≤ seat → seat < seats
    → length old.book.seats.turns ≡ seats - callers → Ends true seat mv made faults old moved ended b before after → HelpsOnce seat old.book b
turn_helps seat mv made faults old moved ended b before after above below places e =
    helps_once seat old.book (stopped_by made faults moved.book) b above below places (stopped_turns made faults moved.book ∙ moved_turns mv seat made old moved e.moves e.kept) e.counts
