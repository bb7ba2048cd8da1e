-- What a call leaves of the book, on every disk: the annals, and the callers' open works.
use Rattle.std.specs.Prelude.{◌≡◌, ◌≢◌, ⊤, ℕ, ◌+◌, ◌<◌, true, false, Some, slice_index_or}
use Rattle.blsm_model.specs.Book.{Book, noted, counted_up}
use Rattle.blsm_model.specs.declared.op.Op.{Op}
use Rattle.blsm_model.specs.declared.history.Reply.{Reply}
use Rattle.blsm_model.specs.declared.history.Why.{Why}
use Rattle.gear_sched.specs.Gears.{first_debt, second_debt}
use Rattle.pacing.specs.Steps as pacing
use Rattle.pacing.specs.Steps.{Move}
use Rattle.paced_tree.specs.Booking.{quanta_of_move}
use Rattle.tree_machine.specs.Machine.{Turned, Worked, turn_more}
use Rattle.tree_machine.specs.Steps.{Answer, Turn, last_write}
use Rattle.tree_machine.specs.declared.step.Kind.{Kind}
use Rattle.tree_machine.specs.declared.step.Kind.TheVariants as kind
use Rattle.seat_book.specs.State.{BookState, work_in, with_ended}
use Rattle.seat_book.specs.Seats.{turns_in}
use Rattle.core_moves.specs.declared.held.Held.{Held}
use Rattle.core_pace.specs.Turns.{move_in}
use Rattle.tree_core.specs.declared.answers.Payment.{Payment}
use Rattle.tree_core.specs.declared.answers.Payment.TheVariants as payment

-- One entry more is noted, which has no quanta yet; the open works stay.
pub record NotesOne (seat : ℕ) (op : Op) (reply : Reply) (old new : BookState) : Type 0 where
  pub annals : new.book ≡ noted old.book (record { seat = seat; op = op; reply = reply })
  pub work : new.seats.work ≡ old.seats.work

-- no entry is noted, and none gets a quantum
pub record NotesNone (old new : BookState) : Type 0 where
  pub annals : new.book ≡ old.book
  pub work : new.seats.work ≡ old.seats.work

-- ---- payments

-- one that was made counts for the entry of the seat's last write that was done
abbrev pub with_payment : Payment → ℕ → Book → Book
with_payment payment.Paid seat book = counted_up book (last_write seat book.entries) 1
with_payment _ seat book = book

pub record CountsPayment (answer : Payment) (seat : ℕ) (old new : BookState) : Type 0 where
  pub annals : new.book ≡ with_payment answer seat old.book
  pub work : new.seats.work ≡ old.seats.work

abbrev pub OwesNothing : ℕ → Held → Type 0
OwesNothing seat held = first_debt held.gears seat + second_debt held.gears seat ≡ 0

-- after one that settled, the seat owes nothing
abbrev pub Settles : Payment → ℕ → Held → Type 0
Settles payment.Settled seat held = OwesNothing seat held
Settles _ seat held = ⊤

-- after one that was made, it owes less
abbrev pub Lessens : Payment → ℕ → Held → Held → Type 0
Lessens payment.Paid seat old new = first_debt new.gears seat + second_debt new.gears seat < first_debt old.gears seat + second_debt old.gears seat
Lessens _ seat old new = ⊤

-- ---- turns of a caller's work

-- one that worked took a quantum where its move is one
abbrev pub quanta_of_turn : Turned → Move → ℕ
quanta_of_turn Worked mv = quanta_of_move mv
quanta_of_turn _ mv = 0

-- It counts for the seat's open work alone. A store that was stopped stays so, for the same cause.
pub record CountsTurn (seat : ℕ) (ended : Turned) (old new : Held) : Type 0 where
  pub annals : new.book.book ≡ old.book.book
  pub work : work_in seat new.book ≡ with_ended (work_in seat old.book) ended (quanta_of_turn ended (move_in false old))
  pub others : (other : ℕ) → other ≢ seat → work_in other new.book ≡ work_in other old.book
  pub halted : (why : Why) → old.book.stopped ≡ Some why → new.book.stopped ≡ Some why

-- ---- turns of a worker

-- one turn more
abbrev pub HelpsOnce : ℕ → BookState → BookState → Type 0
HelpsOnce seat old new = turns_in seat new ≡ turn_more (turns_in seat old)

-- ---- callers who leave

abbrev pub HasLeft : ℕ → BookState → Type 0
HasLeft seat b = slice_index_or b.seats.left seat false ≡ true

-- ---- commits

-- a rotation by itself is a commit that no count has
abbrev pub rotations_by : Move → ℕ
rotations_by pacing.Rotate = 1
rotations_by _ = 0

abbrev pub rotations_in : Kind → Held → ℕ
rotations_in kind.WorkTurn held = rotations_by (move_in false held)
rotations_in kind.WorkerTurn held = rotations_by (move_in true held)
rotations_in _ held = 0

-- how many a call makes: a turn that worked makes its move's
abbrev pub rotations : Answer → Kind → Held → ℕ
rotations (Turn Worked) k held = rotations_in k held
rotations _ k held = 0

-- The catalogue's version rose by so many rotations, and by as much as the counts of passes and of deep merges did.
abbrev pub CountsCommits : ℕ → Held → Held → Type 0
CountsCommits rotated old new =
    new.runs.catalogue.version + (old.book.counts.passes + old.book.counts.deeps) ≡ old.runs.catalogue.version + (new.book.counts.passes + new.book.counts.deeps) + rotated
