-- What is known of a seat's part tells which calls may be made for it, and what they leave of it.
use Rattle.std.proofs.Common.{◌≡◌, ℕ, zero, suc, ◌+◌, ◌-◌, ◌<◌, ◌≤◌, Bool, true, cond, ◌==◌, ◌||◌, List, [], ◌∷◌, None, length, eq-eqb, refl, ap, arith}
use Rattle.std.proofs.lemmas.Grind.{common_steps}
use Rattle.std.proofs.lemmas.Bool.Decides.{nat_tests}
use Rattle.std.specs.Prelude.{is_some, slice_index, slice_set}
use Rattle.std.proofs.lemmas.Bool.{lt-ltb}
use Rattle.blsm_model.specs.Book.{noted, rows_given}
use Rattle.blsm_model.specs.Facts.{Eases, Part, entries_of}
use Rattle.blsm_model.specs.Format.{callers}
use Rattle.blsm_model.specs.declared.history.Entry.{Entry}
use Rattle.blsm_model.specs.declared.history.Reply.{Reply}
use Rattle.blsm_model.specs.declared.op.Op.{Op}
use Rattle.gear_sched.specs.Gears.{first_debt, second_debt}
use Rattle.seat_book.specs.State.{BookState, may_note_in, work_in}
use Rattle.seat_book.specs.Seats.{turns_in}
use Rattle.tree_machine.specs.Machine.{is_caller}
use Rattle.core_moves.specs.declared.held.Held.{Held}
use Rattle.tree_core.specs.Core.{facts_of_held}
use Rattle.tree_shared.specs.Seats.{HasRoomFor, IsEven}

pub or_left : (a b : Bool) → a ≡ true → (a || b) ≡ true
or_left a b is = ap (λ (x : Bool). x || b) is

pub or_right : (a b : Bool) → b ≡ true → (a || b) ≡ true
or_right a b h1 = grind (arith, common_steps, nat_tests)

-- an entry of the seat is the seat's
pub its_own : (e : Entry) (seat : ℕ) → e.seat ≡ seat → entries_of seat (e ∷ []) ≡ e ∷ []
its_own e seat is = let yes : (e.seat == seat) ≡ true = eq-eqb e.seat seat is in rw yes refl

-- ---- the book

pub less_there : (xs : List ℕ) (k n : ℕ) → slice_index (slice_set xs k (slice_index xs k - n)) k ≡ slice_index xs k - n
less_there [] k n = omega arith
less_there (x ∷ xs) zero n = refl
less_there (x ∷ xs) (suc k) n = less_there xs k n

pub caller_turns : (seat : ℕ) (b : BookState) → is_caller seat ≡ true → turns_in seat b ≡ (work_in seat b).turns
caller_turns seat b is = ap (λ (c : Bool). cond c (work_in seat b).turns (slice_index b.seats.turns (seat - callers))) is

pub is_a_caller : (seat : ℕ) → seat < callers → is_caller seat ≡ true
is_a_caller seat below = lt-ltb seat callers below

-- a seat with room and no open work may note an entry
pub may_note_by : (seat rows : ℕ) (held : Held) (p : Part) → seat < callers → Eases p ((facts_of_held held).part seat) → HasRoomFor 1 rows p → p.turns ≡ 0 → may_note_in seat rows held.book ≡ true
may_note_by seat rows held p below eases room idle = grind (arith, common_steps, nat_tests)

-- one that is even owes nothing, unless the store is stopped
pub even_by : (seat : ℕ) (held : Held) (halted : Bool) (p : Part) → Eases p ((facts_of_held held).part seat) → (halted ≡ true → is_some held.book.stopped ≡ true) → IsEven halted p → held.book.stopped ≡ None
    → first_debt held.gears seat + second_debt held.gears seat ≡ 0
even_by seat held halted p eases stops even runs = grind (arith, common_steps, nat_tests)

-- an entry that gives no more rows than these leaves one less to note
pub room_left : (seat entries rows n : ℕ) (op : Op) (reply : Reply) (old new : Held) (p : Part) → Eases p ((facts_of_held old).part seat) → HasRoomFor (entries + 1) (rows + n) p
    → length (rows_given reply) ≤ n → new.book.book.room ≡ (noted old.book.book (record { seat = seat; op = op; reply = reply })).room → HasRoomFor entries rows ((facts_of_held new).part seat)
room_left seat entries rows n op reply old new p eases room few is = grind (arith, common_steps, nat_tests)

-- a call that notes none leaves the room, and one that leaves the open works leaves a seat without one
pub room_same : (seat entries rows : ℕ) (old new : Held) (p : Part) → Eases p ((facts_of_held old).part seat) → HasRoomFor entries rows p → new.book.book.room ≡ old.book.book.room
    → HasRoomFor entries rows ((facts_of_held new).part seat)
room_same seat entries rows old new p eases room same = grind (arith, common_steps, nat_tests)

pub idle_still : (seat : ℕ) (old new : Held) (p : Part) → seat < callers → Eases p ((facts_of_held old).part seat) → p.turns ≡ 0 → new.book.seats.work ≡ old.book.seats.work → ((facts_of_held new).part seat).turns ≡ 0
idle_still seat old new p below eases idle same = grind (arith, common_steps, nat_tests)
