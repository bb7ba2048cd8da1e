-- What each part of a step does to the book's counts, over the pace alone.
use Rattle.std.proofs.Common.{◌≡◌, refl, sym, subst, ℕ, ◌+◌, ◌<◌, ◌≤◌, Bool, cond, true, false, ◌&&◌, set, arith}
use Rattle.std.proofs.lemmas.Grind.{common_steps}
use Rattle.std.proofs.lemmas.Bool.Decides.{nat_tests}
use Rattle.std.specs.Prelude.{slice_index, length, slice_index_or, slice_set}
use Rattle.blsm_model.specs.Geometry.{work_bound}
use Rattle.blsm_model.specs.declared.history.Reply.TheVariants.{Done}
use Rattle.blsm_model.specs.Book.{Book, counted_up, noted}
use Rattle.blsm_model.specs.Histories.{is_done, writes_of}
use Rattle.blsm_model.specs.Legal.{is_write, total_weight}
use Rattle.gear_sched.specs.declared.Plan.{Plan}
use Rattle.gear_sched.specs.declared.Plan.TheVariants.{Snow, Deep, Nothing}
use Rattle.pacing.specs.Pace.{Pace, Quantum, Written, pass_done, with_swap_and_rotation, with_forgiven, with_write}
use Rattle.pacing.specs.Kept.{IsPaced}
use Rattle.pacing.specs.Steps.{Move, Pay, plan_of, paid_by, turn_of, turned_by, is_worker_seat, deep_settled, pass_settled, begun_for, ready_for, May, after, Turn}
use Rattle.pacing.proofs.Runs.{step_keeps}
use Rattle.tree_machine.specs.Machine.{Seats, WorkSoFar, no_work, seats}
use Rattle.tree_machine.specs.Moves.{count_quantum}
use Rattle.tree_machine.specs.Steps.{last_write}
use Rattle.paced_tree.specs.Numbers.{IsBooked}
use Rattle.paced_tree.specs.Booking.{IsBookOf, quanta_of_move}
use Rattle.paced_tree.proofs.Books.{noted_booked, written_booked, paid_booked, worked_booked, helped_booked, ended_booked}
use Rattle.blsm_model.specs.Format.{callers}
use Rattle.blsm_model.specs.declared.op.Op.{Op}
use Rattle.blsm_model.specs.declared.history.Entry.{Entry}
use Rattle.paced_tree.proofs.Terms.{with_turn_of, quanta_of_turn}

-- a write that was done
pub write_books : (book : Book) (s : Seats) (pace : Pace) (seat : ℕ) (op : Op) (written : Written) → written.weight ≡ total_weight (writes_of op)
    → written.writes ≡ length (writes_of op) → IsPaced pace → seat < callers → is_write op ≡ true → IsBookOf book s pace
    → IsBookOf (noted book (record { seat = seat; op = op; reply = Done })) s (with_write pace seat written)
write_books book s pace seat op written weighs counts paced caller write k =
    let entry : Entry = record { seat = seat; op = op; reply = Done } in
    subst (λ (n : ℕ). IsBookOf (noted book entry) s (with_write pace seat (record written { weight = n }))) (sym weighs)
    (subst (λ (n : ℕ). IsBookOf (noted book entry) s (with_write pace seat (record written { weight = total_weight (writes_of op); writes = n })))
    (sym counts)
    (written_booked pace.gears.sizes book s.quanta s.work pace.work pace.admitted pace.writes pace.weights pace.quanta entry
    paced.weights paced.quanta caller write k))

-- any other entry
pub note_books : (book : Book) (s : Seats) (pace : Pace) (entry : Entry) → (is_done entry.reply ≡ true → is_write entry.op ≡ false) → IsBookOf book s pace → IsBookOf (noted book entry) s pace
note_books book s pace entry is k =
    noted_booked pace.gears.sizes book s.quanta s.work pace.work pace.admitted pace.writes pace.weights pace.quanta entry (by (is_done entry.reply) is) k
  where
    by : (b : Bool) → (b ≡ true → is_write entry.op ≡ false) → (b && is_write entry.op) ≡ false
    by b h1 = grind (arith, common_steps, nat_tests)

-- ---- moves that the book doesn't see

deep_settled_books : (book : Book) (s : Seats) (pace : Pace) → IsBookOf book s pace → IsBookOf book s (deep_settled pace)
deep_settled_books book s pace k = grind (arith, common_steps, nat_tests)

swap_books : (book : Book) (s : Seats) (pace : Pace) → IsBookOf book s pace → IsBookOf book s (with_swap_and_rotation pace)
swap_books book s pace k = grind (arith, common_steps, nat_tests)

pass_settled_books : (book : Book) (s : Seats) (pace : Pace) → IsBookOf book s pace → IsBookOf book s (pass_settled pace)
pass_settled_books book s pace k = by (pace.gears.pass && pass_done pace)
  where
    by : (b : Bool) → IsBookOf book s (cond b (with_swap_and_rotation pace) pace)
    by true = swap_books book s pace k
    by false = k

begun_books : (book : Book) (s : Seats) (pace : Pace) (w : ℕ) → IsBookOf book s pace → IsBookOf book s (begun_for pace w)
begun_books book s pace w k = grind (arith, common_steps, nat_tests)

-- what an admission, or a payment, does before
pub moves_book : (book : Book) (s : Seats) (pace : Pace) (w seat : ℕ) → IsBookOf book s pace
    → IsBookOf book s (deep_settled pace) × IsBookOf book s (ready_for pace w) × IsBookOf book s (with_forgiven pace seat)
moves_book book s pace w seat k = grind (arith, common_steps, nat_tests, deep_settled_books, begun_books, pass_settled_books)

-- ---- quanta

-- a payment's quantum is counted for the entry of the seat's last write
pub pay_books : (book : Book) (s : Seats) (pace : Pace) (seat : ℕ) (quantum : Quantum) → IsPaced pace → May pace (Pay seat quantum) → (plan_of (with_forgiven pace seat) seat ≡ Nothing → ⊥) → IsBookOf book s pace
    → IsBookOf (counted_up book (last_write seat book.entries) 1) (count_quantum seat s) (after pace (Pay seat quantum))
pay_books book s pace seat quantum paced may some k = by (plan_of (with_forgiven pace seat) seat) refl
  where
    quantum_is : 0 < pace.gears.sizes.quantum
    quantum_is = let fits = paced.within.sizes.quantum in omega arith

    of_bound : (q : Pace) → IsPaced q → slice_index q.quanta seat ≤ work_bound q.gears.sizes (slice_index q.weights seat)
    of_bound q kept = let bound = kept.bound seat in omega (arith, bound)

    by : (plan : Plan) → plan_of (with_forgiven pace seat) seat ≡ plan → IsBookOf (counted_up book (last_write seat book.entries) 1) (count_quantum seat s) (paid_by (plan_of (with_forgiven pace seat) seat) (with_forgiven pace seat) seat quantum)
    by Nothing is = absurd (some is)
    by Snow is = subst (λ plan. IsBookOf (counted_up book (last_write seat book.entries) 1) (count_quantum seat s) (paid_by plan (with_forgiven pace seat) seat quantum)) (sym is)
        (paid_booked pace.gears.sizes book s.quanta s.work pace.work pace.admitted pace.writes pace.weights pace.quanta seat quantum_is paced.quanta may.caller
        (of_bound (paid_by Snow (with_forgiven pace seat) seat quantum) (subst (λ plan. IsPaced (paid_by plan (with_forgiven pace seat) seat quantum)) is (step_keeps pace (Pay seat quantum) paced may))) k)
    by Deep is = subst (λ plan. IsBookOf (counted_up book (last_write seat book.entries) 1) (count_quantum seat s) (paid_by plan (with_forgiven pace seat) seat quantum)) (sym is)
        (paid_booked pace.gears.sizes book s.quanta s.work pace.work pace.admitted pace.writes pace.weights pace.quanta seat quantum_is paced.quanta may.caller
        (of_bound (paid_by Deep (with_forgiven pace seat) seat quantum) (subst (λ plan. IsPaced (paid_by plan (with_forgiven pace seat) seat quantum)) is (step_keeps pace (Pay seat quantum) paced may))) k)

-- the numbers that the book sees, after a turn
turn_books_as : (book : Book) (s : Seats) (pace : Pace) (seat : ℕ) (quantum : Quantum) (move : Move) → IsBooked pace.gears.sizes book s.quanta s.work (pace.work + quanta_of_move move) pace.admitted pace.writes pace.weights pace.quanta
    → IsBookOf book s (turned_by move pace seat quantum)
turn_books_as book s pace seat quantum move h1 = grind (arith, common_steps, nat_tests)

pub turn_books : (book : Book) (s : Seats) (pace : Pace) (seat : ℕ) (quantum : Quantum) (now : WorkSoFar) → seat < callers → length s.work ≡ callers
    → now.quanta ≡ (slice_index_or s.work seat no_work).quanta + quanta_of_turn seat pace → IsBookOf book s pace
    → IsBookOf book (with_turn_of seat (quanta_of_turn seat pace) now s) (after pace (Turn seat quantum))
turn_books book s pace seat quantum now caller places is k =
    turn_books_as book (with_turn_of seat (quanta_of_move (turn_of (is_worker_seat seat) pace)) now s) pace seat quantum (turn_of (is_worker_seat seat) pace)
    (worked_booked pace.gears.sizes book s.quanta s.work pace.work pace.admitted pace.writes pace.weights pace.quanta seat (quanta_of_move (turn_of (is_worker_seat seat) pace)) now caller places is k)

pub help_books : (book : Book) (s : Seats) (pace : Pace) (seat : ℕ) (quantum : Quantum) → callers ≤ seat → seat < seats → IsBookOf book s pace
    → IsBookOf book (record s { quanta = slice_set s.quanta seat (slice_index s.quanta seat + quanta_of_turn seat pace) }) (after pace (Turn seat quantum))
help_books book s pace seat quantum worker there k =
    turn_books_as book (record s { quanta = set s.quanta seat (slice_index s.quanta seat + quanta_of_move (turn_of (is_worker_seat seat) pace)) }) pace seat quantum (turn_of (is_worker_seat seat) pace)
    (helped_booked pace.gears.sizes book s.quanta s.work pace.work pace.admitted pace.writes pace.weights pace.quanta seat (quanta_of_move (turn_of (is_worker_seat seat) pace)) worker there k)

-- the entry of a work has the quanta of its turns
pub end_books : (book : Book) (s : Seats) (pace : Pace) (seat : ℕ) (entry : Entry) → seat < callers → length s.work ≡ callers → is_write entry.op ≡ false → IsBookOf book s pace
    → IsBookOf (counted_up (noted book entry) (length book.entries) (slice_index_or s.work seat no_work).quanta) (record s { work = slice_set s.work seat no_work }) pace
end_books book s pace seat entry caller places is k =
    ended_booked pace.gears.sizes book s.quanta s.work pace.work pace.admitted pace.writes pace.weights pace.quanta seat entry caller places is k
