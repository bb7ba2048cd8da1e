-- The machine's words on its book.
use Rattle.std.proofs.Common.{◌≡◌, ℕ, ◌≤◌, not, ◌&&◌, Option, Some, None, refl, IsTrue, length, arith}
use Rattle.std.proofs.lemmas.Grind.{common_steps}
use Rattle.std.proofs.lemmas.Bool.Decides.{nat_tests}
use Rattle.std.specs.Prelude.{◌==◌, nat_lt, nat_le, slice_index}
use Rattle.std.proofs.lemmas.Bool.{ltb-true, leb-true}
use Rattle.blsm_model.specs.Format.{callers}
use Rattle.blsm_model.specs.Book.{HasRoom, rows_given}
use Rattle.blsm_model.specs.declared.op.Op.{Op}
use Rattle.blsm_model.specs.declared.history.Why.{Why}
use Rattle.blsm_model.specs.declared.history.Reply.{Reply}
use Rattle.record_delta.specs.Entries.{entries_weight}
use Rattle.tree_machine.specs.Lists.{memory_weight}
use Rattle.tree_machine.specs.Machine.{Machine, pass_done, deep_done, is_caller}
use Rattle.tree_machine.specs.Steps.{Outcome, Choice, choice, chosen, deep_swapped, ready_for, do_turn, work_turning, work_turn}
use Rattle.tree_machine.specs.Plays.{has_room}
use Rattle.tree_machine.proofs.FoldLemmas.{both_hold}
use Rattle.seat_book.specs.State.{BookState, book_of, work_in, may_note_in, pass_counted_in, deep_counted_in, turned_in}
use Rattle.seat_book.proofs.Terms.{MovesBook, StepsBook, Runs, chosen_in, counted_if}

-- ---- moves

turn_is : (seat : ℕ) (m : Machine) (c : Choice) → Runs c m → book_of (chosen c seat m) ≡ chosen_in c seat (book_of m)
turn_is seat m c h1 = grind (arith, common_steps, nat_tests)

deep_is : (m : Machine) → book_of (deep_swapped m) ≡ counted_if (deep_done m) deep_counted_in (book_of m)
deep_is m = grind (arith, common_steps, nat_tests)

ready_is : (m : Machine) (weight : ℕ) → book_of (ready_for weight m) ≡ counted_if (pass_done (deep_swapped m)) pass_counted_in (book_of (deep_swapped m))
ready_is m weight = grind (arith, common_steps, nat_tests)

pub moves_book : (m : Machine) → MovesBook m
moves_book m = record {
  note = λ seat op reply. refl;
  stop = λ why. refl;
  peak = refl;
  payment = λ seat. refl;
  turn = λ seat c runs. turn_is seat m c runs;
  deep = deep_is m;
  ready = λ weight. ready_is m weight;
  write = λ seat write. refl;
  forgive = λ seat. refl;
  hold = λ seat rows. refl;
}

-- ---- steps

turn_works : (c : Choice) (outcome : Outcome) (seat : ℕ) (m : Machine) → (do_turn c outcome seat m).state.seats.work ≡ m.seats.work
turn_works c outcome seat m = grind (arith, common_steps, nat_tests)

turning_works : (stopped : Option Why) (m : Machine) (seat : ℕ) (outcome : Outcome) → (work_turning stopped m seat outcome).state.seats.work ≡ m.seats.work
turning_works (Some why) m seat outcome = refl
turning_works None m seat outcome = turn_works (choice (not (memory_weight m.lists == 0)) (not (entries_weight m.lists.c1 == 0)) m) outcome seat m

work_turned : (m : Machine) (seat : ℕ) (outcome : Outcome) → book_of (work_turn m seat outcome).state
    ≡ turned_in seat (work_turning m.stopped m seat outcome).ended (work_turning m.stopped m seat outcome).quanta (book_of (work_turning m.stopped m seat outcome).state)
work_turned m seat outcome = grind (arith, common_steps, nat_tests, turning_works)

pub steps_book : (m : Machine) → StepsBook m
steps_book m = record {
  turn = λ seat outcome. work_turned m seat outcome;
  worker = λ seat outcome. refl;
  ending = λ seat n. refl;
  leave = λ seat. refl;
}

-- ---- room

-- a seat that may note an entry has room for it
pub note_has_room : (b : BookState) (seat rows : ℕ) (op : Op) (reply : Reply) → IsTrue (may_note_in seat rows b) → length (rows_given reply) ≤ rows
    → HasRoom b.book.room (record { seat = seat; op = op; reply = reply })
note_has_room b seat rows op reply may fits =
    let room = both_hold (is_caller seat && has_room b.book.room seat rows) ((work_in seat b).turns == 0) may in
    let caller = both_hold (is_caller seat) (has_room b.book.room seat rows) room.0 in
    let each = both_hold (nat_lt 0 (slice_index b.book.room.entries seat)) (nat_le rows (slice_index b.book.room.rows seat)) caller.1 in
    let few : rows ≤ slice_index b.book.room.rows seat = leb-true rows (slice_index b.book.room.rows seat) each.1 in
    record {
      seat = ltb-true seat callers caller.0;
      entries = ltb-true 0 (slice_index b.book.room.entries seat) each.0;
      rows = omega (arith, fits, few);
    }
