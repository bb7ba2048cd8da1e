-- What only lemmas say: no clause names these.
use Rattle.std.specs.Prelude.{◌≢◌, ℕ, ◌≤◌, ◌≡◌, Bool, ◌&&◌, ⊤, List, Option, IsTrue, is_some, if◌then◌else◌}
use Rattle.seat_book.specs.Seats.{Beside}
use Rattle.blsm_model.specs.declared.row.Row.{Row}
use Rattle.blsm_model.specs.declared.op.Op.{Op}
use Rattle.blsm_model.specs.declared.op.Write.{Write}
use Rattle.blsm_model.specs.declared.history.Why.{Why}
use Rattle.blsm_model.specs.declared.history.Reply.{Reply}
use Rattle.tree_machine.specs.declared.step.Kind.TheVariants as kind
use Rattle.tree_machine.specs.Lists.{memory_weight}
use Rattle.tree_machine.specs.Machine.{Machine, pass_done, deep_done, is_closed}
use Rattle.tree_machine.specs.Moves.{take_writes, with_peak, note, stop}
use Rattle.tree_machine.specs.Steps.{Outcome, Choice, SwapDeep, SwapPass, DeepQuantum, PassQuantum, chosen, count_for_write, deep_swapped, forgive, holding, leave, ready_for, work_end, work_turn, work_turning, worker_turn, worker_turning}
use Rattle.seat_book.specs.State.{BookState, book_of, noted_in, stopped_in, peaked_in, pass_counted_in, deep_counted_in, quantum_counted_in, paid_in, turned_in, helped_in, ended_in, left_in}

-- the debts of the other seats didn't rise
pub record LeavesBeside (seat : ℕ) (old new : Beside) : Type 0 where
  pub first : (other : ℕ) → other ≢ seat → new.first other ≤ old.first other
  pub second : (other : ℕ) → other ≢ seat → new.second other ≤ old.second other

-- what a turn does to the book
abbrev pub chosen_in : Choice → ℕ → BookState → BookState
chosen_in SwapDeep seat b = deep_counted_in b
chosen_in SwapPass seat b = pass_counted_in b
chosen_in DeepQuantum seat b = quantum_counted_in seat b
chosen_in PassQuantum seat b = quantum_counted_in seat b
chosen_in _ seat b = b

-- the merge that a quantum is chosen of runs
abbrev pub Runs : Choice → Machine → Type 0
Runs DeepQuantum m = IsTrue (is_some m.merges.deep)
Runs PassQuantum m = IsTrue (is_some m.merges.pass)
Runs _ m = ⊤

abbrev pub counted_if : Bool → (BookState → BookState) → BookState → BookState
counted_if done counted b = if done then counted b else b

-- What a step is made of does this to the book; what isn't named here leaves it as it is.
pub record MovesBook (m : Machine) : Type 0 where
  pub note : (seat : ℕ) (op : Op) (reply : Reply) → book_of (note seat op reply m) ≡ noted_in seat op reply (book_of m)
  pub stop : (why : Why) → book_of (stop why m) ≡ stopped_in why (book_of m)
  pub peak : book_of (with_peak m) ≡ peaked_in (memory_weight m.lists) (book_of m)
  pub payment : (seat : ℕ) → book_of (count_for_write seat m) ≡ paid_in seat (book_of m)
  pub turn : (seat : ℕ) (c : Choice) → Runs c m → book_of (chosen c seat m) ≡ chosen_in c seat (book_of m)
  pub deep : book_of (deep_swapped m) ≡ counted_if (deep_done m) deep_counted_in (book_of m)
  pub ready : (weight : ℕ) → book_of (ready_for weight m) ≡ counted_if (pass_done (deep_swapped m)) pass_counted_in (book_of (deep_swapped m))
  pub write : (seat : ℕ) (writes : List Write) → book_of (take_writes seat writes m) ≡ book_of m
  pub forgive : (seat : ℕ) → book_of (forgive seat m) ≡ book_of m
  pub hold : (seat : ℕ) (rows : Option (List Row)) → book_of (holding seat rows m) ≡ book_of m

-- A step of work, and a caller that leaves.
pub record StepsBook (m : Machine) : Type 0 where
  pub turn : (seat : ℕ) (outcome : Outcome)
      → book_of (work_turn m seat outcome).state ≡ turned_in seat (work_turning m.stopped m seat outcome).ended (work_turning m.stopped m seat outcome).quanta (book_of (work_turning m.stopped m seat outcome).state)
  pub worker : (seat : ℕ) (outcome : Outcome) → book_of (worker_turn m seat outcome).state ≡ helped_in seat (book_of (worker_turning m.stopped (is_closed m) m seat outcome).state)
  pub ending : (seat n : ℕ) → book_of (work_end m seat n).state ≡ ended_in seat n (book_of m)
  pub leave : (seat : ℕ) → book_of (leave m seat).state ≡ left_in seat (book_of m)
