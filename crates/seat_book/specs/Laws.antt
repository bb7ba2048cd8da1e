-- What the book keeps.
use Rattle.std.specs.Prelude.{ℕ, ◌≤◌}
use Rattle.blsm_model.specs.Format.{callers}
use Rattle.blsm_model.specs.declared.op.Op.{Op}
use Rattle.blsm_model.specs.declared.history.Why.{Why}
use Rattle.blsm_model.specs.declared.history.Reply.{Reply}
use Rattle.tree_machine.specs.Machine.{Turned}
use Rattle.seat_book.specs.State.{BookState, noted_in, stopped_in, peaked_in, pass_counted_in, deep_counted_in, quantum_counted_in, paid_in, turned_in, helped_in, ended_in, left_in}
use Rattle.seat_book.specs.Seats.{KeepsSeats}

-- ---- the other seats

-- What each call for a seat leaves.
pub record CallsKeep (seat : ℕ) (b : BookState) : Type 0 where
  pub note : (op : Op) (reply : Reply) → KeepsSeats seat 1 0 b (noted_in seat op reply b)
  pub stop : (why : Why) → KeepsSeats seat 0 0 b (stopped_in why b)
  pub peak : (weight : ℕ) → KeepsSeats seat 0 0 b (peaked_in weight b)
  pub pass : KeepsSeats seat 0 0 b (pass_counted_in b)
  pub deep : KeepsSeats seat 0 0 b (deep_counted_in b)
  pub quantum : KeepsSeats seat 0 1 b (quantum_counted_in seat b)
  pub payment : KeepsSeats seat 0 0 b (paid_in seat b)
  pub turn : (ended : Turned) (quanta : ℕ) → KeepsSeats seat 0 0 b (turned_in seat ended quanta b)
  pub worker : callers ≤ seat → KeepsSeats seat 0 0 b (helped_in seat b)
  pub ending : (n : ℕ) → KeepsSeats seat 1 0 b (ended_in seat n b)
  pub leave : KeepsSeats seat 0 0 b (left_in seat b)
