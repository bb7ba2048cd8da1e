-- A core that was just opened rests.
use Rattle.std.specs.Prelude.{◌≡◌, ℕ, ◌+◌, replicate, slice_index}
use Rattle.std.proofs.Common.{◌∙◌, ap, arith}
use Rattle.blsm_model.specs.Book.{Book}
use Rattle.blsm_model.specs.Format.{callers}
use Rattle.gear_sched.specs.Gears.{GearState, first_debt, second_debt}
use Rattle.seat_book.specs.State.{BookState, work_in}
use Rattle.tree_machine.specs.Machine.{no_work}
use Rattle.tree_machine.proofs.PlayLemmas.{of_replicate}
use Rattle.core_moves.specs.declared.held.Held.{Held}
use Rattle.core_pace.specs.Opening.{IsOpened}
use Rattle.tree_session.specs.Lines.{Rests}

none_owed : (seat : ℕ) → slice_index (replicate callers 0) seat ≡ 0
none_owed seat = of_replicate callers seat 0

pub opened_rests : (annals : Book) (faults : ℕ) (held : Held) → IsOpened annals faults held → Rests held
opened_rests annals faults held is = record {
  idle = λ seat. ap (λ (b : BookState). work_in seat b) is.book ∙ of_replicate callers seat no_work;
  even = λ runs seat. ap (λ (g : GearState). first_debt g seat + second_debt g seat) is.gears ∙ omega (arith, none_owed seat);
}
