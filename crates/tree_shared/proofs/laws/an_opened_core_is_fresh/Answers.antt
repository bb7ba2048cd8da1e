use Rattle.std.proofs.Common.{◌∙◌, ap, sym, subst}
use Rattle.std.specs.Prelude.{◌-◌, slice_index}
use Rattle.blsm_model.specs.declared.room.Room.{Room}
use Rattle.blsm_model.specs.Format.{callers}
use Rattle.seat_book.specs.State.{BookState}
use Rattle.tree_machine.specs.Machine.{seats}
use Rattle.tree_machine.proofs.PlayLemmas.{of_replicate}
use Rattle.tree_session.specs.Lines.{HasRoomFor}
use Rattle.tree_session.proofs.RestLemmas.{opened_rests}
use Rattle.tree_shared.proofs.laws.an_opened_core_is_fresh.Goals as goal

pub returns : goal.returns
returns g c annals faults lines core is room = record {
  none = ap (λ (b : BookState). b.book.entries) is.book ∙ is.entries;
  runs = ap (λ (b : BookState). b.stopped) is.book;
  rests = opened_rests annals faults core.held is;
  helped = λ seat above below. ap (λ (b : BookState). slice_index b.seats.turns (seat - callers)) is.book ∙ of_replicate (seats - callers) (seat - callers) 0;
  took_none = λ seat. ap (λ (b : BookState). slice_index b.seats.quanta seat) is.book ∙ of_replicate seats seat 0;
  room = subst (λ (r : Room). HasRoomFor r lines) (sym (ap (λ (b : BookState). b.book.room) is.book)) room;
}
