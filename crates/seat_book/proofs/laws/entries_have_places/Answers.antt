use Rattle.seat_book.proofs.PlaceLemmas.{write_is_last}
use Rattle.seat_book.proofs.laws.entries_have_places.Goals as goal

pub returns : goal.returns
returns c = write_is_last
