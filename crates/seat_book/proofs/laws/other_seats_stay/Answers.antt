use Rattle.seat_book.proofs.KeepLemmas.{calls_keep}
use Rattle.seat_book.proofs.laws.other_seats_stay.Goals as goal

pub returns : goal.returns
returns c = calls_keep
