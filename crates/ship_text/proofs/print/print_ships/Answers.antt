use Rattle.ship_text.proofs.ShipLemmas.{ships_there}
use Rattle.ship_text.proofs.print.print_ships.Goals as goal

pub returns : goal.returns
returns g c = rw (ships_there c.args.first c.args.annals.now.entries c.if-first-eq0.false) c.print_all.ensures
