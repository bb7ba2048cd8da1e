use Rattle.std.proofs.Common.{rules}
use Rattle.ship_text.specs.Reading.{IfBad, IsBadShip}
use Rattle.ship_text.proofs.ReadingLaws.{only_bad, only_ships}
use Rattle.ship_text.proofs.reading.read_ships.Goals as goal

pub returns-in_err-lines-clause-only_bad : goal.returns-in_err-lines-clause-only_bad
returns-in_err-lines-clause-only_bad c =
    let bad : IfBad c.from_residual.result (IsBadShip c.args.text.now) = search rules in
    only_bad c.args.text.now c.from_residual.result bad

pub returns-clause-only_ships : goal.returns-clause-only_ships
returns-clause-only_ships c = only_ships c.args.text.now c.in_ok-lines.lines.items c.in_ok-lines.ensures.ships
