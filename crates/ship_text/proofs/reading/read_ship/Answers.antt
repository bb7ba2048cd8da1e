use Rattle.ship_text.proofs.ReadingLaws.{word_is}
use Rattle.ship_text.proofs.reading.read_ship.Goals as goal

pub returns-then-not-is_ship : goal.returns-then-not-is_ship
returns-then-not-is_ship c = λ x spells.
    let so = c.is_ship.ensures.1 (word_is c.args.bytes.now _ _ x c.cut.ensures.front c.cut.ensures.whole spells) in
    cc
