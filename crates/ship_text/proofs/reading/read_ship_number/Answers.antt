use Rattle.std.proofs.Common.{◌≡◌, arith}
use Rattle.script_text.proofs.ReadLemmas.{count_is}
use Rattle.ship_text.proofs.reading.read_ship_number.Goals as goal
use Rattle.ship_text.proofs.reading.read_ship_number.Goals.{then-number-eq0-via-then-number-eq0, then-number-eq0-via-else-number-eq0+then-number-gt-MAX_NUMBER}

pub returns-then-number-eq0 : goal.returns-then-number-eq0
returns-then-number-eq0 c = λ n spells.
    let same : c.in_ok-number.number ≡ n = count_is 18446744073709551614 c.in_ok-number.number n c.args.word.now (omega arith) c.in_ok-number.ensures spells in
    elim c.then-number-eq0.branch [
      | then-number-eq0-via-then-number-eq0 w ↦ omega (arith, spells.1.0)
      | then-number-eq0-via-else-number-eq0+then-number-gt-MAX_NUMBER w ↦ omega (arith, spells.1.1)
    ]
