use Rattle.std.proofs.Common.{◌≡◌, ◌+◌, arith}
use Rattle.script_text.proofs.ReadLemmas.{seat_is}
use Rattle.script_text.proofs.read_word.read_seat.Goals as goal
use Rattle.script_text.proofs.read_word.read_seat.Goals.{then-caller-eq0-via-then-caller-eq0, then-caller-eq0-via-else-caller-eq0+then-from-caller}

pub returns-then-caller-eq0 : goal.returns-then-caller-eq0
returns-then-caller-eq0 c = λ seat spells.
    let same : c.in_ok-caller.caller ≡ seat + 1 = seat_is c.in_ok-caller.caller seat c.args.word.now c.in_ok-caller.ensures spells in
    elim c.then-caller-eq0.branch [ then-caller-eq0-via-then-caller-eq0 w ↦ omega arith | then-caller-eq0-via-else-caller-eq0+then-from-caller w ↦ omega (arith, spells.1) ]
