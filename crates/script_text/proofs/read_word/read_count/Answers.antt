use Rattle.std.proofs.Common.{◌≡◌, arith}
use Rattle.script_text.proofs.ReadLemmas.{count_is}
use Rattle.script_text.proofs.read_word.read_count.Goals as goal
use Rattle.script_text.proofs.read_word.read_count.Goals.{then-count-eq0-via-then-count-eq0, then-count-eq0-via-else-count-eq0+then-from-count}

pub returns-then-count-eq0 : goal.returns-then-count-eq0
returns-then-count-eq0 c = λ n spells.
    let same : c.in_ok-count.count ≡ n = count_is c.args.most c.in_ok-count.count n c.args.word.now (omega arith) c.in_ok-count.ensures spells in
    elim c.then-count-eq0.branch [ then-count-eq0-via-then-count-eq0 w ↦ omega (arith, spells.1.0) | then-count-eq0-via-else-count-eq0+then-from-count w ↦ omega (arith, spells.1.1) ]
