use Rattle.std.proofs.Common.{arith}
use Rattle.script_text.proofs.SummaryLemmas.{most_more}
use Rattle.script_text.proofs.summary.most_quanta.Goals as goal

pub loop-place-preserved : goal.loop-place-preserved
loop-place-preserved c =
    let more = most_more c.args.annals.now.entries c.args.annals.now.quanta c.loop-place.place (omega arith) (omega arith) in
    cc
