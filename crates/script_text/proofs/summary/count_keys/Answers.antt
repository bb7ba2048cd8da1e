use Rattle.std.proofs.Common.{◌<◌, length, arith}
use Rattle.script_text.proofs.PresentLemmas.{tells_none}
use Rattle.script_text.proofs.SummaryLemmas.{counted_more}
use Rattle.script_text.proofs.summary.count_keys.Goals as goal

pub loop-place-init : goal.loop-place-init
loop-place-init c = tells_none

pub loop-place-preserved : goal.loop-place-preserved
loop-place-preserved c =
    let within : c.loop-place.place < length c.args.annals.now.entries = omega arith in
    rw (counted_more c.args.annals.now.entries c.loop-place.place within) (c.note_entry.ensures _ c.loop-place.invariant)
