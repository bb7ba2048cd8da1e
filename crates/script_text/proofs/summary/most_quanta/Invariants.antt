use Rattle.std.proofs.Common.{◌≡◌, take}
use Rattle.script_text.specs.Summary.{most_quanta}
use Rattle.script_text.proofs.summary.most_quanta.Given as goal

abbrev pub invariant-loop-place : goal.invariant-loop-place
invariant-loop-place l = l.most ≡ most_quanta (take l.place l.annals.entries) (take l.place l.annals.quanta)
