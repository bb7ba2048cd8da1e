use Rattle.std.proofs.Common.{take}
use Rattle.blsm_model.specs.Histories.{counted_writes}
use Rattle.script_text.specs.Summary.{Tells}
use Rattle.script_text.proofs.summary.count_keys.Given as goal

abbrev pub invariant-loop-place : goal.invariant-loop-place
invariant-loop-place l = Tells l.flags (counted_writes (take l.place l.annals.entries))
