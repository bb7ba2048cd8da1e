use Rattle.std.specs.List.{All}
use Rattle.blsm_model.specs.declared.history.Entry.{Entry}
use Rattle.script_text.specs.Generated.{HasMadeKeys}
use Rattle.model_tests.proofs.trials.note_all.Given as goal

abbrev pub invariant-loop-entry : goal.invariant-loop-entry
invariant-loop-entry g l = All (λ (e : Entry). HasMadeKeys e.op) l.annals.entries
