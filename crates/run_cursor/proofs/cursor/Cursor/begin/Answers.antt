use Rattle.std.proofs.Common.{ap, refl, arith}
use Rattle.blsm_model.specs.declared.component.Component.{Component}
use Rattle.run_cursor.proofs.CursorLemmas.{bare_cursor}
use Rattle.run_cursor.proofs.cursor.Cursor.begin.Goals as goal

pub invariant_of-result : goal.invariant_of-result
invariant_of-result c = (
  omega arith,
  omega arith,
  bare_cursor _ _ _ _ _ _ refl
      (λ none. (ap (λ (r : Component). r.entries) (c.requires none), ap (λ (r : Component). r.weight) (c.requires none))),
)
