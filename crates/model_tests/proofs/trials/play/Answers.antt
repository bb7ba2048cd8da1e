use Rattle.std.proofs.Common.{◌≡◌, ◌∙◌, List, Ok, subst, sym}
use Rattle.std.specs.Prelude.{Result, IfOk}
use Rattle.std.specs.List.{All}
use Rattle.blsm_model.specs.declared.history.Entry.{Entry}
use Rattle.blsm_model.specs.declared.history.Line.{Line}
use Rattle.blsm_model.specs.Scripts.{IsOfScript}
use Rattle.script_text.specs.Generated.{HasMadeKeys, generated}
use Rattle.model_tests.proofs.trials.play.Goals as goal

-- what is said of an answer that is there
of_ok : {T E : Type 0} (P : T → Type 0) (r : Result T E) (value : T) → r ≡ Ok value → IfOk r P → P value
of_ok {T} {E} P r value is said = subst (λ (one : Result T E). IfOk one P) is said

pub note_all-requires-clause-history : goal.note_all-requires-clause-history
note_all-requires-clause-history g c =
    let history = c.expect-history.result.items in
    let made : c.lines-lines.result.now ≡ generated c.args.seed c.args.count = c.lines-lines.ensures.lines ∙ of_ok _ c.generate.result c.expect-script.result c.expect-script.ensures c.generate.ensures in
    let of_lines : IsOfScript c.lines-lines.result.now history = of_ok _ c.run.result c.expect-history.result c.expect-history.ensures c.run.ensures.script in
    let of_script = subst (λ (lines : List Line). IsOfScript lines history) made of_lines in
    subst (λ (es : List Entry). All (λ (e : Entry). HasMadeKeys e.op) es) (sym c.deref.ensures.value) (c.made_histories.ensures c.args.seed c.args.count history of_script)
