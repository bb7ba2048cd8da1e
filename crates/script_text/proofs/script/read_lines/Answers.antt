use Rattle.std.proofs.Common.{length, inl, inr, sym, arith, ◌∙◌}
use Rattle.std.proofs.lemmas.List.Elements.{All-push}
use Rattle.std.proofs.lemmas.List.Sums.{sum_by_push}
use Rattle.blsm_model.specs.declared.history.Line.{Line}
use Rattle.script_text.specs.Grammar.{IsAllowed, line_text}
use Rattle.script_text.proofs.ScriptLemmas.{so_far_whole, so_far_more, bad_line, not_empty}
use Rattle.script_text.proofs.script.read_lines.Goals as goal
use Rattle.blsm_model.specs.Scripts.{rows_of}

pub returns-in-None-clause-bad : goal.returns-in-None-clause-bad
returns-in-None-clause-bad c =
    let some = not_empty (length c.loop-rest.rest.now) (sym c.is_empty.ensures ∙ c.loop-rest-test.true) in
    let so_far = c.loop-rest.invariant in
    bad_line _ _ _ _ _ _ so_far.so_far some c.cut.ensures.front c.cut.ensures.whole so_far.allowed so_far.few (omega arith) (omega arith) (inl c.in-None.ensures)

pub returns-then-asked-gt-MOST_ROWS_ASKED-clause-bad : goal.returns-then-asked-gt-MOST_ROWS_ASKED-clause-bad
returns-then-asked-gt-MOST_ROWS_ASKED-clause-bad c =
    let some = not_empty (length c.loop-rest.rest.now) (sym c.is_empty.ensures ∙ c.loop-rest-test.true) in
    let so_far = c.loop-rest.invariant in
    bad_line _ _ _ _ _ _ so_far.so_far some c.cut.ensures.front c.cut.ensures.whole so_far.allowed so_far.few (omega arith) (omega arith)
    (inr (inr (record { line = c.in-Some.line; is = c.in-Some.ensures; past = omega arith })))

pub loop-rest-preserved : goal.loop-rest-preserved
loop-rest-preserved c =
    let some = not_empty (length c.loop-rest.rest.now) (sym c.is_empty.ensures ∙ c.loop-rest-test.true) in
    let pushed = c.in_ok-push.ensures.items in
    record {
      allowed = rw pushed (All-push IsAllowed c.loop-rest.lines.items c.in-Some.line c.loop-rest.invariant.allowed c.in-Some.ensures.allowed);
      few = omega arith;
      few_asked = omega arith;
      asked = rw pushed (omega (arith, sum_by_push (λ (l : Line). rows_of l.op) c.loop-rest.lines.items c.in-Some.line));
      so_far = rw (pushed, c.remainder-rest.ensures) (so_far_more line_text c.args.text.now c.loop-rest.lines.items c.loop-rest.rest.now _ _ c.in-Some.line (so_far_whole line_text _ _ _ c.loop-rest.invariant.so_far some) c.cut.ensures.whole c.in-Some.ensures.spelled);
    }
