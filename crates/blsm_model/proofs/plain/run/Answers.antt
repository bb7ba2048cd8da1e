use Rattle.std.proofs.Common.{refl, ap, [], ◌∙◌, arith}
use Rattle.std.proofs.lemmas.List.{take_all}
use Rattle.blsm_model.proofs.PlainLemmas.{limit_kept, charge_kept, answered, answered_push}
use Rattle.blsm_model.specs.Scripts.{asked}
use Rattle.blsm_model.proofs.ScriptLemmas.{of_script, asked_more}
use Rattle.blsm_model.proofs.plain.run.Goals as goal

pub loop-line-preserved : goal.loop-line-preserved
loop-line-preserved c = record {
  stands = rw (c.in_ok-push.ensures.items, c.copy.ensures)
      (c.in_ok-reply.ensures.stands [] 0 c.loop-line.history.items c.line-item.result.seat c.loop-line.invariant.stands);
  limit = limit_kept c.loop-line.plain c.answer.new.self c.line-item.result.op c.in_ok-reply.reply c.in_ok-reply.ensures.ok ∙ c.loop-line.invariant.limit;
  fits = charge_kept c.loop-line.plain c.answer.new.self c.line-item.result.op c.in_ok-reply.reply c.in_ok-reply.ensures.ok c.loop-line.invariant.fits;
  answered = rw c.in_ok-push.ensures.items
      (answered_push c.loop-line.history.items _ c.loop-line.invariant.answered (answered c.loop-line.plain c.answer.new.self c.line-item.result.op c.in_ok-reply.reply c.in_ok-reply.ensures.ok));
  lines = rw c.in_ok-push.ensures.items
      (asked_more c.args.script.now c.loop-line.history.items c.loop-line.line-index c.line-item.result _ (omega arith) c.line-item.is refl c.copy.ensures
      c.loop-line.invariant.lines);
}

pub returns-clause-in_order : goal.returns-clause-in_order
returns-clause-in_order c = c.loop-line.invariant.lines ∙ ap asked (take_all c.loop-line.line-index c.args.script.now c.loop-line-test.false)

pub returns-clause-script : goal.returns-clause-script
returns-clause-script c = of_script c.args.script.now c.loop-line.history.items
    (c.loop-line.invariant.lines ∙ ap asked (take_all c.loop-line.line-index c.args.script.now c.loop-line-test.false))
