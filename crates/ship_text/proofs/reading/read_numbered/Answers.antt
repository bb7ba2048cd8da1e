use Rattle.std.proofs.Common.{arith, decimal}
use Rattle.blsm_model.specs.Printed.{command_text}
use Rattle.script_text.proofs.ReadLemmas.{reads_nothing, no_rest, cut_is, decimal_lacks}
use Rattle.ship_text.proofs.reading.read_numbered.Goals as goal

pub returns-in_err-rest : goal.returns-in_err-rest
returns-in_err-rest c =
    reads_nothing c.from_residual.ensures
    (λ x spells. no_rest 32 _ _ _ c.cut.ensures.front c.cut.ensures.whole c.in_err-rest.was (decimal x.n) (command_text x.op) spells.spelled)

pub returns-in_err-n : goal.returns-in_err-n
returns-in_err-n c =
    reads_nothing c.from_residual-in_err-n.ensures
    (λ x spells. let number = spells.is.number in
    let same = cut_is 32 _ _ _ _ c.cut.ensures.front c.cut.ensures.whole c.in_ok-rest.was (decimal x.n) (command_text x.op) (decimal_lacks 32 x.n (omega (arith, number.1)) (omega arith)) spells.spelled in
    c.in_err-n.ensures x.n (same.0, number))

pub returns-in_err-op : goal.returns-in_err-op
returns-in_err-op c =
    reads_nothing c.from_residual-in_err-op.ensures
    (λ x spells. let number = spells.is.number in
    let same = cut_is 32 _ _ _ _ c.cut.ensures.front c.cut.ensures.whole c.in_ok-rest.was (decimal x.n) (command_text x.op) (decimal_lacks 32 x.n (omega (arith, number.1)) (omega arith)) spells.spelled in
    c.in_err-op.ensures x.op (same.1, spells.is.load))
