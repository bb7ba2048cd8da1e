use Rattle.std.proofs.Common.{◌+◌, arith, decimal}
use Rattle.blsm_model.specs.Printed.{command_text}
use Rattle.script_text.proofs.ReadLemmas.{reads_nothing, no_rest, cut_is, decimal_lacks}
use Rattle.script_text.proofs.line.read_line.Goals as goal

pub returns-in_err-rest : goal.returns-in_err-rest
returns-in_err-rest c =
    reads_nothing c.from_residual.ensures
    (λ x spells. no_rest 32 _ _ _ c.cut.ensures.front c.cut.ensures.whole c.in_err-rest.was (decimal (x.seat + 1)) (command_text x.op) spells.spelled)

pub returns-in_err-seat : goal.returns-in_err-seat
returns-in_err-seat c =
    reads_nothing c.from_residual-in_err-seat.ensures
    (λ x spells. let seat = spells.allowed.seat in
    let same = cut_is 32 _ _ _ _ c.cut.ensures.front c.cut.ensures.whole c.in_ok-rest.was (decimal (x.seat + 1)) (command_text x.op) (decimal_lacks 32 (x.seat + 1) (omega arith) (omega arith)) spells.spelled in
    c.in_err-seat.ensures x.seat (same.0, seat))

pub returns-in_err-op : goal.returns-in_err-op
returns-in_err-op c =
    reads_nothing c.from_residual-in_err-op.ensures
    (λ x spells. let seat = spells.allowed.seat in
    let same = cut_is 32 _ _ _ _ c.cut.ensures.front c.cut.ensures.whole c.in_ok-rest.was (decimal (x.seat + 1)) (command_text x.op) (decimal_lacks 32 (x.seat + 1) (omega arith) (omega arith)) spells.spelled in
    c.in_err-op.ensures x.op (same.1, spells.allowed.command))
