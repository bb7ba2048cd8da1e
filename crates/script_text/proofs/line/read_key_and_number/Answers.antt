use Rattle.std.proofs.Common.{arith, decimal}
use Rattle.script_text.proofs.ReadLemmas.{reads_nothing, no_rest, cut_is, visible_lacks}
use Rattle.script_text.proofs.line.read_key_and_number.Goals as goal

pub returns-in_err-rest : goal.returns-in_err-rest
returns-in_err-rest c =
    reads_nothing c.from_residual.ensures
    (λ x spells. no_rest 32 _ _ _ c.cut.ensures.front c.cut.ensures.whole c.in_err-rest.was x.0 (decimal x.1) spells.0)

pub returns-in_err-key : goal.returns-in_err-key
returns-in_err-key c =
    reads_nothing c.from_residual-in_err-key.ensures
    (λ x spells. let same = cut_is 32 _ _ _ _ c.cut.ensures.front c.cut.ensures.whole c.in_ok-rest.was x.0 (decimal x.1) (visible_lacks 32 x.0 (omega arith) spells.1.0.visible) spells.0 in
    c.in_err-key.ensures x.0 (same.0, spells.1.0))

pub returns-in_err-count : goal.returns-in_err-count
returns-in_err-count c =
    reads_nothing c.from_residual-in_err-count.ensures
    (λ x spells. let same = cut_is 32 _ _ _ _ c.cut.ensures.front c.cut.ensures.whole c.in_ok-rest.was x.0 (decimal x.1) (visible_lacks 32 x.0 (omega arith) spells.1.0.visible) spells.0 in
    c.in_err-count.ensures x.1 (same.1, spells.1.1))
