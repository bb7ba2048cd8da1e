use Rattle.std.proofs.Common.{◌++◌, arith, decimal}
use Rattle.blsm_model.specs.Printed.{spelled, and_word}
use Rattle.script_text.proofs.ReadLemmas.{reads_nothing, no_rest, cut_is, decimal_lacks}
use Rattle.script_text.proofs.line.read_number_and_value.Goals as goal

pub returns-in_err-rest : goal.returns-in_err-rest
returns-in_err-rest c =
    reads_nothing c.from_residual.ensures
    (λ x spells. no_rest 32 _ _ _ c.cut.ensures.front c.cut.ensures.whole c.in_err-rest.was (decimal x.0)
    (decimal x.1.count ++ and_word (spelled x.1.text)) spells.0)

pub returns-in_err-count : goal.returns-in_err-count
returns-in_err-count c =
    reads_nothing c.from_residual-in_err-count.ensures
    (λ x spells. let same = cut_is 32 _ _ _ _ c.cut.ensures.front c.cut.ensures.whole c.in_ok-rest.was (decimal x.0)
    (decimal x.1.count ++ and_word (spelled x.1.text)) (decimal_lacks 32 x.0 spells.1.0 (omega arith)) spells.0 in
    c.in_err-count.ensures x.0 (same.0, spells.1.0))

pub returns-in_err-value : goal.returns-in_err-value
returns-in_err-value c =
    reads_nothing c.from_residual-in_err-value.ensures
    (λ x spells. let same = cut_is 32 _ _ _ _ c.cut.ensures.front c.cut.ensures.whole c.in_ok-rest.was (decimal x.0)
    (decimal x.1.count ++ and_word (spelled x.1.text)) (decimal_lacks 32 x.0 spells.1.0 (omega arith)) spells.0 in
    c.in_err-value.ensures x.1 (same.1, (spells.1.1, spells.1.2)))
