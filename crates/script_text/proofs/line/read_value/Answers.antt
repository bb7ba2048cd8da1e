use Rattle.std.proofs.Common.{arith, decimal}
use Rattle.blsm_model.specs.Printed.{spelled}
use Rattle.script_text.proofs.ReadLemmas.{reads_nothing, no_rest, cut_is, decimal_lacks}
use Rattle.script_text.proofs.line.read_value.Goals as goal

pub returns-in_err-text : goal.returns-in_err-text
returns-in_err-text c =
    reads_nothing c.from_residual.ensures (λ x spells. no_rest 32 _ _ _ c.cut.ensures.front c.cut.ensures.whole c.in_err-text.was (decimal x.count) (spelled x.text) spells.0)

pub returns-in_err-count : goal.returns-in_err-count
returns-in_err-count c =
    reads_nothing c.from_residual-in_err-count.ensures
    (λ x spells. let same = cut_is 32 _ _ _ _ c.cut.ensures.front c.cut.ensures.whole c.in_ok-text.was (decimal x.count) (spelled x.text) (decimal_lacks 32 x.count spells.1.0 (omega arith)) spells.0 in
    c.in_err-count.ensures x.count (same.0, spells.1.0))

pub returns-in_err-text-2 : goal.returns-in_err-text-2
returns-in_err-text-2 c =
    reads_nothing c.from_residual-in_err-text-2.ensures
    (λ x spells. let same = cut_is 32 _ _ _ _ c.cut.ensures.front c.cut.ensures.whole c.in_ok-text.was (decimal x.count) (spelled x.text) (decimal_lacks 32 x.count spells.1.0 (omega arith)) spells.0 in
    c.in_err-text-2.ensures x.text (same.1, spells.1.1))
