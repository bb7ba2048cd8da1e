use Rattle.std.proofs.Common.{◌≡◌, ◌∙◌, ◌++◌, ℕ, ◌∷◌, List, append_assoc, arith, decimal}
use Rattle.blsm_model.specs.declared.row.Value.{Value}
use Rattle.blsm_model.specs.Printed.{and_number, and_value}
use Rattle.script_text.proofs.ReadLemmas.{reads_nothing, no_rest, cut_is, visible_lacks}
use Rattle.script_text.proofs.line.read_key_number_and_value.Goals as goal

-- the key, and what stands behind its space
behind : (bytes key : List ℕ) (count : ℕ) (value : Value) → bytes ≡ key ++ and_number count ++ and_value value → bytes ≡ key ++ 32 ∷
    (decimal count ++ and_value value)
behind bytes key count value is = is ∙ append_assoc key (and_number count) (and_value value)

pub returns-in_err-rest : goal.returns-in_err-rest
returns-in_err-rest c =
    reads_nothing c.from_residual.ensures
    (λ x spells. no_rest 32 _ _ _ c.cut.ensures.front c.cut.ensures.whole c.in_err-rest.was x.0 (decimal x.1 ++ and_value x.2)
    (behind _ x.0 x.1 x.2 spells.0))

pub returns-in_err-key : goal.returns-in_err-key
returns-in_err-key c =
    reads_nothing c.from_residual-in_err-key.ensures
    (λ x spells. let same = cut_is 32 _ _ _ _ c.cut.ensures.front c.cut.ensures.whole c.in_ok-rest.was x.0 (decimal x.1 ++ and_value x.2)
    (visible_lacks 32 x.0 (omega arith) spells.1.0.visible) (behind _ x.0 x.1 x.2 spells.0) in
    c.in_err-key.ensures x.0 (same.0, spells.1.0))

pub returns-in_err-count : goal.returns-in_err-count
returns-in_err-count c =
    reads_nothing c.from_residual-in_err-count.ensures
    (λ x spells. let same = cut_is 32 _ _ _ _ c.cut.ensures.front c.cut.ensures.whole c.in_ok-rest.was x.0 (decimal x.1 ++ and_value x.2)
    (visible_lacks 32 x.0 (omega arith) spells.1.0.visible) (behind _ x.0 x.1 x.2 spells.0) in
    c.in_err-count.ensures (x.1, x.2) (same.1, (spells.1.1, spells.1.2, spells.1.3)))
