use Rattle.std.proofs.Common.{◌∙◌, ◌*◌, ap, arith}
use Rattle.bloom_bits.specs.BitSet.{cleared}
use Rattle.bloom_bits.proofs.FilterLemmas.{no_keys, front_of_none}
use Rattle.bloom_bits.proofs.filter.Filter.with_bits.Goals as goal

pub returns-clause-none : goal.returns-clause-none
returns-clause-none c = no_keys _ _ 64 (front_of_none 64 (64 * c.words_for-words.result) c.in_ok-reserve.field-0 (omega (arith, c.words_for-words.ensures.some)) c.in_ok-reserve.ensures)

pub returns-clause-cleared : goal.returns-clause-cleared
returns-clause-cleared c =
    front_of_none 64 (64 * c.words_for-words.result) c.in_ok-reserve.field-0 (omega (arith, c.words_for-words.ensures.some)) c.in_ok-reserve.ensures ∙ ap (λ n. cleared n 64) c.words_for-words.ensures.words
