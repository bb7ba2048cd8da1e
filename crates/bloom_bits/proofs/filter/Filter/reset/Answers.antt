use Rattle.std.proofs.Common.{◌≡◌, ◌∙◌, ◌*◌, ◌≤◌, false, ap, length, arith}
use Rattle.std.proofs.lemmas.List.{length-replicate}
use Rattle.bloom_bits.specs.BitSet.{BitState, cleared, front_of}
use Rattle.bloom_bits.specs.Filter.{rounded}
use Rattle.bloom_bits.proofs.FilterLemmas.{no_keys, front_of_cleared}
use Rattle.bloom_bits.proofs.filter.Filter.reset.Goals as goal
use Rattle.bloom_bits.proofs.filter.Filter.reset.Goals.{After-words_for-size, After-clear_below}

within : (c : After-words_for-size) → 64 * c.words_for-size.result ≤ length c.self.inside.bits
within c = omega (arith, c.words_for-size.ensures.words, c.requires, ap (λ (s : BitState). s.reserved) c.self.view_is)

pub clear_below-requires-clause-inside : goal.clear_below-requires-clause-inside
clear_below-requires-clause-inside c = within (goal.at.clear_below-requires-clause-inside c).After-words_for-size

is_cleared : (c : After-clear_below) → 64 * c.words_for-size.result ≤ length c.self.inside.bits → front_of (64 * c.words_for-size.result)
    c.clear_below.new.self ≡ cleared c.args.self.now.reserved (rounded c.args.bits)
is_cleared c inside =
    front_of_cleared (64 * c.words_for-size.result) c.self.inside.bits c.clear_below.new.self inside c.clear_below.ensures
    ∙ ap (λ n. cleared n (64 * c.words_for-size.result)) (ap (λ (s : BitState). s.reserved) c.self.view_is) ∙ ap (cleared c.args.self.now.reserved)
    c.words_for-size.ensures.words

pub returns-clause-cleared : goal.returns-clause-cleared
returns-clause-cleared c = is_cleared (goal.at.returns-clause-cleared c).After-clear_below
    (within (goal.at.returns-clause-cleared c).After-words_for-size)

pub returns-clause-none : goal.returns-clause-none
returns-clause-none c = no_keys _ _ _ (is_cleared (goal.at.returns-clause-none c).After-clear_below
    (within (goal.at.returns-clause-none c).After-words_for-size))

pub returns-clause-bits : goal.returns-clause-bits
returns-clause-bits c = ap (λ (s : BitState). length s.bits) (is_cleared (goal.at.returns-clause-bits c).After-clear_below
    (within (goal.at.returns-clause-bits c).After-words_for-size)) ∙ length-replicate (rounded c.args.bits) false
