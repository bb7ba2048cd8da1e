use Rattle.std.proofs.Common.{◌≡◌, sym, subst, List, ℕ}
use Rattle.bit_set.specs.Bits.{members, none_of}
use Rattle.bit_set.proofs.BitLemmas.{members_none}
use Rattle.bit_set.proofs.bits.BitSet.reserve.Goals as goal

pub returns : goal.returns
returns c =
    let all_zero = c.in_ok-words.ensures.items_if_clones_equal (λ y is. is) in
    subst (λ (words : List ℕ). members c.args.places words ≡ none_of c.args.places) (sym all_zero) (members_none c.args.places c.div_ceil.result)
