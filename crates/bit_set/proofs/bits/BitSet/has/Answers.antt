use Rattle.std.proofs.Common.{◌≡◌, ◌∙◌, ◌<◌, ◌/◌, ◌%◌, ◌^◌, nat_eq, bit_and, get_or, false, ap, sym, length, arith}
use Rattle.std.proofs.lemmas.List.{get_or_read}
use Rattle.bit_set.specs.Bits.{Members}
use Rattle.bit_set.proofs.BitLemmas.{tested, length-members, get_or-members}
use Rattle.bit_set.proofs.bits.BitSet.has.Goals as goal
use Rattle.bit_set.proofs.bits.BitSet.has.Goals.{After-self}

below : (c : After-self) → c.args.place < c.self.inside.places
below c = omega (arith, ap length c.self.view_is, length-members c.self.inside.places c.self.inside.words.items)

pub index-requires : goal.index-requires
index-requires c = omega (arith, below (goal.at.index-requires c).After-self, c.self.inside.words.ok.0)

pub returns : goal.returns
returns c =
    let inside = below (goal.at.returns c).After-self in
    let within : c.args.place / 64 < length c.self.inside.words.items = omega arith in
    let read = get_or_read c.self.inside.words.items (c.args.place / 64) c.index.result.now within c.index.ensures 0 in
    let is : nat_eq (bit_and (c.index.result.now / 2 ^ (c.args.place % 64)) 1) 1 ≡ get_or c.args.self.now c.args.place false =
    ap (λ word. nat_eq (bit_and (word / 2 ^ (c.args.place % 64)) 1) 1) read
    ∙ tested (get_or c.self.inside.words.items (c.args.place / 64) 0) (c.args.place % 64)
    ∙ sym (get_or-members c.self.inside.places c.self.inside.words.items c.args.place inside)
    ∙ ap (λ (set : Members). get_or set c.args.place false) c.self.view_is in
    (λ yes. sym is ∙ yes, λ yes. is ∙ yes)
