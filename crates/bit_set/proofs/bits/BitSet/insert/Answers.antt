use Rattle.std.proofs.Common.{◌∙◌, ◌<◌, ◌/◌, ap, length, arith}
use Rattle.std.proofs.lemmas.List.{get_or_read}
use Rattle.bit_set.specs.Bits.{with_place}
use Rattle.bit_set.proofs.BitLemmas.{length-members, members_with}
use Rattle.bit_set.proofs.bits.BitSet.insert.Goals as goal
use Rattle.bit_set.proofs.bits.BitSet.insert.Goals.{After-self}

below : (c : After-self) → c.args.place < c.self.inside.places
below c = omega (arith, ap length c.self.view_is, length-members c.self.inside.places c.self.inside.words.items)

pub index_mut-requires : goal.index_mut-requires
index_mut-requires c = omega (arith, below (goal.at.index_mut-requires c).After-self, c.self.inside.words.ok.0)

pub returns : goal.returns
returns c =
    let inside = below (goal.at.returns c).After-self in
    let within : c.args.place / 64 < length c.self.inside.words.items = omega arith in
    let read = get_or_read c.self.inside.words.items (c.args.place / 64) c.index_mut.result.now within c.index_mut.ensures.value 0 in
    rw read (members_with c.self.inside.places c.self.inside.words.items c.args.place c.self.invariant inside ∙ ap (with_place c.args.place) c.self.view_is)
