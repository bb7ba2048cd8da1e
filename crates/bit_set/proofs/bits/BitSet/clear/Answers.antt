use Rattle.std.proofs.Common.{◌≡◌, ◌∙◌, ap, sym, length}
use Rattle.bit_set.specs.Bits.{none_of}
use Rattle.bit_set.proofs.BitLemmas.{length-members, members_none}
use Rattle.bit_set.proofs.bits.BitSet.clear.Goals as goal

pub returns : goal.returns
returns c =
    let long : c.self.inside.places ≡ length c.args.self.now = sym (length-members c.self.inside.places c.self.inside.words.items) ∙ ap length c.self.view_is in
    rw (c.fill.ensures.items (λ y is. is)) (members_none c.self.inside.places c.self.inside.words.len ∙ ap none_of long)
