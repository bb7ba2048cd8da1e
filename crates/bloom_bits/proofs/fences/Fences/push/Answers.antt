use Rattle.std.proofs.Common.{◌<◌, length, sym, subst}
use Rattle.bloom_bits.specs.Fences.{FencesState, IsAboveAll}
use Rattle.bloom_bits.proofs.FenceLemmas.{fences_pushed}
use Rattle.bloom_bits.proofs.fences.Fences.push.Goals as goal

pub invariant_of-self : goal.invariant_of-self
invariant_of-self c =
    let room : length c.self.inside.fences.items < c.self.inside.reserved = subst (λ (f : FencesState). length f.list < f.reserved) (sym c.self.view_is) c.requires.room in
    let above : IsAboveAll c.args.fence.first c.self.inside.fences.items = subst (λ (f : FencesState). IsAboveAll c.args.fence.first f.list) (sym c.self.view_is) c.requires.above in
    rw c.push_reserved.ensures.items
    (fences_pushed c.self.inside.fences.items c.self.inside.reserved c.self.inside.fences.cap c.push_reserved.new.self.cap c.args.fence c.self.invariant room above c.push_reserved.ensures.capacity)
