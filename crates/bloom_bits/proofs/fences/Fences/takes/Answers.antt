use Rattle.std.proofs.Common.{◌≡◌, ◌∙◌, ◌+◌, ◌-◌, ◌<◌, IsTrue, length, ap, sym, subst, arith}
use Rattle.std.specs.Ordering.{is_lt}
use Rattle.blsm_model.specs.Keys.{key_cmp}
use Rattle.bloom_bits.specs.Fences.{FencesState, IsAboveAll}
use Rattle.bloom_bits.proofs.FenceLemmas.{above_last}
use Rattle.bloom_bits.proofs.fences.Fences.takes.Goals as goal

pub returns : goal.returns
returns c =
    let items = c.self.inside.fences.items in
    let count = c.len-count.result in
    let long : (count - 1) + 1 ≡ length items = omega (arith, c.if-count-eq0.false, c.len-count.ensures, c.self.inside.fences.ok.0) in
    let last = above_last items c.args.first.now (count - 1) c.index.result.now c.self.invariant.rise long c.index.ensures in
    let test : c.is_lt.result ≡ is_lt (key_cmp c.index.result.now.first c.args.first.now) = c.is_lt.ensures ∙ ap is_lt c.cmp.ensures in
    let room : length items < c.self.inside.reserved = omega (arith, c.if-count-self.false, c.len-count.ensures, c.self.inside.fences.ok.0) in
    subst
    (λ (f : FencesState). (IsTrue c.is_lt.result → (length f.list < f.reserved) × IsAboveAll c.args.first.now f.list) × ((length f.list < f.reserved) × IsAboveAll c.args.first.now f.list → IsTrue c.is_lt.result))
    c.self.view_is (λ holds. (room, last.0 (sym test ∙ holds)), λ both. test ∙ last.1 both.1)
