use Rattle.std.proofs.Common.{◌≡◌, ◌∙◌, ◌-◌, List, ap, map, length, refl, take, drop, arith}
use Rattle.bloom_bits.specs.declared.fences.Fence.{Fence}
use Rattle.bloom_bits.specs.Fences.{FencesState}
use Rattle.bloom_bits.proofs.PartLemmas.{part_named, sliced}
use Rattle.bloom_bits.proofs.fences.Fences.last_of.Goals as goal

pub returns-clause-fences : goal.returns-clause-fences
returns-clause-fences c =
    let list = ap (λ (f : FencesState). f.list) c.self.view_is in
    let from = c.args.run.now.pages - c.args.part.now.pages in
    let many = c.args.part.now.pages in
    sliced c.deref.result.now (take (length c.deref.result.now - c.min-from.result) (drop c.min-from.result c.deref.result.now)) from many
    c.min-from.result c.min.result (omega (arith, c.min-from.ensures, c.len.ensures, c.deref.ensures.len, c.saturating_sub.ensures)) refl c.min.ensures
    ∙ ap (λ (fs : List Fence). take many (drop from fs)) (c.deref.ensures.value ∙ list)

pub returns-clause-numbers : goal.returns-clause-numbers
returns-clause-numbers c = λ sizes before ahead behind next file are reads many.
    ap (map (λ (f : Fence). f.page)) (returns-clause-fences c)
    ∙ part_named sizes c.args.self.now.list c.args.run.now c.args.part.now before ahead behind next file are reads many
