use Rattle.std.proofs.Common.{◌∙◌, ℕ, ap, sym, subst, refl, arith}
use Rattle.std.specs.Prelude.{slice_set}
use Rattle.std.proofs.lemmas.List.{get_or-set_same}
use Rattle.page_file.specs.Component.{numbers_of, entries_of}
use Rattle.deep_merge.specs.Merge.{IsMerge}
use Rattle.tree_runs.specs.Runs.{GuideState, guide_at, no_guide}
use Rattle.tree_runs.proofs.guides.begin_deep.Goals as goal

pub returns-clause-merge : goal.returns-clause-merge
returns-clause-merge c = λ sizes file space newer older newer_reads newer_apart older_reads older_apart.
    let guides = c.args.guides.now.items in
    let guide : GuideState = record { filter = c.begin.new.filter; fences = c.begin.new.fences } in
    let here = ap (λ (n : ℕ). guide_at (slice_set guides n guide) c.args.role) c.number.ensures.number
    ∙ get_or-set_same guides c.args.role guide no_guide (omega (arith, c.requires.five, c.number.ensures.number, c.number.ensures.in_range)) in
    subst (λ (g : GuideState). IsMerge sizes file space c.begin.result g.filter g.fences (numbers_of newer) (numbers_of older) (entries_of newer) (entries_of older)) (sym here)
    (c.begin.ensures.merge sizes file space (entries_of newer) (entries_of older)
    (record { pages = newer; reads = newer_reads; entries_are = refl }) newer_apart
    (record { pages = older; reads = older_reads; entries_are = refl }) older_apart)
