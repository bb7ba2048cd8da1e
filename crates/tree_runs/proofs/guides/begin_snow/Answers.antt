use Rattle.std.proofs.Common.{◌∙◌, ℕ, ap, sym, subst, refl, arith}
use Rattle.std.specs.Prelude.{slice_set}
use Rattle.std.proofs.lemmas.List.{get_or-set_same}
use Rattle.page_file.specs.Component.{numbers_of, entries_of}
use Rattle.snow_merge.specs.Pass.{IsPass}
use Rattle.tree_runs.specs.Runs.{GuideState, guide_at, no_guide}
use Rattle.tree_runs.proofs.guides.begin_snow.Goals as goal

pub returns-clause-pass : goal.returns-clause-pass
returns-clause-pass c = λ sizes file space a pages sorted reads apart.
    let guides = c.args.guides.now.items in
    let guide : GuideState = record { filter = c.begin.new.filter; fences = c.begin.new.fences } in
    let here = ap (λ (n : ℕ). guide_at (slice_set guides n guide) c.args.role) c.number.ensures.number
    ∙ get_or-set_same guides c.args.role guide no_guide (omega (arith, c.requires.five, c.number.ensures.number, c.number.ensures.in_range)) in
    subst (λ (g : GuideState). IsPass sizes file space c.begin.result g.filter g.fences (numbers_of pages) a (entries_of pages)) (sym here)
    (c.begin.ensures.pass sizes file space a (entries_of pages) sorted (record { pages = pages; reads = reads; entries_are = refl }) apart)
