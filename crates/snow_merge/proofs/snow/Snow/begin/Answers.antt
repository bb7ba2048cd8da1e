use Rattle.std.proofs.Common.{[], None, false, refl, sym, subst}
use Rattle.merge_ends.specs.Merge.{MergeState, Covers}
use Rattle.snow_merge.proofs.CoverLemmas.{covers_begun}
use Rattle.snow_merge.proofs.snow.Snow.begin.Goals as goal

pub returns-clause-pass : goal.returns-clause-pass
returns-clause-pass c = λ sizes file space a entries sorted list elsewhere.
    c.begin.ensures.merging false sizes file space None a [] a entries (sorted, refl) list elsewhere

pub returns-clause-covers : goal.returns-clause-covers
returns-clause-covers c = λ a total fits.
    subst (λ (m : MergeState). Covers false total m None a) (sym c.begin.ensures.started) (covers_begun a total c.args.role c.args.c1.now fits)
