use Rattle.std.proofs.Common.{◌≡◌, ◌+◌, ◌/◌, [], false, None, refl, sym, subst}
use Rattle.std.specs.Prelude.{OnOk}
use Rattle.record_delta.specs.Entries.{Entries, above}
use Rattle.merge_ends.specs.Merge.{Covers as MergeCovers, IsMerging, progress}
use Rattle.merge_ends.specs.Output.{IsUpTo}
use Rattle.merge_ends.specs.Progress.{MergesOn, TakesQuantum, stage}
use Rattle.merge_ends.specs.Quantum.{IsQuantum}
use Rattle.merge_ends.proofs.MergeLemmas.{lent_merge}
use Rattle.snow_merge.specs.Pass.{SnowState, Covers, IsPass, progress_of_pass}
use Rattle.snow_merge.proofs.snow.Snow.quantum.Goals as goal

pub returns-clause-numbers : goal.returns-clause-numbers
returns-clause-numbers g c =
    let a = c.args.a.now.entries in
    let new = c.quantum.new.self in
    let before = g.D.Disk.state c.args.disk.now in
    let after = g.D.Disk.state c.quantum.new.disk in
    let least = c.args.geo.now.quantum in
    subst (λ (s : SnowState). MergesOn c.args.geo.now (least / 7 + 2) (TakesQuantum least) (stage (progress_of_pass s a) c.args.space.now c.args.filter.now c.args.fences.now before)
    (stage (progress new None a) c.quantum.new.space c.quantum.new.filter c.quantum.new.fences after) c.quantum.result) c.self.view_is
    (subst (λ (t : Entries). MergesOn c.args.geo.now (least / 7 + 2) (TakesQuantum least) (stage (progress c.self.inside.merge None a) c.args.space.now c.args.filter.now c.args.fences.now before)
    (stage (progress new None t) c.quantum.new.space c.quantum.new.filter c.quantum.new.fences after) c.quantum.result) c.quantum.ensures.same_table c.quantum.ensures.numbers)

pub returns-clause-pass : goal.returns-clause-pass
returns-clause-pass g c = λ pages all c1 honest same pass other.
    let a = c.args.a.now.entries in
    let sizes = c.args.geo.now in
    let d = g.D.Disk.state c.args.disk.now in
    let after = (g.D.Disk.state c.quantum.new.disk).bytes in
    let new = c.quantum.new.self in
    let old = subst (λ (s : SnowState). IsPass sizes d.bytes c.args.space.now s c.args.filter.now c.args.fences.now pages all c1)
    (sym c.self.view_is) pass in
    let here = subst (λ (s : SnowState). above s.at all ≡ above s.at a) (sym c.self.view_is) same in
    let went = c.quantum.ensures.lists [] pages all c1 honest (lent_merge c.self.inside.merge all all c1 a here old) other in
    let merging = subst (λ (t : Entries). IsMerging false sizes after c.quantum.new.space new None t c.quantum.new.filter c.quantum.new.fences []
    pages all c1)
    c.quantum.ensures.same_table went.2 in (
      went.0,
      went.1,
      lent_merge new a all c1 all refl merging,
      subst (λ (s : SnowState). IsQuantum sizes.quantum s.at new.at all c1 went.0) c.self.view_is went.3,
    )

pub returns-clause-covers : goal.returns-clause-covers
returns-clause-covers g c = λ total covers.
    let a = c.args.a.now.entries in
    let old = subst (λ (s : SnowState). Covers total s a) (sym c.self.view_is) covers in
    subst (λ (s : SnowState). OnOk c.quantum.result (MergeCovers false total c.quantum.new.self None a × IsUpTo s.closed c.quantum.new.self.closed)) c.self.view_is
    (subst (λ (t : Entries). OnOk c.quantum.result (MergeCovers false total c.quantum.new.self None t × IsUpTo c.self.inside.merge.closed c.quantum.new.self.closed))
    c.quantum.ensures.same_table (c.quantum.ensures.covers total old))
