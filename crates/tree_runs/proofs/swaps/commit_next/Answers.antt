use Rattle.std.proofs.lemmas.Result.{err_from_is_err_and}
use Rattle.std.proofs.lemmas.Bool.{false≢true}
use Rattle.std.proofs.Common.{◌∙◌, ℕ, sym, ap, subst, IsTrue, inl, inr, arith}
use Rattle.std.specs.Prelude.{is_ok}
use Rattle.disk_trait.specs.Effects.{Affects}
use Rattle.disk_trait.proofs.EffectLemmas.{affects_wider, affects_more}
use Rattle.disk_trait.specs.Region.{span}
use Rattle.blsm_model.specs.Geometry.{file_length}
use Rattle.catalog_swap.specs.declared.catalog.Catalog.{Catalog}
use Rattle.catalog_swap.specs.Slots.{slot_of, slot_length}
use Rattle.catalog_swap.specs.Swap.{IsPrepared}
use Rattle.tree_file.proofs.HoldsLemmas.{roles_of}
use Rattle.tree_file.proofs.StandLemmas.{stands_prepared, becomes_unfinished, becomes_behind, Prepares, Commits, reads_next_prepared}
use Rattle.tree_runs.specs.Holding.{commit_region}
use Rattle.tree_runs.proofs.CommitLemmas.{committed}
use Rattle.tree_runs.proofs.swaps.commit_next.Goals as goal

pub returns-in_err-prepare-clause-becomes : goal.returns-in_err-prepare-clause-becomes
returns-in_err-prepare-clause-becomes g c = λ tree after honest was is may stands reads.
    let sizes = c.args.geo.now in
    let old = g.D.Disk.state c.args.disk.now in
    let mid = g.D.Disk.state c.prepare.new.disk in
    let prepares : Prepares sizes c.args.now.now c.prepare.result old mid =
    record { each = c.prepare.ensures.each; reads = c.prepare.ensures.reads; ready = c.prepare.ensures.prepared; effect = c.prepare.ensures.effect } in
    let stays = stands_prepared sizes tree (subst (λ (k : Catalog). Prepares sizes k c.prepare.result old mid) (sym was) prepares) honest (g.met.D.Disk.timed c.prepare.new.disk) stands in
    becomes_unfinished after (λ well. let p = err_from_is_err_and c.from_residual.result c.from_residual.ensures.1 in false≢true (sym (ap is_ok p.1) ∙ well)) (g.met.D.Disk.timed c.prepare.new.disk) stays

pub returns-in_err-prepare-clause-effect : goal.returns-in_err-prepare-clause-effect
returns-in_err-prepare-clause-effect g c = affects_wider (λ i here. inl here) (omega arith) (omega arith) c.prepare.ensures.effect

pub returns-clause-becomes : goal.returns-clause-becomes
returns-clause-becomes g c = λ tree after honest was is may stands reads.
    let sizes = c.args.geo.now in
    let old = g.D.Disk.state c.args.disk.now in
    let mid = g.D.Disk.state c.prepare.new.disk in
    let new = g.D.Disk.state c.commit.new.disk in
    let prepares : Prepares sizes c.args.now.now c.prepare.result old mid =
    record { each = c.prepare.ensures.each; reads = c.prepare.ensures.reads; ready = c.prepare.ensures.prepared; effect = c.prepare.ensures.effect } in
    let commits : Commits sizes c.args.next.now c.commit.result mid new =
    record { each = c.commit.ensures.each; reads = c.commit.ensures.reads; committed = c.commit.ensures.committed; effect = c.commit.ensures.effect } in
    let of_tree = subst (λ (k : Catalog). Prepares sizes k c.prepare.result old mid) (sym was) prepares in
    let stays = stands_prepared sizes tree of_tree honest (g.met.D.Disk.timed c.prepare.new.disk) stands in
    let still : IsTrue mid.is_honest = subst IsTrue (sym c.prepare.ensures.effect.goes_on.is_honest) honest in
    let half = stands.reads.store.geometry.half.0 in
    becomes_behind stays.each
    (committed sizes tree after (may c.commit.ensures.key) (subst (λ (k : Catalog). Commits sizes k c.commit.result mid new) (sym is) commits) still (g.met.D.Disk.timed c.commit.new.disk)
    (stays.stands (ap is_ok c.in_ok-prepare.was))
    (subst (λ (k : Catalog). IsPrepared sizes k mid) (sym was) (c.in_ok-prepare.ensures.prepared honest))
    (reads_next_prepared sizes tree.catalogue after (omega (arith, half)) (roles_of stands.reads) of_tree.effect honest reads))

pub returns-clause-effect : goal.returns-clause-effect
returns-clause-effect g c =
    let mid = g.D.Disk.state c.prepare.new.disk in
    let new = g.D.Disk.state c.commit.new.disk in
    let first : Affects (commit_region c.args.geo.now c.args.now.now) (file_length c.args.geo.now) 4 (g.D.Disk.state c.args.disk.now) mid = affects_wider (λ i here. inl here) (omega arith) (omega arith) c.prepare.ensures.effect in
    let second = subst (λ (n : ℕ). Affects (span (slot_of n) slot_length) (file_length c.args.geo.now) 4 mid new) c.requires.version c.commit.ensures.effect in
    affects_more (g.met.D.Disk.timed c.prepare.new.disk) c.in_ok-prepare.ensures.faults first second (λ i here. inr here) (omega arith) (omega arith)
