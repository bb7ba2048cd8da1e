use Rattle.std.proofs.Common.{IsTrue, sym, subst}
use Rattle.disk_trait.specs.Reads.{OnlyReads}
use Rattle.disk_trait.proofs.ReadLemmas.{only_reads_call}
use Rattle.tree_file.proofs.OneTree.{first_holds}
use Rattle.recover_open.proofs.MakingLemmas.{leaves_behind, unsynced_behind, effect_behind, made_empty}
use Rattle.recover_open.proofs.making.make_store.Goals as goal
use Rattle.recover_open.proofs.making.make_store.Goals.{After-make_store}

looked : (g : _) (c : After-make_store g) → OnlyReads 0 1 (g.D.Disk.state c.args.disk.now) (g.D.Disk.state c.len.new.self)
looked g c = let e = c.len.ensures in only_reads_call (g.met.D.Disk.timed c.args.disk.now) e.passes e.no_sync e.same e.images e.sure

pub returns-in_err-make_store-clause-leaves : goal.returns-in_err-make_store-clause-leaves
returns-in_err-make_store-clause-leaves g c = λ honest none.
    leaves_behind first_holds c.args.geometry.now (g.met.D.Disk.timed c.args.disk.now) (g.met.D.Disk.timed c.len.new.self) honest (looked g (goal.at.returns-in_err-make_store-clause-leaves g c).After-make_store)
    (c.make_store.ensures.half_made (subst IsTrue (sym c.len.ensures.passes.goes_on.is_honest) honest))

pub returns-in_err-make_store-clause-unsynced : goal.returns-in_err-make_store-clause-unsynced
returns-in_err-make_store-clause-unsynced g c = λ honest tells.
    let on = c.len.ensures.passes.goes_on in
    unsynced_behind honest (looked g (goal.at.returns-in_err-make_store-clause-unsynced g c).After-make_store) (c.make_store.ensures.unsynced (subst IsTrue (sym on.is_honest) honest) (subst IsTrue (sym on.tells_images) tells))

pub returns-in_err-make_store-clause-effect : goal.returns-in_err-make_store-clause-effect
returns-in_err-make_store-clause-effect g c =
    effect_behind c.args.geometry.now (g.met.D.Disk.timed c.len.new.self) c.in_ok-length.ensures.stands (looked g (goal.at.returns-in_err-make_store-clause-effect g c).After-make_store) c.make_store.ensures.effect

pub returns-clause-made : goal.returns-clause-made
returns-clause-made g c = λ honest.
    made_empty first_holds c.args.geometry.now c.in_ok-make_store.ensures.made (subst IsTrue (sym c.len.ensures.passes.goes_on.is_honest) honest)

pub returns-clause-leaves : goal.returns-clause-leaves
returns-clause-leaves g c = λ honest none.
    leaves_behind first_holds c.args.geometry.now (g.met.D.Disk.timed c.args.disk.now) (g.met.D.Disk.timed c.len.new.self) honest (looked g (goal.at.returns-clause-leaves g c).After-make_store)
    (c.make_store.ensures.half_made (subst IsTrue (sym c.len.ensures.passes.goes_on.is_honest) honest))

pub returns-clause-unsynced : goal.returns-clause-unsynced
returns-clause-unsynced g c = λ honest tells.
    let on = c.len.ensures.passes.goes_on in
    unsynced_behind honest (looked g (goal.at.returns-clause-unsynced g c).After-make_store) (c.make_store.ensures.unsynced (subst IsTrue (sym on.is_honest) honest) (subst IsTrue (sym on.tells_images) tells))

pub returns-clause-effect : goal.returns-clause-effect
returns-clause-effect g c =
    effect_behind c.args.geometry.now (g.met.D.Disk.timed c.len.new.self) c.in_ok-length.ensures.stands (looked g (goal.at.returns-clause-effect g c).After-make_store) c.make_store.ensures.effect
