use Rattle.std.proofs.Common.{◌∙◌, Ok, Err, Result, inl, ap, arith}
use Rattle.std.proofs.lemmas.Result.{err_from_is_err_and}
use Rattle.page_file.specs.declared.file.Broken.{Broken}
use Rattle.tree_runs.specs.Lookups.{found_by}
use Rattle.tree_runs.proofs.FindLemmas.{FindsAll, asks_by, below_by, damaged_by, ends_by, finds_all, finds_failed, finds_as, finds_failed_second}
use Rattle.tree_runs.proofs.FindLemmas.{finds_where, lists_by, reads_long, thrice_by}
use Rattle.tree_runs.proofs.runs.Runs.find.Goals as goal
use Rattle.tree_runs.proofs.runs.Runs.find.Goals.{After-find_below-3, After-from_residual, After-from_residual-in_err-find_below-2}

-- ---- the file stays as long

pub find_below-requires-2-clause-length : goal.find_below-requires-2-clause-length
find_below-requires-2-clause-length g c = reads_long (c.in_ok-find_below.ensures.reads 1 (inl (omega arith))) c.requires.length

pub find_below-requires-3-clause-length : goal.find_below-requires-3-clause-length
find_below-requires-3-clause-length g c =
    reads_long (c.in_ok-find_below-2.ensures.reads 1 (inl (omega arith))) (reads_long (c.in_ok-find_below.ensures.reads 1 (inl (omega arith))) c.requires.length)

-- ---- C1 wasn't read

first : (g : _) (c : After-from_residual g) → FindsAll c.args.self.now c.args.floor.now c.args.key.now c.args.found.now
    (found_by c.from_residual.result c.find_below.new.found) (g.D.Disk.state c.args.disk.now) (g.D.Disk.state c.find_below.new.disk)
first g c =
    let p = err_from_is_err_and c.from_residual.result c.from_residual.ensures.1 in
    let e = c.in_err-find_below.ensures in
    finds_failed c.args.self.now c.args.floor.now c.args.key.now (g.met.D.Disk.timed c.args.disk.now)
    (finds_as c.first_asked-role.ensures.run c.first_asked-role.ensures.role
    (below_by (Err c.in_err-find_below.field-0.0) c.find_below.new.found e.list e.told e.damaged e.reads
    (λ hides. ap g.D.Disk.state (e.none hides).0)))
    (ap (λ (r : Result (Unit {0}) Broken). found_by r c.find_below.new.found) (p.1 ∙ ap Err p.2))

pub returns-in_err-find_below-clause-lists : goal.returns-in_err-find_below-clause-lists
returns-in_err-find_below-clause-lists g c = lists_by c.from_residual.result c.find_below.new.found (first g c)

pub returns-in_err-find_below-clause-damaged : goal.returns-in_err-find_below-clause-damaged
returns-in_err-find_below-clause-damaged g c = damaged_by c.from_residual.result c.find_below.new.found (first g c)

pub returns-in_err-find_below-clause-asks : goal.returns-in_err-find_below-clause-asks
returns-in_err-find_below-clause-asks g c = asks_by c.from_residual.result c.find_below.new.found (first g c)

pub returns-in_err-find_below-clause-ends : goal.returns-in_err-find_below-clause-ends
returns-in_err-find_below-clause-ends g c = ends_by c.from_residual.result c.find_below.new.found (first g c)

pub returns-in_err-find_below-clause-reads : goal.returns-in_err-find_below-clause-reads
returns-in_err-find_below-clause-reads g c = thrice_by c.from_residual.result c.find_below.new.found (first g c)

-- ---- C1 was, and C1' wasn't

second : (g : _) (c : After-from_residual-in_err-find_below-2 g) → FindsAll c.args.self.now c.args.floor.now c.args.key.now c.args.found.now
    (found_by c.from_residual-in_err-find_below-2.result c.find_below-2.new.found) (g.D.Disk.state c.args.disk.now)
    (g.D.Disk.state c.find_below-2.new.disk)
second g c =
    let p = err_from_is_err_and c.from_residual-in_err-find_below-2.result c.from_residual-in_err-find_below-2.ensures.1 in
    let e = c.in_ok-find_below.ensures in
    let one = finds_as c.first_asked-role.ensures.run c.first_asked-role.ensures.role
    (below_by (Ok c.in_ok-find_below.field-0) c.find_below.new.found e.list e.told e.damaged e.reads
    (λ hides. ap g.D.Disk.state (e.none hides).0)) in
    let f = c.in_err-find_below-2.ensures in
    finds_failed_second c.args.self.now c.args.floor.now c.args.key.now (g.met.D.Disk.timed c.args.disk.now) one
    (g.met.D.Disk.timed c.find_below.new.disk)
    (finds_where (λ s. s.catalogue.c1x) (λ s. s.tags.c1x) c.self.view_is (below_by (Err c.in_err-find_below-2.field-0.0) c.find_below-2.new.found f.list f.told f.damaged f.reads (λ hides. ap g.D.Disk.state (f.none hides).0)))
    (ap (λ (r : Result (Unit {0}) Broken). found_by r c.find_below-2.new.found) (p.1 ∙ ap Err p.2))

pub returns-in_err-find_below-2-clause-lists : goal.returns-in_err-find_below-2-clause-lists
returns-in_err-find_below-2-clause-lists g c = lists_by c.from_residual-in_err-find_below-2.result c.find_below-2.new.found (second g c)

pub returns-in_err-find_below-2-clause-damaged : goal.returns-in_err-find_below-2-clause-damaged
returns-in_err-find_below-2-clause-damaged g c = damaged_by c.from_residual-in_err-find_below-2.result c.find_below-2.new.found (second g c)

pub returns-in_err-find_below-2-clause-asks : goal.returns-in_err-find_below-2-clause-asks
returns-in_err-find_below-2-clause-asks g c = asks_by c.from_residual-in_err-find_below-2.result c.find_below-2.new.found (second g c)

pub returns-in_err-find_below-2-clause-ends : goal.returns-in_err-find_below-2-clause-ends
returns-in_err-find_below-2-clause-ends g c = ends_by c.from_residual-in_err-find_below-2.result c.find_below-2.new.found (second g c)

pub returns-in_err-find_below-2-clause-reads : goal.returns-in_err-find_below-2-clause-reads
returns-in_err-find_below-2-clause-reads g c = thrice_by c.from_residual-in_err-find_below-2.result c.find_below-2.new.found (second g c)

-- ---- both were

third : (g : _) (c : After-find_below-3 g) → FindsAll c.args.self.now c.args.floor.now c.args.key.now c.args.found.now
    (found_by c.find_below-3.result c.find_below-3.new.found) (g.D.Disk.state c.args.disk.now) (g.D.Disk.state c.find_below-3.new.disk)
third g c =
    let e = c.in_ok-find_below.ensures in
    let one = finds_as c.first_asked-role.ensures.run c.first_asked-role.ensures.role
    (below_by (Ok c.in_ok-find_below.field-0) c.find_below.new.found e.list e.told e.damaged e.reads
    (λ hides. ap g.D.Disk.state (e.none hides).0)) in
    let f = c.in_ok-find_below-2.ensures in
    let two = finds_where (λ s. s.catalogue.c1x) (λ s. s.tags.c1x) c.self.view_is (below_by (Ok c.in_ok-find_below-2.field-0) c.find_below-2.new.found f.list f.told f.damaged f.reads (λ hides. ap g.D.Disk.state (f.none hides).0)) in
    let l = c.find_below-3.ensures in
    let three = finds_where (λ s. s.catalogue.c2) (λ s. s.tags.c2) c.self.view_is (below_by c.find_below-3.result c.find_below-3.new.found l.list l.told l.damaged l.reads (λ hides. ap g.D.Disk.state (l.none hides).0)) in
    finds_all c.args.self.now c.args.floor.now c.args.key.now (g.met.D.Disk.timed c.args.disk.now) one (g.met.D.Disk.timed c.find_below.new.disk) two
    (g.met.D.Disk.timed c.find_below-2.new.disk) three

pub returns-clause-lists : goal.returns-clause-lists
returns-clause-lists g c = lists_by c.find_below-3.result c.find_below-3.new.found (third g c)

pub returns-clause-damaged : goal.returns-clause-damaged
returns-clause-damaged g c = damaged_by c.find_below-3.result c.find_below-3.new.found (third g c)

pub returns-clause-asks : goal.returns-clause-asks
returns-clause-asks g c = asks_by c.find_below-3.result c.find_below-3.new.found (third g c)

pub returns-clause-ends : goal.returns-clause-ends
returns-clause-ends g c = ends_by c.find_below-3.result c.find_below-3.new.found (third g c)

pub returns-clause-reads : goal.returns-clause-reads
returns-clause-reads g c = thrice_by c.find_below-3.result c.find_below-3.new.found (third g c)

pub returns-clause-told : goal.returns-clause-told
returns-clause-told g c = (third g c).tells.told
