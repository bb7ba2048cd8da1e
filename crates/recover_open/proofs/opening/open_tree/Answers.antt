use Rattle.std.proofs.Common.{◌≤◌, ap, sym, subst, IsTrue, List, Some, ℕ}
use Rattle.std.specs.Prelude.{IfErr, IfOk, Result, Ok, Err}
use Rattle.blsm_model.specs.Geometry.{capacity}
use Rattle.tree_settling.proofs.LightLemmas.{begins_light}
use Rattle.recover_open.proofs.BeginLemmas.{found_full}
use Rattle.tree_file.proofs.OneTree.{one_map, one_size}
use Rattle.tree_reading.specs.Reading.{HoldsFound, IsWhy}
use Rattle.tree_settling.specs.Settling.{CallsFew}
use Rattle.recover_open.specs.Opening.{HasOpenedOn, StandsEmpty, TellsSettled, most_opening_calls, weight_found}
use Rattle.recover_open.proofs.CountLemmas.{counted_as}
use Rattle.recover_open.proofs.TreeLemmas.{
  found_reads,
  long_as,
  opening_few,
  opening_takes,
  ready_as,
  stands_as,
  keeps_read,
  keeps_settled,
  keeps_same,
  spares_all,
  spares_on,
  stays_on,
  faults_on,
  takes_as,
}
use Rattle.recover_open.proofs.opening.open_tree.Goals as goal

pub returns-in_err-found-clause-keeps : goal.returns-in_err-found-clause-keeps
returns-in_err-found-clause-keeps g c = λ sizes pairs honest reads.
    let r = c.read_synced.ensures in
    keeps_read sizes pairs reads (r.same honest) (r.kept honest) (r.synced honest)

pub returns-in_err-found-clause-spares : goal.returns-in_err-found-clause-spares
returns-in_err-found-clause-spares g c = λ honest. spares_all c.from_residual.result (c.read_synced.ensures.kept honest)

-- ---- there is no memory for the history

pub returns-in_default-clause-keeps : goal.returns-in_default-clause-keeps
returns-in_default-clause-keeps g c = λ sizes pairs honest reads.
    let r = c.read_synced.ensures in
    keeps_read sizes pairs reads (r.same honest) (r.kept honest) (r.synced honest)

pub returns-in_default-clause-spares : goal.returns-in_default-clause-spares
returns-in_default-clause-spares g c = λ honest calm. c.read_synced.ensures.kept honest

pub returns-in_default-clause-untouched : goal.returns-in_default-clause-untouched
returns-in_default-clause-untouched g c = λ honest none. c.read_synced.ensures.kept honest

pub returns-in_default-clause-faults : goal.returns-in_default-clause-faults
returns-in_default-clause-faults g c = record {
  stands = λ other. c.in_ok-found.ensures.faults.stands (λ wrong. absurd cc);
  failed = λ wrong. absurd cc;
}

-- ---- it is settled

whatever : {A E P : Type 0} (result : Result A E) → P → IfOk result (λ done. P)
whatever (Ok done) holds = holds
whatever (Err why) holds = tt

pub returns-clause-history : goal.returns-clause-history
returns-clause-history g c = whatever c.settle_found.result (ap Some c.in-Ok.ensures)

pub settle_found-requires-clause-length : goal.settle_found-requires-clause-length
settle_found-requires-clause-length g c = λ tells.
    c.in_ok-found.ensures.length (subst IsTrue c.read_synced.ensures.effect.effect.goes_on.tells_bytes tells)

pub returns-clause-ready : goal.returns-clause-ready
returns-clause-ready g c =
    let f = c.in_ok-found.found in
    ready_as c.settle_found.result _ f.geometry f.catalogue.version c.in_ok-found.ensures.found.head.version c.settle_found.ensures.ready

pub returns-clause-long : goal.returns-clause-long
returns-clause-long g c =
    long_as c.settle_found.result c.in_ok-found.found.geometry _ (g.D.Disk.state c.args.disk.now) (g.D.Disk.state c.settle_found.new.disk) c.in_ok-found.ensures.was_long c.settle_found.ensures.ready

-- what settling tells of what was found, as the file was before
told : (g : _) (c : goal.After-settle_found g) → IsTrue (g.D.Disk.state c.args.disk.now).is_honest → (holds : HoldsFound c.in_ok-found.found (g.D.Disk.state c.read_synced.new.disk).bytes)
    → TellsSettled c.in_ok-found.found.geometry holds.tree c.settle_found.result (g.D.Disk.state c.read_synced.new.disk) (g.D.Disk.state c.settle_found.new.disk)
told g c honest holds = c.settle_found.ensures.tells (subst IsTrue (sym c.read_synced.ensures.effect.effect.goes_on.is_honest) honest) (c.in_ok-found.ensures.only honest) holds

still : (g : _) (c : goal.After-settle_found g) → IsTrue (g.D.Disk.state c.args.disk.now).is_honest → HoldsFound c.in_ok-found.found (g.D.Disk.state c.read_synced.new.disk).bytes
still g c honest = subst (HoldsFound c.in_ok-found.found) (sym (c.read_synced.ensures.same honest)) (c.in_ok-found.ensures.holds honest)

stands : (g : _) (c : goal.After-settle_found g) → IsTrue (g.D.Disk.state c.args.disk.now).is_honest
    → IfOk c.settle_found.result (λ begun. HasOpenedOn begun.runs (g.D.Disk.state c.args.disk.now).bytes
    (g.D.Disk.state c.settle_found.new.disk))
stands g c = λ honest.
    let f = c.in_ok-found.found in
    let holds = c.in_ok-found.ensures.holds honest in
    let over =
    subst (λ (file : List ℕ). (holds : HoldsFound f file) → IfOk c.settle_found.result
    (λ begun. StandsEmpty begun.runs holds.tree (g.D.Disk.state c.settle_found.new.disk)))
    (c.read_synced.ensures.same honest) (λ now. (told g c honest now).stands) in
    stands_as c.settle_found.result f f.catalogue.version _ _ holds c.in_ok-found.ensures.found.head.version c.settle_found.ensures.ready
    (over holds)

pub returns-clause-stands : goal.returns-clause-stands
returns-clause-stands g c = stands g c

pub returns-clause-refused : goal.returns-clause-refused
returns-clause-refused g c = λ honest.
    subst (λ (file : List ℕ). IfErr c.settle_found.result (λ why. IsWhy why file)) (c.read_synced.ensures.same honest) (told g c honest (still g c honest)).why

pub returns-clause-keeps : goal.returns-clause-keeps
returns-clause-keeps g c = λ sizes pairs honest reads.
    let r = c.read_synced.ensures in
    let timed = g.met.D.Disk.timed in
    let holds = still g c honest in
    let first = keeps_read sizes pairs reads (r.same honest) (r.kept honest) (r.synced honest) in
    keeps_settled sizes pairs (timed c.read_synced.new.disk) (timed c.settle_found.new.disk) first c.settle_found.ensures.effect.syncs
    (keeps_same c.in_ok-found.found sizes pairs one_size one_map holds first.reads (told g c honest holds).keeps)

pub returns-clause-untouched : goal.returns-clause-untouched
returns-clause-untouched g c = λ honest none.
    let f = c.in_ok-found.found in
    let holds = c.in_ok-found.ensures.holds honest in
    absurd (none f.geometry _ (found_reads f _ holds))

pub returns-clause-spares : goal.returns-clause-spares
returns-clause-spares g c = λ honest.
    spares_on (g.D.Disk.state c.settle_found.new.disk) c.settle_found.result (g.met.D.Disk.timed c.read_synced.new.disk) (c.read_synced.ensures.kept honest) (told g c honest (still g c honest)).spares

-- all that was found is within the capacity
full : (g : _) (c : goal.After-settle_found g) → weight_found c.in_ok-found.found ≤ capacity c.in_ok-found.found.geometry
full g c = found_full begins_light c.in_ok-found.found _ _ c.in_ok-found.ensures.found

-- what is called from the start on
called : (g : _) (c : goal.After-settle_found g) → CallsFew (most_opening_calls c.in_ok-found.found.geometry) (g.D.Disk.state c.args.disk.now) (g.D.Disk.state c.settle_found.new.disk)
called g c = opening_few _ c.in_ok-found.found.geometry (weight_found c.in_ok-found.found) c.in_ok-found.ensures.calls
    c.settle_found.ensures.effect.calls (full g c)

pub returns-clause-takes : goal.returns-clause-takes
returns-clause-takes g c =
    let f = c.in_ok-found.found in
    takes_as c.settle_found.result f.geometry f.catalogue.version (g.D.Disk.state c.args.disk.now) (g.D.Disk.state c.settle_found.new.disk)
    (opening_takes f (g.D.Disk.state c.args.disk.now) (g.D.Disk.state c.read_synced.new.disk) (g.D.Disk.state c.settle_found.new.disk)
    c.in_ok-found.ensures.few c.settle_found.ensures.effect.calls
    (called g c) (full g c) c.in_ok-found.ensures.found.head (λ honest. c.in_ok-found.ensures.holds honest))
    c.settle_found.ensures.ready

pub returns-clause-counts : goal.returns-clause-counts
returns-clause-counts g c =
    let f = c.in_ok-found.found in
    counted_as c.settle_found.result f f.catalogue.version (g.D.Disk.state c.args.disk.now) (g.D.Disk.state c.settle_found.new.disk)
    c.in_ok-found.ensures.found.head (λ honest. c.in_ok-found.ensures.holds honest) c.settle_found.ensures.counts c.settle_found.ensures.ready
    (stands g c)

pub returns-clause-effect : goal.returns-clause-effect
returns-clause-effect g c =
    stays_on c.in_ok-found.found.geometry _ (g.met.D.Disk.timed c.read_synced.new.disk) (c.in_ok-found.ensures.faults.stands (λ wrong. absurd cc))
    c.in_ok-found.ensures.was_long c.in_ok-found.ensures.found.head.geometry (called g c)
    c.read_synced.ensures.effect c.settle_found.ensures.effect

pub returns-clause-faults : goal.returns-clause-faults
returns-clause-faults g c = faults_on c.settle_found.result (c.in_ok-found.ensures.faults.stands (λ wrong. absurd cc)) c.settle_found.ensures.faults
