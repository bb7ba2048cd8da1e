use Rattle.std.proofs.Common.{◌∙◌, Option, Some, Ok, ap, sym, subst}
use Rattle.blsm_model.specs.declared.key.Key.{Key}
use Rattle.record_delta.specs.Entries.{above, first_of}
use Rattle.scan_view.specs.Scan.{IsScan, HaveRead}
use Rattle.scan_view.specs.Told.{view_by}
use Rattle.scan_view.proofs.LeftLemmas.{not_failed, failed_as, calm_of}
use Rattle.scan_view.proofs.ReadLemmas.{fronts_sorted, scan_read_further}
use Rattle.scan_view.proofs.ScanLemmas.{scan_further}
use Rattle.scan_view.proofs.scan.Scan.next.Goals as goal

pub returns-in_err-seek_all-clause-list : goal.returns-in_err-seek_all-clause-list
returns-in_err-seek_all-clause-list g c = λ file released lists pages is scan other.
    absurd (not_failed c.from_residual.ensures.1 c.in_err-seek_all.was other (λ calm. (c.seek_all.ensures.list file released lists pages is scan calm).0))

pub returns-in_default-clause-list : goal.returns-in_default-clause-list
returns-in_default-clause-list g c = λ file released lists pages is scan other.
    let came = c.seek_all.ensures.list file released lists pages is scan (calm_of c.seek_all.result tt c.in_ok-seek_all.was) in
    let now = came.1 in
    let none = c.in_default.ensures.first released lists now.sorted came.2 in
    (ap Ok (none ∙ ap (λ (at : Option Key). first_of (above at (view_by c.args.memory.now released lists))) c.seek_all.ensures.at), now)

pub returns-clause-list : goal.returns-clause-list
returns-clause-list g c = λ file released lists pages is scan other.
    let came = c.seek_all.ensures.list file released lists pages is scan (calm_of c.seek_all.result tt c.in_ok-seek_all.was) in
    let now = came.1 in
    let mid = c.seek_all.new.self in
    let some = c.in-Some.ensures.first released lists now.sorted came.2 in (
      ap Ok (some ∙ ap (λ (at : Option Key). first_of (above at (view_by c.args.memory.now released lists))) c.seek_all.ensures.at),
      subst (λ (key : Key). IsScan c.args.geo.now (record { c1 = mid.c1; c1x = mid.c1x; c2 = mid.c2; at = Some key }) released lists pages file) (sym c.copy.ensures)
          (scan_further c.args.geo.now mid c.in-Some.key released lists pages file c.in-Some.ensures.ahead now),
    )

pub returns-in_default-clause-read : goal.returns-in_default-clause-read
returns-in_default-clause-read g c = λ file of read is have.
    let came = c.in_ok-seek_all.ensures.read file of read is have in (
      came.0,
      λ all fronts. c.in_default.ensures.first of.released all (fronts_sorted of came.0.now all fronts) (came.1 all fronts)
          ∙ ap (λ (at : Option Key). first_of (above at (view_by c.args.memory.now of.released all))) c.seek_all.ensures.at,
    )

pub returns-clause-read : goal.returns-clause-read
returns-clause-read g c = λ file of read is have.
    let came = c.in_ok-seek_all.ensures.read file of read is have in
    let mid = c.seek_all.new.self in (
      record {
        now = came.0.now;
        read = subst (λ (key : Key). HaveRead c.args.geo.now of (record { c1 = mid.c1; c1x = mid.c1x; c2 = mid.c2; at = Some key }) came.0.now file) (sym c.copy.ensures)
            (scan_read_further c.args.geo.now file of mid c.in-Some.key came.0.now c.in-Some.ensures.ahead came.0.read);
        onward = came.0.onward;
      },
      λ all fronts. c.in-Some.ensures.first of.released all (fronts_sorted of came.0.now all fronts) (came.1 all fronts)
          ∙ ap (λ (at : Option Key). first_of (above at (view_by c.args.memory.now of.released all))) c.seek_all.ensures.at,
    )

pub returns-in_err-seek_all-clause-damaged : goal.returns-in_err-seek_all-clause-damaged
returns-in_err-seek_all-clause-damaged g c = λ k file of read damaged is have.
    c.seek_all.ensures.damaged k file of read (failed_as c.from_residual.ensures.1 c.in_err-seek_all.was damaged) is have

pub returns-clause-walks : goal.returns-clause-walks
returns-clause-walks g c = λ walks.
    let on = c.in_ok-seek_all.ensures.walks walks in
    (record { c1 = on.0.c1; c1x = on.0.c1x; c2 = on.0.c2 }, on.1)
