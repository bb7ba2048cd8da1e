use Rattle.std.proofs.Common.{◌∙◌, ◌+◌, false, Option, inl, inr, ⊎_elim, ap, arith}
use Rattle.blsm_model.specs.declared.key.Key.{Key}
use Rattle.record_delta.specs.Entries.{above, first_of}
use Rattle.scan_view.specs.Hold.{splice}
use Rattle.scan_view.specs.Splice.{splice_pages}
use Rattle.std.proofs.lemmas.Result.{on_ok_weaker}
use Rattle.scan_view.proofs.LeftLemmas.{not_failed, failed_as, calm_of, file_on, reads_after, reads_err}
use Rattle.scan_view.proofs.scan.Scan.seek_all.Goals as goal

pub returns-in_err-seek-clause-list : goal.returns-in_err-seek-clause-list
returns-in_err-seek-clause-list g c = λ file released lists pages is scan other.
    absurd (not_failed c.from_residual.ensures.1 c.in_err-seek.was other (λ calm. (c.seek.ensures.list file lists.front lists.c1 pages is scan.c1 calm).0))

pub returns-in_err-seek-2-clause-list : goal.returns-in_err-seek-2-clause-list
returns-in_err-seek-2-clause-list g c = λ file released lists pages is scan other.
    absurd (not_failed c.from_residual-in_err-seek-2.ensures.1 c.in_err-seek-2.was other (λ calm. (c.seek-2.ensures.list false file lists.c1x pages (file_on c.seek.ensures.reads.effect is) scan.c1x calm).0))

pub returns-in_err-seek-2-clause-reads : goal.returns-in_err-seek-2-clause-reads
returns-in_err-seek-2-clause-reads g c =
    let total = splice_pages c.args.self.now.c1 + c.args.self.now.c1x.cursor.pages + c.args.self.now.c2.cursor.pages in
    reads_err c.from_residual-in_err-seek-2.ensures.1 c.in_err-seek-2.was
    (reads_after total (g.met.D.Disk.timed c.seek.new.disk) (c.seek.ensures.reads.stands (calm_of c.seek.result tt c.in_ok-seek.was)) c.seek.ensures.reads.effect c.seek-2.ensures.reads
    (omega (arith, c.in_ok-seek.ensures.one_a_page, c.seek-2.ensures.reads.effect.effect.calls)))

pub returns-clause-list : goal.returns-clause-list
returns-clause-list g c = λ file released lists pages is scan other.
    let first = c.seek.ensures.list file lists.front lists.c1 pages is scan.c1 (calm_of c.seek.result tt c.in_ok-seek.was) in
    let is_mid = file_on c.seek.ensures.reads.effect is in
    let second = c.seek-2.ensures.list false file lists.c1x pages is_mid scan.c1x (calm_of c.seek-2.result tt c.in_ok-seek-2.was) in
    let third = c.seek-3.ensures.list false file lists.c2 pages (file_on c.seek-2.ensures.reads.effect is_mid) scan.c2 other in (
      third.0,
      record {
        released_is = c.seek.ensures.released ∙ scan.released_is;
        c1 = first.1;
        c1x = second.1;
        c2 = third.1;
        sorted = scan.sorted;
      },
      record {
        c1 = first.2 ∙ ap (λ (key : Option Key). first_of (above c.args.self.now.at (splice lists.front key lists.c1))) scan.released_is;
        c1x = second.2;
        c2 = third.2;
      },
    )

pub returns-clause-read : goal.returns-clause-read
returns-clause-read g c = λ file of read is have.
    let is_mid = file_on c.seek.ensures.reads.effect is in
    let first = c.in_ok-seek.ensures.read file of.front of.c1 read.front read.c1 is have.c1 in
    let second = c.in_ok-seek-2.ensures.read false file of.c1x read.c1x is_mid have.c1x in
    on_ok_weaker c.seek-3.result (λ third. (
      record {
        now = record { front = first.0.now_front; c1 = first.0.now_rest; c1x = second.0.now; c2 = third.0.now };
        read = record {
          released = c.seek.ensures.released ∙ have.released;
          paged = have.paged;
          c1 = first.0.read;
          c1x = second.0.read;
          c2 = third.0.read;
        };
        onward = λ all fronts. record {
          front = first.0.onward_front all.front fronts.front;
          c1 = first.0.onward_rest all.c1 fronts.c1;
          c1x = second.0.onward all.c1x fronts.c1x;
          c2 = third.0.onward all.c2 fronts.c2;
        };
      },
      λ all fronts. record {
        c1 = first.1 all.front all.c1 fronts.front fronts.c1
            ∙ ap (λ (key : Option Key). first_of (above c.args.self.now.at (splice all.front key all.c1))) have.released;
        c1x = second.1 all.c1x fronts.c1x;
        c2 = third.1 all.c2 fronts.c2;
      },
    )) (c.seek-3.ensures.read false file of.c2 read.c2 (file_on c.seek-2.ensures.reads.effect is_mid) have.c2)

pub returns-in_err-seek-clause-damaged : goal.returns-in_err-seek-clause-damaged
returns-in_err-seek-clause-damaged g c = λ k file of read damaged is have.
    ⊎_elim (λ front. inl front) (λ behind. inr (inl behind))
    (c.seek.ensures.damaged k file of read.front read.c1 (failed_as c.from_residual.ensures.1 c.in_err-seek.was damaged) is have.released have.c1)

pub returns-in_err-seek-2-clause-damaged : goal.returns-in_err-seek-2-clause-damaged
returns-in_err-seek-2-clause-damaged g c = λ k file of read damaged is have.
    inr (inr (inl (c.seek-2.ensures.damaged false k file of.c1x read.c1x (failed_as c.from_residual-in_err-seek-2.ensures.1 c.in_err-seek-2.was damaged) (file_on c.seek.ensures.reads.effect is) have.c1x)))

pub returns-clause-damaged : goal.returns-clause-damaged
returns-clause-damaged g c = λ k file of read damaged is have.
    inr (inr (inr (c.seek-3.ensures.damaged false k file of.c2 read.c2 damaged (file_on c.seek-2.ensures.reads.effect (file_on c.seek.ensures.reads.effect is)) have.c2)))

pub returns-clause-reads : goal.returns-clause-reads
returns-clause-reads g c =
    let calm = c.seek.ensures.reads.stands (calm_of c.seek.result tt c.in_ok-seek.was) in
    let calm_mid = c.seek-2.ensures.reads.stands (calm_of c.seek-2.result tt c.in_ok-seek-2.was) ∙ calm in
    let total = splice_pages c.args.self.now.c1 + c.args.self.now.c1x.cursor.pages + c.args.self.now.c2.cursor.pages in
    let first = reads_after total (g.met.D.Disk.timed c.seek.new.disk) calm c.seek.ensures.reads.effect c.seek-2.ensures.reads
    (omega (arith, c.in_ok-seek.ensures.one_a_page, c.in_ok-seek-2.ensures.one_a_page)) in
    reads_after total (g.met.D.Disk.timed c.seek-2.new.disk) calm_mid first.effect c.seek-3.ensures.reads
    (omega (arith, c.in_ok-seek.ensures.one_a_page, c.in_ok-seek-2.ensures.one_a_page, c.seek-3.ensures.reads.effect.effect.calls))

pub returns-clause-walks : goal.returns-clause-walks
returns-clause-walks g c = λ walks.
    let first = c.in_ok-seek.ensures.walks walks.c1 in
    let second = c.in_ok-seek-2.ensures.walks walks.c1x in
    on_ok_weaker c.seek-3.result (λ third. (record { c1 = first.0; c1x = second.0; c2 = third.0 }, omega (arith, first.1, second.1, third.1))) (c.seek-3.ensures.walks walks.c2)
